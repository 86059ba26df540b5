use Rattle.std.proofs.Common.{◌≡◌, ◌∙◌, ◌+◌, ◌≤◌, List, Some, length, length-take, length-take-le, length-drop, take, drop, ap, refl, arith}
use Rattle.std.specs.Prelude.{option_map, slice_get}
use Rattle.std.proofs.lemmas.List.{drop_all, length-map}
use Rattle.std.proofs.lemmas.Option.{slice_get-map}
use Rattle.insight_model.specs.Facts.{Kept, pairs}
use Rattle.insight_model.specs.Trace.{kept_lines, kept_text, marked_after}
use Rattle.cycle_watch.specs.declared.mark.Mark.{Mark}
use Rattle.cycle_watch.specs.Shown.{shown_in}
use Rattle.cycle_watch.specs.Facts.{facts_in, window_in}
use Rattle.cycle_watch.specs.Traced.{mark_in, marks_in}
use Rattle.cycle_watch.specs.Writing.{stand}
use Rattle.cycle_watch.proofs.TraceMarks.{stayed_all, stayed_mark, stayed_none, stayed_step, was_mark_in}
use Rattle.cycle_watch.proofs.TraceSteps.{kept_step, pair_at}
use Rattle.cycle_watch.proofs.Windows.{get_dropped, get_taken, pairs_length}
use Rattle.cycle_watch.proofs.Writing.{far_broken, far_end, far_start, far_step, tells_err}
use Rattle.cycle_watch.proofs.trace.tell_stayed.Goals as goal

pub loop-place-init : goal.loop-place-init
loop-place-init g c =
    let f = c.args.facts.now in
    let last = c.args.last.now in
    let w = window_in last.marks.items in
    let after = (g.S.Watched.sight c.args.side.now).window in
    let F = facts_in w after f in
    let ks = pairs (drop f.left w) (take f.kept after) in
    let was = c.args.told.now.marks.items in
    record {
      ready = c.requires.ready;
      room = refl;
      stayed = stayed_none last.pipeline last.params F ks was;
      far = far_start f.cycle (kept_lines last.pipeline last.params F 0 ks (marks_in was)) (kept_lines last.pipeline last.params F 0 ks (marks_in was))
          (stand c.args.text.now (g.K.Sink.faults c.args.sink.now) (g.K.Sink.written c.args.sink.now)) refl;
    }

pub overflow_add-facts : goal.overflow_add-facts
overflow_add-facts g c = omega (arith, c.requires.left, c.requires.few)

pub returns-in_err-tell_stayed_one-clause-told : goal.returns-in_err-tell_stayed_one-clause-told
returns-in_err-tell_stayed_one-clause-told g c =
    let f = c.args.facts.now in
    let last = c.args.last.now in
    let items = last.marks.items in
    let w = window_in items in
    let after = (g.S.Watched.sight c.args.side.now).window in
    let F = facts_in w after f in
    let ks = pairs (drop f.left w) (take f.kept after) in
    let was = c.args.told.now.marks.items in
    let ms = marks_in was in
    let now = c.loop-place.told.marks.items in
    let place = c.loop-place.place in
    let x = shown_in c.mark.result.now.shown in
    let k : Kept = record { before = x; after = shown_in c.shown-after.result } in
    let here : slice_get (drop f.left w) place ≡ Some x =
    get_dropped w f.left place ∙ slice_get-map (λ (m : Mark). shown_in m.shown) items (f.left + place) ∙ ap (option_map (λ (m : Mark). shown_in m.shown)) c.mark.ensures.mark in
    let there : slice_get (take f.kept after) place ≡ Some k.after = get_taken after f.kept place (omega arith) ∙ c.shown-after.ensures.shown in
    let at : slice_get ks place ≡ Some k = pair_at (drop f.left w) (take f.kept after) place x k.after here there in
    let old = c.at-was.result in
    let new = c.after-is.result in
    let marked : mark_in new ≡ marked_after last.pipeline last.params F k (mark_in old) =
    stayed_mark last.pipeline last.params F k old new c.after-is.ensures.number c.after-is.ensures.miss c.after-is.ensures.cell in
    let s = c.loop-place.invariant.stayed in
    let was_there = was_mark_in last.pipeline last.params F ks place was now s old c.at-was.ensures.mark in
    let step = kept_step last.pipeline last.params F place ks ms k (mark_in old) (mark_in new) at was_there marked in
    tells_err _ f.cycle (kept_lines last.pipeline last.params F 0 ks ms) _ _ c.from_residual.result c.from_residual.ensures.1
    (far_broken f.cycle (kept_lines last.pipeline last.params F 0 ks ms) (kept_text last.pipeline F place k (mark_in old) (mark_in new))
    (kept_lines last.pipeline last.params F place (drop place ks) (drop place ms)) (kept_lines last.pipeline last.params F (place + 1) (drop (place + 1) ks) (drop (place + 1) ms))
    _ _ _ c.loop-place.invariant.far step (c.in_err-tell_stayed_one.ensures.told F place c.is_mispredicted-is_wrong.ensures.wrong))

pub loop-place-preserved : goal.loop-place-preserved
loop-place-preserved g c =
    let f = c.args.facts.now in
    let last = c.args.last.now in
    let items = last.marks.items in
    let w = window_in items in
    let after = (g.S.Watched.sight c.args.side.now).window in
    let F = facts_in w after f in
    let ks = pairs (drop f.left w) (take f.kept after) in
    let was = c.args.told.now.marks.items in
    let ms = marks_in was in
    let now = c.loop-place.told.marks.items in
    let place = c.loop-place.place in
    let x = shown_in c.mark.result.now.shown in
    let k : Kept = record { before = x; after = shown_in c.shown-after.result } in
    let here : slice_get (drop f.left w) place ≡ Some x =
    get_dropped w f.left place ∙ slice_get-map (λ (m : Mark). shown_in m.shown) items (f.left + place) ∙ ap (option_map (λ (m : Mark). shown_in m.shown)) c.mark.ensures.mark in
    let there : slice_get (take f.kept after) place ≡ Some k.after = get_taken after f.kept place (omega arith) ∙ c.shown-after.ensures.shown in
    let at : slice_get ks place ≡ Some k = pair_at (drop f.left w) (take f.kept after) place x k.after here there in
    let old = c.at-was.result in
    let new = c.after-is.result in
    let marked : mark_in new ≡ marked_after last.pipeline last.params F k (mark_in old) =
    stayed_mark last.pipeline last.params F k old new c.after-is.ensures.number c.after-is.ensures.miss c.after-is.ensures.cell in
    let s = c.loop-place.invariant.stayed in
    let was_there = was_mark_in last.pipeline last.params F ks place was now s old c.at-was.ensures.mark in
    let step = kept_step last.pipeline last.params F place ks ms k (mark_in old) (mark_in new) at was_there marked in
    record {
      ready = c.tell_stayed_one.ensures.ready;
      room = c.put.ensures.capacity ∙ c.loop-place.invariant.room;
      stayed = stayed_step last.pipeline last.params F ks place was now s k old new c.put.new.self.marks.items at c.at-was.ensures.mark marked c.after-is.ensures.writes c.put.ensures.items;
      far = far_step f.cycle (kept_lines last.pipeline last.params F 0 ks ms) (kept_text last.pipeline F place k (mark_in old) (mark_in new))
          (kept_lines last.pipeline last.params F place (drop place ks) (drop place ms)) (kept_lines last.pipeline last.params F (place + 1) (drop (place + 1) ks) (drop (place + 1) ms))
          _ _ _ c.loop-place.invariant.far step (c.in_ok-tell_stayed_one.ensures.told F place c.is_mispredicted-is_wrong.ensures.wrong);
    }

pub returns : goal.returns
returns g c =
    let f = c.args.facts.now in
    let last = c.args.last.now in
    let items = last.marks.items in
    let w = window_in items in
    let after = (g.S.Watched.sight c.args.side.now).window in
    let F = facts_in w after f in
    let ks = pairs (drop f.left w) (take f.kept after) in
    let was = c.args.told.now.marks.items in
    let place = c.loop-place.place in
    let count : length ks ≡ f.kept =
    pairs_length (drop f.left w) (take f.kept after) (omega (arith, length-take f.kept after, length-drop f.left w, length-map items (λ (m : Mark). shown_in m.shown), c.requires.kept)) ∙ length-take-le f.kept after c.requires.after in
    let over : length ks ≤ place = omega (arith, count) in
    let s = c.loop-place.invariant.stayed in
    record {
      ready = c.loop-place.invariant.ready;
      capacity = c.loop-place.invariant.room;
      told = far_end f.cycle (kept_lines last.pipeline last.params F 0 ks (marks_in was)) (kept_lines last.pipeline last.params F place (drop place ks) (drop place (marks_in was))) _ _ c.loop-place.invariant.far
          (ap (λ (l : List Kept). kept_lines last.pipeline last.params F place l (drop place (marks_in was))) (drop_all place ks over));
      marks = stayed_all last.pipeline last.params F ks place was c.loop-place.told.marks.items s over (omega (arith, c.requires.marked));
      writes = s.writes;
    }

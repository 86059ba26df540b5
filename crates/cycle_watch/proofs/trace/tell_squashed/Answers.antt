use Rattle.std.proofs.Common.{◌≡◌, ◌∙◌, ◌+◌, ◌-◌, ◌++◌, ◌∷◌, [], ℕ, List, Some, length, length-take-le, take, drop, ap, codes, sym, arith}
use Rattle.std.specs.Prelude.{option_map, slice_get}
use Rattle.std.specs.Option.{option_map_or}
use Rattle.std.proofs.lemmas.List.{drop-drop, drop_all, length-map}
use Rattle.std.proofs.lemmas.Option.{slice_get-map}
use Rattle.insight_model.specs.Cause.{cause_name}
use Rattle.insight_model.specs.Sight.{Shown}
use Rattle.insight_model.specs.Trace.{last_line, note_line, squashed_lines, wrong_notes}
use Rattle.cycle_watch.specs.declared.mark.Mark.{Mark}
use Rattle.cycle_watch.specs.Shown.{shown_in}
use Rattle.cycle_watch.specs.Facts.{facts_in, window_in}
use Rattle.cycle_watch.specs.Traced.{mark_in, marks_in}
use Rattle.cycle_watch.specs.Writing.{stand}
use Rattle.cycle_watch.proofs.TraceSteps.{name_of, squashed_step}
use Rattle.cycle_watch.proofs.Writing.{far_broken, far_end, far_start, far_step, tells_err}
use Rattle.cycle_watch.proofs.trace.tell_squashed.Goals as goal

pub loop-place-init : goal.loop-place-init
loop-place-init g c =
    let f = c.args.facts.now in
    let w = window_in c.args.last.now.marks.items in
    let ms = marks_in c.args.told.now.marks.items in
    let F = facts_in w (g.S.Watched.sight c.args.side.now).window f in
    let n : f.left + f.kept - f.left ≡ f.kept = omega arith in
    record {
      ready = c.requires.ready;
      far = far_start f.cycle (squashed_lines F f.kept (drop f.kept (drop f.left w)) (drop f.kept (drop f.left ms))) (squashed_lines F (f.left + f.kept - f.left) (drop (f.left + f.kept) w) (drop (f.left + f.kept) ms))
          (stand c.args.text.now (g.K.Sink.faults c.args.sink.now) (g.K.Sink.written c.args.sink.now))
          (λ i. squashed_lines F (n i) (sym (drop-drop f.kept f.left w) i) (sym (drop-drop f.kept f.left ms) i));
    }

pub returns-in_err-tell_squashed_one-clause-told : goal.returns-in_err-tell_squashed_one-clause-told
returns-in_err-tell_squashed_one-clause-told g c =
    let f = c.args.facts.now in
    let items = c.args.last.now.marks.items in
    let w = window_in items in
    let ms = marks_in c.args.told.now.marks.items in
    let F = facts_in w (g.S.Watched.sight c.args.side.now).window f in
    let place = c.loop-place.place in
    let rec = shown_in c.mark.result.now.shown in
    let mark = mark_in c.at-number.result in
    let here : slice_get w place ≡ Some rec = slice_get-map (λ (m : Mark). shown_in m.shown) items place ∙ ap (option_map (λ (m : Mark). shown_in m.shown)) c.mark.ensures.mark in
    let there : slice_get ms place ≡ Some mark = slice_get-map mark_in c.args.told.now.marks.items place ∙ ap (option_map mark_in) c.at-number.ensures.mark in
    let size : length (take f.left w) ≡ f.left = length-take-le f.left w (omega (arith, c.requires.left, length-map items (λ (m : Mark). shown_in m.shown))) in
    let b = c.is_mispredicted-is_wrong.result in
    let name = option_map_or cause_name c.flush_cause-flush.result [] in
    let step = squashed_step F b (place - f.left) place w ms rec mark name (f.number + place) here there c.is_mispredicted-is_wrong.ensures.wrong
    (name_of f.flush c.flush_cause-flush.result c.flush_cause-flush.ensures.cause) (omega (arith, size)) in
    let n : place - f.left + 1 ≡ place + 1 - f.left = omega arith in
    tells_err _ f.cycle (squashed_lines F f.kept (drop f.kept (drop f.left w)) (drop f.kept (drop f.left ms))) _ _ c.from_residual.result c.from_residual.ensures.1
    (far_broken f.cycle (squashed_lines F f.kept (drop f.kept (drop f.left w)) (drop f.kept (drop f.left ms)))
    (wrong_notes b mark.number rec ++ note_line mark.number (codes "squashed: " ++ name) ∷ last_line mark.number (f.number + place) (codes "1") ∷ [])
    (squashed_lines F (place - f.left) (drop place w) (drop place ms)) (squashed_lines F (place - f.left + 1) (drop (place + 1) w) (drop (place + 1) ms))
    _ _ _ c.loop-place.invariant.far step c.in_err-tell_squashed_one.ensures.told)

pub loop-place-preserved : goal.loop-place-preserved
loop-place-preserved g c =
    let f = c.args.facts.now in
    let items = c.args.last.now.marks.items in
    let w = window_in items in
    let ms = marks_in c.args.told.now.marks.items in
    let F = facts_in w (g.S.Watched.sight c.args.side.now).window f in
    let place = c.loop-place.place in
    let rec = shown_in c.mark.result.now.shown in
    let mark = mark_in c.at-number.result in
    let here : slice_get w place ≡ Some rec = slice_get-map (λ (m : Mark). shown_in m.shown) items place ∙ ap (option_map (λ (m : Mark). shown_in m.shown)) c.mark.ensures.mark in
    let there : slice_get ms place ≡ Some mark = slice_get-map mark_in c.args.told.now.marks.items place ∙ ap (option_map mark_in) c.at-number.ensures.mark in
    let size : length (take f.left w) ≡ f.left = length-take-le f.left w (omega (arith, c.requires.left, length-map items (λ (m : Mark). shown_in m.shown))) in
    let b = c.is_mispredicted-is_wrong.result in
    let name = option_map_or cause_name c.flush_cause-flush.result [] in
    let step = squashed_step F b (place - f.left) place w ms rec mark name (f.number + place) here there c.is_mispredicted-is_wrong.ensures.wrong
    (name_of f.flush c.flush_cause-flush.result c.flush_cause-flush.ensures.cause) (omega (arith, size)) in
    let n : place - f.left + 1 ≡ place + 1 - f.left = omega arith in
    record {
      ready = c.tell_squashed_one.ensures.ready;
      far = far_step f.cycle (squashed_lines F f.kept (drop f.kept (drop f.left w)) (drop f.kept (drop f.left ms)))
          (wrong_notes b mark.number rec ++ note_line mark.number (codes "squashed: " ++ name) ∷ last_line mark.number (f.number + place) (codes "1") ∷ [])
          (squashed_lines F (place - f.left) (drop place w) (drop place ms)) (squashed_lines F (place + 1 - f.left) (drop (place + 1) w) (drop (place + 1) ms))
          _ _ _ c.loop-place.invariant.far
          (step ∙ ap (λ (k : ℕ). (wrong_notes b mark.number rec ++ note_line mark.number (codes "squashed: " ++ name) ∷ last_line mark.number (f.number + place) (codes "1") ∷ [])
          ++ squashed_lines F k (drop (place + 1) w) (drop (place + 1) ms)) n)
          c.in_ok-tell_squashed_one.ensures.told;
    }

pub returns-clause-told : goal.returns-clause-told
returns-clause-told g c =
    let f = c.args.facts.now in
    let items = c.args.last.now.marks.items in
    let w = window_in items in
    let ms = marks_in c.args.told.now.marks.items in
    let F = facts_in w (g.S.Watched.sight c.args.side.now).window f in
    let place = c.loop-place.place in
    let none : drop place w ≡ [] = drop_all place w (omega (arith, c.requires.all, length-map items (λ (m : Mark). shown_in m.shown))) in
    far_end f.cycle _ (squashed_lines F (place - f.left) (drop place w) (drop place ms)) _ _ c.loop-place.invariant.far
    (ap (λ (l : List Shown). squashed_lines F (place - f.left) l (drop place ms)) none)

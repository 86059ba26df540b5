use Rattle.std.proofs.Common.{◌≡◌, ◌∙◌, ◌+◌, ◌++◌, ◌∷◌, [], ℕ, Some, length, length-take-le, take, drop, ap, codes, arith}
use Rattle.std.specs.Prelude.{option_map, slice_get}
use Rattle.std.specs.Option.{option_map_or}
use Rattle.std.proofs.lemmas.List.{length-map}
use Rattle.std.proofs.lemmas.Option.{slice_get-map}
use Rattle.insight_model.specs.Sight.{outcome_shown}
use Rattle.insight_model.specs.Trace.{last_line, left_lines, lines_if, trap_note}
use Rattle.cycle_watch.specs.declared.mark.Mark.{Mark}
use Rattle.cycle_watch.specs.Shown.{shown_in}
use Rattle.cycle_watch.specs.Facts.{window_in}
use Rattle.cycle_watch.specs.Traced.{mark_in, marks_in}
use Rattle.cycle_watch.specs.Writing.{stand}
use Rattle.cycle_watch.proofs.TraceSteps.{left_step, trapped_last, trapped_other}
use Rattle.cycle_watch.proofs.Windows.{get_taken}
use Rattle.cycle_watch.proofs.Writing.{far_broken, far_start, far_step, tells_err}
use Rattle.cycle_watch.proofs.trace.tell_left.Goals as goal

pub loop-place-init : goal.loop-place-init
loop-place-init g c =
    let f = c.args.facts.now in
    let w = take f.left (window_in c.args.last.now.marks.items) in
    let ms = marks_in c.args.told.now.marks.items in
    let none : f.number + 0 ≡ f.number = omega arith in
    record {
      ready = c.requires.ready;
      far = far_start f.cycle (left_lines f.trapped f.number w ms) (left_lines f.trapped (f.number + 0) w ms)
          (stand c.args.text.now (g.K.Sink.faults c.args.sink.now) (g.K.Sink.written c.args.sink.now)) (ap (λ (n : ℕ). left_lines f.trapped n w ms) none);
    }

pub returns-in_err-tell_left_one-clause-told : goal.returns-in_err-tell_left_one-clause-told
returns-in_err-tell_left_one-clause-told g c =
    let f = c.args.facts.now in
    let items = c.args.last.now.marks.items in
    let w = take f.left (window_in items) in
    let ms = marks_in c.args.told.now.marks.items in
    let place = c.loop-place.place in
    let rec = shown_in c.mark.result.now.shown in
    let mark = mark_in c.at-number.result in
    let here : slice_get w place ≡ Some rec =
    get_taken (window_in items) f.left place (omega arith) ∙ slice_get-map (λ (m : Mark). shown_in m.shown) items place ∙ ap (option_map (λ (m : Mark). shown_in m.shown)) c.mark.ensures.mark in
    let there : slice_get ms place ≡ Some mark = slice_get-map mark_in c.args.told.now.marks.items place ∙ ap (option_map mark_in) c.at-number.ensures.mark in
    let size : length w ≡ f.left = length-take-le f.left (window_in items) (omega (arith, c.requires.left, length-map items (λ (m : Mark). shown_in m.shown))) in
    let b = c.has_trapped-trapped.result in
    let step = left_step f.trapped b f.number place w ms rec mark here there
    (λ last. trapped_last f.trapped b place f.left (length w) c.has_trapped-trapped.ensures.trapped size last)
    (λ other. trapped_other f.trapped b place f.left (length w) c.has_trapped-trapped.ensures.trapped size other) in
    tells_err _ f.cycle (left_lines f.trapped f.number w ms) _ _ c.from_residual.result c.from_residual.ensures.1
    (far_broken f.cycle (left_lines f.trapped f.number w ms)
    (lines_if b (option_map_or (trap_note mark.number) (outcome_shown rec) []) ++ last_line mark.number (f.number + place) (codes "0") ∷ [])
    (left_lines f.trapped (f.number + place) (drop place w) (drop place ms)) (left_lines f.trapped (f.number + (place + 1)) (drop (place + 1) w) (drop (place + 1) ms))
    _ _ _ c.loop-place.invariant.far step c.in_err-tell_left_one.ensures.told)

pub loop-place-preserved : goal.loop-place-preserved
loop-place-preserved g c =
    let f = c.args.facts.now in
    let items = c.args.last.now.marks.items in
    let w = take f.left (window_in items) in
    let ms = marks_in c.args.told.now.marks.items in
    let place = c.loop-place.place in
    let rec = shown_in c.mark.result.now.shown in
    let mark = mark_in c.at-number.result in
    let here : slice_get w place ≡ Some rec =
    get_taken (window_in items) f.left place (omega arith) ∙ slice_get-map (λ (m : Mark). shown_in m.shown) items place ∙ ap (option_map (λ (m : Mark). shown_in m.shown)) c.mark.ensures.mark in
    let there : slice_get ms place ≡ Some mark = slice_get-map mark_in c.args.told.now.marks.items place ∙ ap (option_map mark_in) c.at-number.ensures.mark in
    let size : length w ≡ f.left = length-take-le f.left (window_in items) (omega (arith, c.requires.left, length-map items (λ (m : Mark). shown_in m.shown))) in
    let b = c.has_trapped-trapped.result in
    let step = left_step f.trapped b f.number place w ms rec mark here there
    (λ last. trapped_last f.trapped b place f.left (length w) c.has_trapped-trapped.ensures.trapped size last)
    (λ other. trapped_other f.trapped b place f.left (length w) c.has_trapped-trapped.ensures.trapped size other) in
    record {
      ready = c.tell_left_one.ensures.ready;
      far = far_step f.cycle (left_lines f.trapped f.number w ms)
          (lines_if b (option_map_or (trap_note mark.number) (outcome_shown rec) []) ++ last_line mark.number (f.number + place) (codes "0") ∷ [])
          (left_lines f.trapped (f.number + place) (drop place w) (drop place ms)) (left_lines f.trapped (f.number + (place + 1)) (drop (place + 1) w) (drop (place + 1) ms))
          _ _ _ c.loop-place.invariant.far step c.in_ok-tell_left_one.ensures.told;
    }

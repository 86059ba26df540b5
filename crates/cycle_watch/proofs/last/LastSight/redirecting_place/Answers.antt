use Rattle.std.proofs.Common.{◌≡◌, ◌∙◌, ◌≤◌, Some, length, option_map, ap, sym, arith}
use Rattle.std.proofs.lemmas.List.{length-map}
use Rattle.std.specs.Prelude.{slice_get}
use Rattle.std.proofs.lemmas.Option.{slice_get-map}
use Rattle.insight_model.specs.Facts.{is_redirecting}
use Rattle.cycle_watch.specs.declared.mark.Mark.{Mark}
use Rattle.cycle_watch.specs.Shown.{shown_in}
use Rattle.cycle_watch.specs.Facts.{window_in}
use Rattle.cycle_watch.proofs.Finding.{found_at, found_none, none_next}
use Rattle.cycle_watch.proofs.last.LastSight.redirecting_place.Goals as goal

pub returns-then-is_redirecting : goal.returns-then-is_redirecting
returns-then-is_redirecting c =
    let last = c.args.self.now in
    let place = c.loop-place.place in
    let order : c.args.left ≤ place = omega arith in
    let here : slice_get (window_in last.marks.items) place ≡ Some (shown_in c.mark.result.now.shown) =
    slice_get-map (λ (m : Mark). shown_in m.shown) last.marks.items place ∙ ap (option_map (λ (m : Mark). shown_in m.shown)) c.mark.ensures.mark in
    record {
      place = sym (found_at (is_redirecting last.cycle) (window_in last.marks.items) c.args.left place (shown_in c.mark.result.now.shown) order here
          (sym c.is_redirecting.ensures.redirecting ∙ c.if-is_redirecting.true) c.loop-place.invariant);
    }

pub loop-place-preserved : goal.loop-place-preserved
loop-place-preserved c =
    let last = c.args.self.now in
    let place = c.loop-place.place in
    let order : c.args.left ≤ place = omega arith in
    let here : slice_get (window_in last.marks.items) place ≡ Some (shown_in c.mark.result.now.shown) =
    slice_get-map (λ (m : Mark). shown_in m.shown) last.marks.items place ∙ ap (option_map (λ (m : Mark). shown_in m.shown)) c.mark.ensures.mark in
    none_next (is_redirecting last.cycle) (window_in last.marks.items) c.args.left place (shown_in c.mark.result.now.shown) order here
    (sym c.is_redirecting.ensures.redirecting ∙ c.if-is_redirecting.false) c.loop-place.invariant

pub returns : goal.returns
returns c =
    let last = c.args.self.now in
    let order : c.args.left ≤ c.loop-place.place = omega arith in
    let over : length (window_in last.marks.items) ≤ c.loop-place.place = omega (arith, length-map last.marks.items (λ (m : Mark). shown_in m.shown)) in
    record { place = sym (found_none (is_redirecting last.cycle) (window_in last.marks.items) c.args.left c.loop-place.place order over c.loop-place.invariant) }

use Rattle.std.proofs.Common.{◌≡◌, ◌+◌, ◌-◌, ◌≤◌, List, ◌++◌, drop, length, refl, ap, subst, arith}
use Rattle.std.proofs.lemmas.List.{length-drop, length-map, take_all}
use Rattle.insight_model.specs.Sight.{Shown}
use Rattle.insight_model.specs.Profile.{events_at, fetched}
use Rattle.cycle_watch.specs.declared.mark.Mark.{Mark}
use Rattle.cycle_watch.specs.declared.profile.Profiling.{Profiling}
use Rattle.cycle_watch.specs.Facts.{window_in}
use Rattle.cycle_watch.specs.Shown.{shown_in}
use Rattle.cycle_watch.specs.Profiled.{HasCounted}
use Rattle.cycle_watch.proofs.RowLists.{appends_next, rest_on, shown_at}
use Rattle.cycle_watch.proofs.profile.Profiling.count_appended.Goals as goal

pub loop-place-preserved : goal.loop-place-preserved
loop-place-preserved c =
    let old = c.args.self.now in
    let now = c.loop-place.self in
    let new = c.count_one_appended.new.self in
    let place = c.loop-place.place in
    let mark = c.mark.result.now in
    let has = c.loop-place.invariant in
    record {
      counted =
          appends_next c.args.facts.now.kept place (place + 1) (window_in old.heads.last.marks.items) (shown_in mark.shown) old now new (omega (arith, c.loop-place.auto.place))
          (shown_at old now place mark (ap (λ (x : Profiling). x.heads) has.rest) c.mark.ensures.mark) refl has.counted (record { each = c.count_one_appended.ensures.counted });
      rest = rest_on old now new has.rest c.count_one_appended.ensures.rest;
      each = c.count_one_appended.ensures.each;
    }

pub returns-clause-counted : goal.returns-clause-counted
returns-clause-counted c = λ image all appended has.
    let w = window_in c.args.self.now.heads.last.marks.items in
    let from = c.args.facts.now.kept in
    let many : length w ≡ length c.args.self.now.heads.last.marks.items = length-map c.args.self.now.heads.last.marks.items (λ (mark : Mark). shown_in mark.shown) in
    let most : length (drop from w) ≤ c.loop-place.place - from = omega (arith, many, length-drop from w, c.loop-place-test.false, c.len-place-end.ensures.len) in
    let E : List Shown → Type 0 = λ xs. HasCounted image (all ++ events_at image fetched xs) (appended ++ xs) c.loop-place.self in
    subst E (take_all (c.loop-place.place - from) (drop from w) most) (c.loop-place.invariant.counted.each image all appended has)

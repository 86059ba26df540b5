use Rattle.std.proofs.Common.{◌≡◌, ◌∙◌, ℕ, ◌+◌, ◌++◌, take, refl, ap, subst, arith}
use Rattle.std.specs.Prelude.{flat_map}
use Rattle.insight_model.specs.Profile.{retired_events}
use Rattle.cycle_watch.specs.declared.profile.Profiling.{Profiling}
use Rattle.cycle_watch.specs.Facts.{window_in}
use Rattle.cycle_watch.specs.Shown.{shown_in}
use Rattle.cycle_watch.specs.Profiled.{HasCounted}
use Rattle.cycle_watch.proofs.RowLists.{counts_next, rest_on, shown_at}
use Rattle.cycle_watch.proofs.profile.Profiling.count_retired.Goals as goal

pub loop-place-preserved : goal.loop-place-preserved
loop-place-preserved c =
    let old = c.args.self.now in
    let now = c.loop-place.self in
    let new = c.count_one_retired.new.self in
    let place = c.loop-place.place in
    let mark = c.mark.result.now in
    let has = c.loop-place.invariant in
    record {
      counted =
          counts_next retired_events place (place + 1) (window_in old.heads.last.marks.items) (shown_in mark.shown) old now new
          (shown_at old now place mark (ap (λ (x : Profiling). x.heads) has.rest) c.mark.ensures.mark) refl has.counted (record { each = c.count_one_retired.ensures.counted });
      rest = rest_on old now new has.rest c.count_one_retired.ensures.rest;
      each = c.count_one_retired.ensures.each;
    }

pub returns-clause-counted : goal.returns-clause-counted
returns-clause-counted c = λ image all appended has.
    let ended : c.loop-place.place ≡ c.retired-place-end.result = omega (arith, c.loop-place-test.false, c.loop-place.auto.place-end) in
    let E : ℕ → Type 0 = λ n. HasCounted image (all ++ flat_map (retired_events image) (take n (window_in c.args.self.now.heads.last.marks.items))) appended c.loop-place.self in
    subst E (ended ∙ c.retired-place-end.ensures.retired) (c.loop-place.invariant.counted.each image all appended has)

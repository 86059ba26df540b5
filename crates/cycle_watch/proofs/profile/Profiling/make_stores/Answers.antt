use Rattle.std.proofs.Common.{◌≡◌, ◌∙◌, ℕ, ◌+◌, take, refl, ap, subst, arith}
use Rattle.cycle_watch.specs.declared.profile.Profiling.{Profiling}
use Rattle.cycle_watch.specs.Facts.{window_in}
use Rattle.cycle_watch.specs.Shown.{shown_in}
use Rattle.cycle_watch.specs.Profiled.{Makes}
use Rattle.std.specs.Prelude.{filter_map}
use Rattle.insight_model.specs.Accesses.{store_access}
use Rattle.cycle_watch.proofs.Making.{makes_next}
use Rattle.cycle_watch.proofs.RowLists.{both_on, shown_at}
use Rattle.cycle_watch.proofs.profile.Profiling.make_stores.Goals as goal

pub loop-place-preserved : goal.loop-place-preserved
loop-place-preserved c =
    let old = c.args.self.now in
    let now = c.loop-place.self in
    let new = c.make_store.new.self in
    let place = c.loop-place.place in
    let mark = c.mark.result.now in
    let has = c.loop-place.invariant in
    record {
      made =
          makes_next store_access place (place + 1) (window_in old.heads.last.marks.items) (shown_in mark.shown) old now new
          (shown_at old now place mark (ap (λ (x : Profiling). x.heads) has.rest) c.mark.ensures.mark) refl has.made c.make_store.ensures.made;
      rest = both_on old now new has.rest c.make_store.ensures.rest;
      each = c.make_store.ensures.each;
    }

pub returns-clause-made : goal.returns-clause-made
returns-clause-made c =
    let ended : c.loop-place.place ≡ c.retired-place-end.result = omega (arith, c.loop-place-test.false, c.loop-place.auto.place-end) in
    let E : ℕ → Type 0 = λ n. Makes (filter_map store_access (take n (window_in c.args.self.now.heads.last.marks.items))) c.args.self.now c.loop-place.self in
    subst E (ended ∙ c.retired-place-end.ensures.retired) c.loop-place.invariant.made

use Rattle.std.proofs.Common.{◌≡◌, ◌∙◌, ◌+◌, ◌≤◌, ◌<◌, Some, List, length, refl, sym, ap, subst, arith}
use Rattle.std.proofs.lemmas.List.{take_all}
use Rattle.cycle_watch.specs.declared.profile.Profiling.{Profiling}
use Rattle.cycle_watch.specs.Facts.{access_in}
use Rattle.cycle_watch.specs.Profiled.{Makes}
use Rattle.std.specs.Prelude.{filter_map, slice_get}
use Rattle.std.proofs.lemmas.Option.{slice_get_read}
use Rattle.insight_model.specs.Accesses.{CacheAccess}
use Rattle.cycle_watch.specs.declared.last.LoadMade.{LoadMade}
use Rattle.cycle_watch.proofs.Making.{made_all, makes_next}
use Rattle.cycle_watch.proofs.RowLists.{both_on}
use Rattle.cycle_watch.proofs.profile.Profiling.make_loads.Goals as goal

pub loop-place-preserved : goal.loop-place-preserved
loop-place-preserved c =
    let old = c.args.self.now in
    let now = c.loop-place.self in
    let new = c.load.new.self in
    let place = c.loop-place.place in
    let made = c.index-made.result.now in
    let has = c.loop-place.invariant in
    let items = old.heads.last.loads.items in
    let same : length now.heads.last.loads.items ≡ length items = ap (λ (x : Profiling). length x.heads.last.loads.items) has.rest in
    let within : place < length now.heads.last.loads.items = omega (arith, same, c.loop-place-test.true, c.len-place-end.ensures) in
    let there : slice_get items place ≡ Some made =
    ap (λ (x : Profiling). slice_get x.heads.last.loads.items place) (sym has.rest)
    ∙ slice_get_read now.heads.last.loads.items (length now.heads.last.loads.items) place made refl within c.index-made.ensures in
    record {
      made = makes_next (λ (load : LoadMade). Some (access_in load)) place (place + 1) items made old now new there refl has.made c.load.ensures.made;
      rest = both_on old now new has.rest c.load.ensures.rest;
      each = c.load.ensures.each;
    }

pub returns-clause-made : goal.returns-clause-made
returns-clause-made c =
    let old = c.args.self.now in
    let items = old.heads.last.loads.items in
    let most : length items ≤ c.loop-place.place = omega (arith, c.loop-place-test.false, c.len-place-end.ensures) in
    let M : List CacheAccess → Type 0 = λ ms. Makes ms old c.loop-place.self in
    subst M (ap (filter_map (λ (load : LoadMade). Some (access_in load))) (take_all c.loop-place.place items most) ∙ made_all access_in items) c.loop-place.invariant.made

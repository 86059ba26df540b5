use Rattle.std.proofs.Common.{◌≡◌, ◌∙◌, ℕ, ◌+◌, ◌-◌, ◌≤◌, if◌then◌else◌, List, drop, length, take, refl, sym, ap, subst, arith}
use Rattle.std.proofs.lemmas.List.{length-drop, length-map, take_all}
use Rattle.insight_model.specs.Sight.{Shown}
use Rattle.cycle_watch.specs.declared.mark.Mark.{Mark}
use Rattle.cycle_watch.specs.declared.profile.Profiling.{Profiling}
use Rattle.cycle_watch.specs.Facts.{window_in}
use Rattle.cycle_watch.specs.Shown.{shown_in}
use Rattle.cycle_watch.specs.Profiled.{Makes, fetched_after}
use Rattle.std.specs.Prelude.{filter_map, slice_get}
use Rattle.insight_model.specs.Accesses.{fetch_access}
use Rattle.cycle_watch.proofs.Making.{makes_next, makes_none}
use Rattle.cycle_watch.proofs.RowLists.{both_on, shown_at}
use Rattle.cycle_watch.proofs.Windows.{get_dropped}
use Rattle.cycle_watch.proofs.profile.Profiling.make_fetches.Goals as goal

pub loop-place-init : goal.loop-place-init
loop-place-init c =
    let f = c.args.facts.now in
    let old = c.args.self.now in
    let from : ℕ = f.kept + (if f.paid then 1 else 0) in
    let none : c.first_fetched-place.result - from ≡ 0 = omega (arith, c.first_fetched-place.ensures.first) in
    let E : ℕ → Type 0 = λ n. Makes (filter_map fetch_access (take n (fetched_after f (window_in old.heads.last.marks.items)))) old old in
    record { made = subst E (sym none) (makes_none old); rest = refl; each = c.requires.each }

pub loop-place-preserved : goal.loop-place-preserved
loop-place-preserved c =
    let f = c.args.facts.now in
    let old = c.args.self.now in
    let now = c.loop-place.self in
    let new = c.make_fetch.new.self in
    let place = c.loop-place.place in
    let mark = c.mark.result.now in
    let has = c.loop-place.invariant in
    let w = window_in old.heads.last.marks.items in
    let from : ℕ = f.kept + (if f.paid then 1 else 0) in
    let since : from ≤ place = omega (arith, c.first_fetched-place.ensures.first, c.loop-place.auto.place, c.loop-place-test.true) in
    let at : from + (place - from) ≡ place = omega (arith, since) in
    let step : place + 1 - from ≡ place - from + 1 = omega (arith, since) in
    record {
      made =
          makes_next fetch_access (place - from) (place + 1 - from) (fetched_after f w) (shown_in mark.shown) old now new
          (get_dropped w from (place - from) ∙ ap (slice_get w) at ∙ shown_at old now place mark (ap (λ (x : Profiling). x.heads) has.rest) c.mark.ensures.mark) step has.made c.make_fetch.ensures.made;
      rest = both_on old now new has.rest c.make_fetch.ensures.rest;
      each = c.make_fetch.ensures.each;
    }

pub returns-clause-made : goal.returns-clause-made
returns-clause-made c =
    let f = c.args.facts.now in
    let old = c.args.self.now in
    let w = window_in old.heads.last.marks.items in
    let from : ℕ = f.kept + (if f.paid then 1 else 0) in
    let many : length w ≡ length old.heads.last.marks.items = length-map old.heads.last.marks.items (λ (mark : Mark). shown_in mark.shown) in
    let most : length (drop from w) ≤ c.loop-place.place - from = omega (arith, many, length-drop from w, c.loop-place-test.false, c.len-place-end.ensures.len) in
    let E : List Shown → Type 0 = λ xs. Makes (filter_map fetch_access xs) old c.loop-place.self in
    subst E (take_all (c.loop-place.place - from) (drop from w) most) c.loop-place.invariant.made

-- The list of a run's orders ends in its one Stop.
use Rattle.std.proofs.Common.{◌≡◌, ◌≤◌, ◌<◌, ◌==◌, ◌||◌, ℕ, zero, suc, Bool, true, false, Some, List, [], ◌∷◌, length, reverse, drop, refl, ap, sym, ◌∙◌, arith, length-append, ⊎_elim}
use Rattle.std.proofs.lemmas.Bool.{cases_lt, eq-eqb, ne_eqb}
use Rattle.std.proofs.lemmas.List.{length-reverse}
use Rattle.rollback_cmds.specs.declared.order.Order.{Order}
use Rattle.mono_model.specs.declared.setup.Setup.{Setup}
use Rattle.mono_model.specs.Machine.{Machine}
use Rattle.mono_model.specs.Path.{path, stops, has_stop}
use Rattle.mono_model.specs.Demand.{Place, place, told, step_bound, orders, order_in}
use Rattle.machine_laws.specs.Numbers.{last_commit}
use Rattle.machine_laws.specs.Told.{AreTold, IsToldAt}
use Rattle.machine_laws.specs.LastOrder.{HasOrder, AreAll}
use Rattle.machine_laws.proofs.Halting.{run_halts}
use Rattle.machine_laws.proofs.NextOrder.{telling_goes_on}
use Rattle.machine_laws.proofs.Places.{place_related}
use Rattle.machine_laws.proofs.Staying.{done_told}
use Rattle.machine_laws.proofs.Stopping.{stop_told, stopped_last, stopped_at_bound}
use Rattle.machine_laws.proofs.OrderSteps.{order_told_at, same_told}
use Rattle.machine_laws.proofs.Whole.{begins, orders_are}

record HasOne (os : List Order) (i : ℕ) : Type 0 where
  held : Order
  is : order_in os i ≡ Some held

has_one : (os : List Order) (i : ℕ) → i < length os → HasOne os i
has_one [] i under = absurd (omega arith)
has_one (o ∷ os) zero under = record { held = o; is = refl }
has_one (o ∷ os) (suc i) under = let one = has_one os i (omega arith) in record { held = one.held; is = one.is }

how_many : (s : Setup) → length (orders s) ≡ length (told (place s (step_bound s)))
how_many s = ap (λ (os : List Order). length os) (orders_are s) ∙ length-reverse (told (place s (step_bound s)))

-- once Stop is told, all orders are
all_told : (s : Setup) (os : List Order) → 1 ≤ s.cycles → AreTold s os → has_stop os ≡ true → told (place s (step_bound s)) ≡ os
all_told s os limited are stopped =
    ap (λ (p : Place). told p) (sym (stopped_last s are.steps limited (ap has_stop are.are ∙ stopped))) ∙ are.are

-- and before it, others follow
pub more_orders : (s : Setup) (os : List Order) → 1 ≤ s.cycles → AreTold s os → has_stop os ≡ false → length os < length (orders s)
more_orders s os limited are on = ⊎_elim (λ less. less) (λ none. absurd (as_many none)) (cases_lt (length os) (length (orders s)))
  where
    count : length os ≤ length (orders s)
    count =
        let b = begins s are.steps limited in
        omega (
          arith,
          ap (λ (l : List Order). length l) are.are,
          ap (λ (l : List Order). length l) b.orders,
          length-append (reverse (told (place s are.steps))) b.rest,
          length-reverse (told (place s are.steps)),
        )

    as_many : length (orders s) ≤ length os → ⊥
    as_many none =
        let same : told (place s (step_bound s)) ≡ told (place s are.steps) =
        same_told s are.steps (step_bound s) (omega (arith, count, how_many s, ap (λ (l : List Order). length l) are.are)) in
        let stopped : true ≡ false = sym (stopped_at_bound s limited) ∙ ap has_stop (same ∙ are.are) ∙ on in cc

pub all_orders : (s : Setup) (os : List Order) → 1 ≤ s.cycles → AreTold s os → has_stop os ≡ true → AreAll s os
all_orders s os limited are stopped =
    let p : Place = place s (step_bound s) in
    let halts = run_halts s limited in
    let told_is : told p ≡ os = all_told s os limited are stopped in
    let settled : told p ≡ p.run.demand.orders = ap (λ (n : ℕ). drop n p.run.demand.orders) halts.told in
    record {
      told = told_is;
      orders = orders_are s ∙ ap (λ (l : List Order). reverse l) told_is;
      state = ap (λ (l : List Order). path s l (last_commit l)) (sym told_is) ∙ ap (path s (told p)) (sym (done_told s (step_bound s)))
          ∙ ap (λ (l : List Order). path s l p.run.demand.to_commit) settled ∙ sym (place_related s (step_bound s)).arch ∙ ap (λ (m : Machine). m.arch) halts.machine;
    }

-- the order in a place is a Stop exactly where the place is the last
pub each_order : (s : Setup) (i : ℕ) → 1 ≤ s.cycles → i < length (orders s) → HasOrder s i
each_order s i limited under =
    let one : HasOne (orders s) i = has_one (orders s) i under in
    let at : IsToldAt s i one.held = order_told_at s i one.held one.is in
    record { held = one.held; is = one.is; last = by_kind one.held at (stops one.held) refl }
  where
    behind_are : (o : Order) (at : IsToldAt s i o) → AreTold s (o ∷ at.before)
    behind_are o at = record { steps = suc at.told.steps; are = at.told.behind }

    first_on : (o : Order) (at : IsToldAt s i o) → has_stop at.before ≡ false
    first_on o at = ap has_stop (sym at.told.before) ∙ stop_told s at.told.steps ∙ telling_goes_on s at.told.steps o at.told.tells

    by_kind : (o : Order) (at : IsToldAt s i o) (b : Bool) → stops o ≡ b → stops o ≡ (suc i == length (orders s))
    by_kind o at true is =
        let all : told (place s (step_bound s)) ≡ o ∷ at.before = all_told s (o ∷ at.before) limited (behind_are o at) (ap (λ (b : Bool). b || has_stop at.before) is) in
        is ∙ sym (eq-eqb (suc i) (length (orders s)) (omega (arith, how_many s, ap (λ (l : List Order). length l) all, at.length_is)))
    by_kind o at false is =
        let more : length (o ∷ at.before) < length (orders s) =
        more_orders s (o ∷ at.before) limited (behind_are o at) (ap (λ (b : Bool). b || has_stop at.before) is ∙ first_on o at) in
        is ∙ sym (ne_eqb (suc i) (length (orders s)) (λ same. omega (arith, more, at.length_is)))

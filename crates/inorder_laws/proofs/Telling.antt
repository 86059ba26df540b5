-- A step of the in-order machine tells one order at most.
use Rattle.std.proofs.Common.{◌≡◌, ℕ, zero, suc, ◌-◌, ◌≤◌, IfSome, List, length, refl, ap, sym, subst, arith, inr, length-append}
use Rattle.rollback_cmds.specs.declared.order.Order.{Order}
use Rattle.mono_model.specs.declared.setup.Setup.{Setup}
use Rattle.mono_model.specs.Demand.{next, told}
use Rattle.mono_model.specs.Split.{told_by}
use Rattle.machine_laws.specs.Telling.{with_order, OpensAt}
use Rattle.machine_laws.proofs.Telling.{TellsOne, FirstOpenAt, one_fewer, first_made, oldest_of, turn_tells, tells_told, tells_opens}
use Rattle.inorder_machine.specs.Demand.{InorderRun, inorder_turn_at, inorder_turn, inorder_step_by, inorder_step, inorder_place, seen_of, seen}
use Rattle.inorder_laws.proofs.Making.{turn_made}

-- no more orders are owed than were made, and those that aren't told yet open an epoch at the number of the next record
record IsOwing (r : InorderRun) (owed : ℕ) : Type 0 where
  within : owed ≤ length r.demand.orders
  opens : FirstOpenAt (next r.demand) owed r.demand.orders

step_owing : (s : Setup) (owed : ℕ) (r : InorderRun) → IsOwing r owed → IsOwing (inorder_step_by s owed r).run (inorder_step_by s owed r).owed
unfolding inorder_turn
step_owing s zero r is =
    let behind = (inorder_turn_at s r.at r.demand r.memory).demand in
    let made = turn_made s r.at r.demand r.memory in
    let owed : ℕ = length behind.orders - length r.demand.orders - 1 in
    record {
      within = omega arith;
      opens = subst (λ (os : List Order). FirstOpenAt (next behind) owed os) (sym made.orders)
          (first_made (next behind) owed made.made r.demand.orders made.opens (omega (arith, ap (λ (os : List Order). length os) made.orders, length-append made.made r.demand.orders)));
    }
step_owing s (suc owed) r is = record { within = omega (arith, is.within); opens = one_fewer (next r.demand) owed r.demand.orders is.opens }

place_owing : (s : Setup) (k : ℕ) → IsOwing (inorder_place s k).run (inorder_place s k).owed
unfolding inorder_place inorder_step
place_owing s zero = record { within = omega arith; opens = tt }
place_owing s (suc k) = step_owing s (inorder_place s k).owed (inorder_place s k).run (place_owing s k)

step_tells : (s : Setup) (owed : ℕ) (r : InorderRun) → IsOwing r owed → TellsOne (seen_of (record { run = r; owed = owed })) (seen_of (inorder_step_by s owed r))
unfolding inorder_turn
step_tells s zero r is =
    let behind = (inorder_turn_at s r.at r.demand r.memory).demand in
    let made = turn_made s r.at r.demand r.memory in
    turn_tells (next behind) made.made r.demand.orders behind.orders made.opens made.orders (length behind.orders - length r.demand.orders - 1) refl
step_tells s (suc owed) r is = inr (oldest_of (next r.demand) owed r.demand.orders is.opens is.within)

place_tells : (s : Setup) (k : ℕ) → TellsOne (seen s k) (seen s (suc k))
unfolding inorder_place inorder_step
place_tells s k = step_tells s (inorder_place s k).owed (inorder_place s k).run (place_owing s k)

-- a step tells what `told_by` says
pub step_told : (s : Setup) (k : ℕ) → told (seen s (suc k)) ≡ with_order (told_by (seen s k) (seen s (suc k))) (told (seen s k))
step_told s k = tells_told (seen s k) (seen s (suc k)) (place_tells s k)

pub step_opens : (s : Setup) (k : ℕ) → IfSome (told_by (seen s k) (seen s (suc k))) (OpensAt (next (seen s (suc k)).run.demand))
step_opens s k = tells_opens (seen s k) (seen s (suc k)) (place_tells s k)

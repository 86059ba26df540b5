-- What the law of the split state takes of a demand run.
use Rattle.std.proofs.Common.{◌≡◌, ℕ, zero, suc, ◌+◌, ◌-◌, ◌≤◌, true, false, Option, Some, None, List, [], ◌++◌, length, reverse, refl, ap, sym, ◌∙◌, subst, arith}
use Rattle.rollback_cmds.specs.declared.order.Order.{Order}
use Rattle.mono_model.specs.declared.setup.Setup.{Setup}
use Rattle.mono_model.specs.Path.{entry}
use Rattle.mono_model.specs.Demand.{Place, place_start, told, prefix_with}
use Rattle.mono_model.specs.Split.{is_halted, is_cycle_start, told_by}
use Rattle.machine_laws.specs.Numbers.{last_commit, AreNumbered, AreAtCommit}
use Rattle.machine_laws.specs.Relation.{Related}
use Rattle.machine_laws.specs.Runs.{IsByCycles}
use Rattle.machine_laws.specs.Telling.{with_order}
use Rattle.machine_laws.specs.DemandRun.{DemandRun}
use Rattle.machine_laws.proofs.SplitSteps.{Owes, Stepped}

pub record IsDemandRun (s : Setup) (r : DemandRun) : Type 0 where
  pub start : r.places 0 ≡ place_start s
  -- a step tells one order at most, and makes of orders and numbers what the split state needs
  pub tells : (k : ℕ) → told (r.places (suc k)) ≡ with_order (told_by (r.places k) (r.places (suc k))) (told (r.places k))
  pub owes : (k : ℕ) → Owes (r.places k)
  pub stepped : (k : ℕ) → is_halted (r.places k).run.at ≡ false → Stepped (r.places k) (r.places (suc k))
  -- where it has halted it stands still, and within its bound it has
  pub stays : (k : ℕ) → is_halted (r.places k).run.at ≡ true → r.places (suc k) ≡ r.places k
  pub halts : 1 ≤ s.cycles → is_halted (r.places r.bound).run.at ≡ true
  -- it is on the path
  pub related : (k : ℕ) → Related s (r.places k).run.demand
  -- its orders are numbered within the window
  pub numbered : (k : ℕ) → AreNumbered s (told (r.places k))
  pub kinds : (k : ℕ) → AreAtCommit (told (r.places k))
  pub done : (k : ℕ) → (r.places k).run.demand.to_commit ≡ last_commit (told (r.places k))
  pub window : (k : ℕ) → length (r.places k).run.demand.machine.window ≤ s.params.core_window
  -- output and committed number keep their limits
  pub output : (k : ℕ) → length (r.places k).run.demand.machine.arch.output ≤ s.output
  pub commits : 1 ≤ s.cycles → (k : ℕ) → (r.places k).run.demand.to_commit ≤ r.commits
  -- where a cycle starts it has the machine of that cycle
  pub by_cycles : (k : ℕ) → is_cycle_start (r.places k).run.at ≡ true → IsByCycles r.machines (r.places k)
  -- an entry of an epoch goes by the orders of the whole run
  pub named : (epoch n : ℕ) → r.entry_of epoch n ≡ entry s (prefix_with [] (reverse (told (r.places r.bound))) epoch) n

-- later places have told more
pub record Grows (p q : Place) : Type 0 where
  pub later : List Order
  pub orders : told q ≡ later ++ told p

with_order_append : (o : Option Order) (xs ys : List Order) → with_order o (xs ++ ys) ≡ with_order o xs ++ ys
with_order_append None xs ys = refl
with_order_append (Some o) xs ys = refl

module _ {s : Setup} {r : DemandRun} (laws : IsDemandRun s r) where
  pub grows_on : (k j : ℕ) → Grows (r.places k) (r.places (j + k))
  grows_on k zero = let e : k ≡ zero + k = omega arith in subst (λ (n : ℕ). Grows (r.places k) (r.places n)) e (record { later = []; orders = refl })
  grows_on k (suc j) =
      let e : suc (j + k) ≡ suc j + k = omega arith in
      let was = grows_on k j in
      let o = told_by (r.places (j + k)) (r.places (suc (j + k))) in
      subst (λ (n : ℕ). Grows (r.places k) (r.places n)) e
      (record {
        later = with_order o was.later;
        orders = laws.tells (j + k) ∙ ap (λ (os : List Order). with_order o os) was.orders ∙ with_order_append o was.later (told (r.places k));
      })

  pub grows_to : (k l : ℕ) → k ≤ l → Grows (r.places k) (r.places l)
  grows_to k l later = let e : (l - k) + k ≡ l = omega arith in subst (λ (n : ℕ). Grows (r.places k) (r.places n)) e (grows_on k (l - k))

-- where it has halted
module _ {s : Setup} {r : DemandRun} (laws : IsDemandRun s r) where
  pub still_places : (k j : ℕ) → is_halted (r.places k).run.at ≡ true → r.places (j + k) ≡ r.places k
  still_places k zero over = ap r.places (omega arith)
  still_places k (suc j) over =
      let e : suc j + k ≡ suc (j + k) = omega arith in
      let same : r.places (j + k) ≡ r.places k = still_places k j over in
      ap r.places e ∙ laws.stays (j + k) (ap (λ (p : Place). is_halted p.run.at) same ∙ over) ∙ same

  pub still_from : 1 ≤ s.cycles → (k : ℕ) → r.bound ≤ k → r.places k ≡ r.places r.bound
  still_from limited k later = let e : k ≡ (k - r.bound) + r.bound = omega arith in ap r.places e ∙ still_places r.bound (k - r.bound) (laws.halts limited)

  pub last_place : 1 ≤ s.cycles → (k : ℕ) → is_halted (r.places k).run.at ≡ true → r.places k ≡ r.places r.bound
  last_place limited k over = sym (still_places k r.bound over) ∙ still_from limited (r.bound + k) (omega arith)

-- from a place of the run on
module _ {s : Setup} {r : DemandRun} (laws : IsDemandRun s r) (k : ℕ) (p : Place) (at : p ≡ r.places k) where
  pub tells_from : told (r.places (suc k)) ≡ with_order (told_by p (r.places (suc k))) (told p)
  tells_from = subst (λ (q : Place). told (r.places (suc k)) ≡ with_order (told_by q (r.places (suc k))) (told q)) (sym at) (laws.tells k)

  pub stepped_from : is_halted p.run.at ≡ false → Stepped p (r.places (suc k))
  stepped_from on =
      subst (λ (q : Place). Stepped q (r.places (suc k))) (sym at) (laws.stepped k (subst (λ (q : Place). is_halted q.run.at ≡ false) at on))

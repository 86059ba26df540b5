-- What each step keeps holds at each place.
use Rattle.std.proofs.Common.{◌≡◌, ℕ, zero, suc, ◌-◌, ◌≤◌, [], length, sym, subst, arith}
use Rattle.mono_model.specs.declared.setup.Setup.{Setup}
use Rattle.mono_model.specs.Machine.{machine_start}
use Rattle.mono_model.specs.Demand.{Demand, At, interrupting, Run, run_start, turn_at, turn, Place, place_start, step_by, step, place}
use Rattle.mono_model.proofs.Next.{place-suc}

-- In any run of steps: `P k x` says something of what there is after `k` of them, and `A` is known of it.
module _ {X : Type 0} (step : X → X) (at : ℕ → X) (next : (k : ℕ) → at (suc k) ≡ step (at k)) (A P : ℕ → X → Type 0)
    (known : (k : ℕ) → A k (at k)) (at_start : P 0 (at 0)) (by_step : (k : ℕ) (x : X) → A k x → A (suc k) (step x) → P k x → P (suc k) (step x)) where
  pub along : (k : ℕ) → P k (at k)
  along zero = at_start
  along (suc k) = subst (P (suc k)) (sym (next k)) (by_step k (at k) (known k) (subst (A (suc k)) (next k) (known (suc k))) (along k))

-- in the demand run, place by place
module _ (s : Setup) (A P : ℕ → Place → Type 0) (known : (k : ℕ) → A k (place s k)) (at_start : P 0 (place_start s))
    (by_step : (k : ℕ) (p : Place) → A k p → A (suc k) (step s p) → P k p → P (suc k) (step s p)) where
  starts : P 0 (place s 0)
  unfolding place
  starts = at_start

  pub at_each_place : (k : ℕ) → P k (place s k)
  at_each_place = along (step s) (place s) (place-suc s) A P known starts by_step

-- how many orders a turn leaves to be told
abbrev pub owed_behind : Setup → Run → ℕ
owed_behind s r = length (turn s r).demand.orders - length r.demand.orders - 1

-- turn by turn, and order by order: `P k r owed` of the run after `k` steps, of which so many orders are owed
module _ (s : Setup) (A : ℕ → Place → Type 0) (P : ℕ → Run → ℕ → Type 0) (known : (k : ℕ) → A k (place s k)) (at_start : P 0 (run_start s) 0)
    (by_turn : (k : ℕ) (r : Run) → A k (record { run = r; owed = 0 }) → A (suc k) (record { run = turn s r; owed = owed_behind s r }) → P k r 0 →
    P (suc k) (turn s r) (owed_behind s r))
    (by_order : (k owed : ℕ) (r : Run) → P k r (suc owed) → P (suc k) r owed) where
  by_owed : (k owed : ℕ) (r : Run) → A k (record { run = r; owed = owed }) → A (suc k) (step_by s owed r) → P k r owed → P (suc k) (step_by s owed r).run (step_by s owed r).owed
  by_owed k zero r here there holds = by_turn k r here there holds
  by_owed k (suc owed) r here there holds = by_order k owed r holds

  pub at_each_turn_known : (k : ℕ) → P k (place s k).run (place s k).owed
  unfolding step
  at_each_turn_known = at_each_place s A (λ k p. P k p.run p.owed) known at_start (λ k p here there holds. by_owed k p.owed p.run here there holds)

module _ (s : Setup) (P : ℕ → Run → ℕ → Type 0) (at_start : P 0 (run_start s) 0)
    (by_turn : (k : ℕ) (r : Run) → P k r 0 → P (suc k) (turn s r) (owed_behind s r))
    (by_order : (k owed : ℕ) (r : Run) → P k r (suc owed) → P (suc k) r owed) where
  pub at_each_turn : (k : ℕ) → P k (place s k).run (place s k).owed
  at_each_turn = at_each_turn_known s (λ k p. Unit {0}) P (λ k. tt) at_start (λ k r here there holds. by_turn k r holds) by_order

-- the run's state at its start
abbrev pub demand_start : Setup → Demand
demand_start s = record { machine = machine_start s; to_commit = 0; orders = [] }

-- where neither the steps nor what is owed matter
module _ (s : Setup) (P : At → Demand → Type 0) (at_start : P interrupting (demand_start s))
    (by_turn : (at : At) (d : Demand) → P at d → P (turn_at s at d).at (turn_at s at d).demand) where
  pub always : (k : ℕ) → P (place s k).run.at (place s k).run.demand
  unfolding turn
  always = at_each_turn s (λ k r owed. P r.at r.demand) at_start (λ k r holds. by_turn r.at r.demand holds) (λ k owed r holds. holds)

-- no more orders are owed than were made
pub owed_within : (s : Setup) (k : ℕ) → (place s k).owed ≤ length (place s k).run.demand.orders
owed_within s = at_each_turn s (λ k r owed. owed ≤ length r.demand.orders) (omega arith) (λ k r within. omega arith) (λ k owed r within. omega arith)

-- From any place there are few steps to the next start of a cycle.
use Rattle.std.proofs.Common.{◌≡◌, ℕ, zero, suc, ◌+◌, ◌-◌, ◌≤◌, ◌<◌, ◌==◌, ◌&&◌, Bool, true, false, length, refl, arith}
use Rattle.std.proofs.lemmas.Bool.{cond_both}
use Rattle.mono_model.specs.declared.setup.Setup.{Setup}
use Rattle.mono_model.specs.Final.{has_ended}
use Rattle.mono_model.specs.Commit.{Ending, plain, trap, sync, commit_phase}
use Rattle.mono_model.specs.Complete.{completes}
use Rattle.mono_model.specs.Cycle.{end_of_cycle}
use Rattle.mono_model.specs.Fetch.{Try, misses, appends, turns, may_fetch, fetch_try}
use Rattle.mono_model.specs.Demand.{Demand, ending_orders, commit_order, demand_commit, demand_issue, demand_try, At, interrupting, committing, completing, issuing, trying, ending, stopping, halted, try_or_end, at_after_commit, Run, tried_turn, turn_at, turn, Place, step_by, step, place}
use Rattle.mono_model.specs.Split.{is_cycle_start, is_place_boundary}
use Rattle.machine_laws.proofs.Always.{owed_behind, at_each_turn}
use Rattle.machine_laws.proofs.Reaching.{interrupt_count, left_count, redirect_count, time_count, try_count}

-- at most so many turns to the next start of a cycle, with one more for a second order of commit
abbrev pub left_at : Setup → At → ℕ
left_at s interrupting = 0
left_at s committing = s.params.core_fetch + 5
left_at s completing = s.params.core_fetch + 3
left_at s issuing = s.params.core_fetch + 2
left_at s (trying more) = more + 2
left_at s ending = 1
left_at s stopping = 0
left_at s halted = 0

abbrev pub steps_left : Setup → Place → ℕ
steps_left s p = p.owed + left_at s p.run.at

try_or_end_left : (s : Setup) (more : ℕ) (d : Demand) → left_at s (try_or_end s more d) ≤ more + 1
try_or_end_left s zero d = omega arith
try_or_end_left s (suc more) d = cond_both (may_fetch s d.machine) (trying more) ending (λ at. left_at s at ≤ suc more + 1) (λ e. omega arith) (λ e. omega arith)

ending_most : (e : Ending) (handler n left : ℕ) (d : Demand) → length (ending_orders e handler n (commit_order left n d.orders)) ≤ length d.orders + 2
ending_most plain handler n left d = omega (arith, left_count left n d.orders)
ending_most trap handler n left d = omega (arith, left_count left n d.orders)
ending_most sync handler n left d = omega (arith, left_count left n d.orders)

tried_left : (s : Setup) (t : Try) (more : ℕ) (d : Demand) → length (tried_turn s t more d).demand.orders - length d.orders - 1 + left_at s (tried_turn s t more d).at ≤ more + 1
tried_left s (misses behind) more d = omega arith
tried_left s (appends behind) more d = omega (arith, try_count s (appends behind) d, try_or_end_left s more (demand_try s (appends behind) d))
tried_left s (turns behind) more d = omega (arith, try_count s (turns behind) d)

turn_left : (s : Setup) (at : At) (d : Demand) → is_cycle_start at ≡ false → length (turn_at s at d).demand.orders - length d.orders - 1 + left_at s (turn_at s at d).at < left_at s at
turn_left s interrupting d on = cc
turn_left s committing d on =
    let c = commit_phase s d.machine in
    let behind : left_at s (at_after_commit (demand_commit s d)) ≤ s.params.core_fetch + 3 =
    cond_both (has_ended c.machine.end) ending completing (λ at. left_at s at ≤ s.params.core_fetch + 3) (λ e. omega arith) (λ e. omega arith) in
    omega (arith, ending_most c.ending c.machine.arch.pc (d.to_commit + c.left) c.left d, behind)
turn_left s completing d on =
    let c = completes d.machine.cycle d.machine.window in
    omega (arith, redirect_count c.redirect (d.to_commit + length c.records) d.orders)
turn_left s issuing d on = omega (arith, time_count s d, try_or_end_left s s.params.core_fetch (demand_issue s d))
turn_left s (trying more) d on = omega (arith, tried_left s (fetch_try s d.machine) more d)
turn_left s ending d on =
    let behind : left_at s (turn_at s ending d).at ≤ 0 =
    cond_both (has_ended (end_of_cycle s d.machine).end) stopping interrupting (λ at. left_at s at ≤ 0) (λ e. omega arith) (λ e. omega arith) in
    omega (arith, behind)
turn_left s stopping d on = cc
turn_left s halted d on = cc

by_owed : (s : Setup) (owed : ℕ) (r : Run) → (owed == 0 && is_cycle_start r.at) ≡ false → steps_left s (step_by s owed r) < steps_left s (record { run = r; owed = owed })
unfolding turn
by_owed s zero r on = omega (arith, turn_left s r.at r.demand on)
by_owed s (suc owed) r on = omega arith

-- a step off the start of a cycle leaves fewer
pub step_left : (s : Setup) (p : Place) → is_place_boundary p ≡ false → steps_left s (step s p) < steps_left s p
unfolding step
step_left s p on = by_owed s p.owed p.run on

-- and there are never more than these
start_left : (s : Setup) (at : At) (d : Demand) → is_cycle_start at ≡ true → length (turn_at s at d).demand.orders - length d.orders - 1 + left_at s (turn_at s at d).at ≤ s.params.core_fetch + 5
start_left s interrupting d on = omega (arith, interrupt_count d)
start_left s committing d on = cc
start_left s completing d on = cc
start_left s issuing d on = cc
start_left s (trying more) d on = cc
start_left s ending d on = cc
start_left s stopping d on = omega arith
start_left s halted d on = omega arith

turn_most : (s : Setup) (r : Run) (b : Bool) → is_cycle_start r.at ≡ b → left_at s r.at ≤ s.params.core_fetch + 5 → owed_behind s r + left_at s (turn s r).at ≤ s.params.core_fetch + 5
unfolding turn
turn_most s r true on most = start_left s r.at r.demand on
turn_most s r false on most = omega (arith, turn_left s r.at r.demand on)

pub place_left : (s : Setup) (k : ℕ) → steps_left s (place s k) ≤ s.params.core_fetch + 5
place_left s =
    at_each_turn s (λ k r owed. owed + left_at s r.at ≤ s.params.core_fetch + 5) (omega arith)
    (λ k r most. turn_most s r (is_cycle_start r.at) refl (omega (arith, most))) (λ k owed r most. omega arith)

-- How far the numbers of a run go: a cycle commits one instruction at most, and there are at most `cycles` of them.
use Rattle.std.proofs.Common.{◌≡◌, ℕ, zero, suc, ◌+◌, ◌≤◌, if◌then◌else◌, Bool, true, false, Option, List, length, refl, ap, sym, ◌∙◌, arith}
use Rattle.std.proofs.lemmas.Bool.{cond_both}
use Rattle.rollback_cmds.specs.declared.order.Order.{Order}
use Rattle.mono_model.specs.declared.setup.Setup.{Setup}
use Rattle.mono_model.specs.Final.{has_ended}
use Rattle.mono_model.specs.Machine.{Machine, machine_start}
use Rattle.mono_model.specs.Commit.{Committed, commits}
use Rattle.mono_model.specs.Fetch.{Try, misses, appends, turns, fetch_try}
use Rattle.mono_model.specs.Cycle.{end_of_cycle}
use Rattle.mono_model.specs.Demand.{Demand, demand_committed, demand_try, told}
use Rattle.mono_model.specs.Split.{told_by}
use Rattle.machine_laws.proofs.Always.{demand_start}
use Rattle.machine_laws.proofs.Bounds.{commits_most, all_at_most, length_added}
use Rattle.machine_laws.proofs.Halting.{cycle_end_at_limit}
use Rattle.machine_laws.proofs.Phases.{interrupt_cycle, commits_from, Tries, try_tries}
use Rattle.machine_laws.proofs.Reaching.{cycle_end_cycle}
use Rattle.inorder_machine.specs.InorderMachine.{InorderMachine, has_write}
use Rattle.inorder_machine.specs.Write.{write_width, inorder_commit}
use Rattle.inorder_machine.specs.Execute.{moving, inorder_execute}
use Rattle.inorder_machine.specs.Fetch.{inorder_may_fetch}
use Rattle.inorder_machine.specs.Demand.{InorderAt, interrupting, writing, accessing, executing, issuing, trying, ending, stopping, halted, inorder_in, demand_moved, demand_inorder_issue, inorder_turn_at, inorder_place, seen}
use Rattle.inorder_laws.specs.Numbers.{IsInorderBounded}
use Rattle.inorder_laws.proofs.Always.{always}
use Rattle.inorder_laws.proofs.Leading.{execute_cycle, issue_cycle}
use Rattle.inorder_laws.proofs.Numbering.{orders_numbered}
use Rattle.inorder_laws.proofs.Staying.{done_told}
use Rattle.inorder_laws.proofs.Telling.{step_told}

-- whether the turn stands in a cycle, and behind its commit
abbrev pub in_cycle : InorderAt → ℕ
in_cycle interrupting = 1
in_cycle writing = 1
in_cycle accessing = 1
in_cycle executing = 1
in_cycle issuing = 1
in_cycle trying = 1
in_cycle ending = 1
in_cycle stopping = 0
in_cycle halted = 0

abbrev behind_write : InorderAt → ℕ
behind_write interrupting = 0
behind_write writing = 0
behind_write accessing = 1
behind_write executing = 1
behind_write issuing = 1
behind_write trying = 1
behind_write ending = 1
behind_write stopping = 0
behind_write halted = 0

pub record HasBounds (s : Setup) (at : InorderAt) (d : Demand) : Type 0 where
  pub cycle : d.machine.cycle + in_cycle at ≤ s.cycles
  pub to_commit : d.to_commit ≤ d.machine.cycle + behind_write at

start_bounded : (s : Setup) → 1 ≤ s.cycles → HasBounds s interrupting (demand_start s)
unfolding machine_start
start_bounded s limited = record { cycle = limited; to_commit = omega arith }

-- where neither the cycle number nor what is committed changes
same_bounded : (s : Setup) (at to : InorderAt) (d behind : Demand) → in_cycle to ≡ in_cycle at → behind_write to ≡ behind_write at → behind.machine.cycle ≡ d.machine.cycle → behind.to_commit ≡ d.to_commit →
    HasBounds s at d → HasBounds s to behind
same_bounded s at to d behind in_it after cycle done is = record { cycle = omega (arith, is.cycle); to_commit = omega (arith, is.to_commit) }

width_most : (l : InorderMachine) → write_width l ≤ 1
width_most l = cond_both (has_write l) 1 0 (λ (n : ℕ). n ≤ 1) (λ e. omega arith) (λ e. omega arith)

write_bounded : (s : Setup) (d : Demand) (c : Committed) → c.machine.cycle ≡ d.machine.cycle → c.left ≤ 1 → (b : Bool) → HasBounds s writing d → HasBounds s (if b then ending else accessing) (demand_committed c d)
write_bounded s d c cycle most true is = record { cycle = omega (arith, is.cycle); to_commit = omega (arith, is.to_commit) }
write_bounded s d c cycle most false is = record { cycle = omega (arith, is.cycle); to_commit = omega (arith, is.to_commit) }

pub moved_cycle : (s : Setup) (d : Demand) (memory : Option ℕ) → (demand_moved (moving s (inorder_in d memory)) d).machine.cycle ≡ d.machine.cycle
unfolding inorder_execute
moved_cycle s d memory = execute_cycle s (inorder_in d memory)

fetch_bounded : (s : Setup) (d : Demand) (b : Bool) → HasBounds s ending d → HasBounds s (if b then trying else ending) d
fetch_bounded s d true is = record { cycle = is.cycle; to_commit = is.to_commit }
fetch_bounded s d false is = is

try_bounded : (s : Setup) (t : Try) (d : Demand) → Tries d.machine t → HasBounds s trying d → HasBounds s ending (demand_try s t d)
try_bounded s (misses behind) d made is = same_bounded s trying ending d (demand_try s (misses behind) d) refl refl made.cycle refl is
try_bounded s (appends behind) d made is = same_bounded s trying ending d (demand_try s (appends behind) d) refl refl made.cycle refl is
try_bounded s (turns behind) d made is = same_bounded s trying ending d (demand_try s (turns behind) d) refl refl made.cycle refl is

end_bounded : (s : Setup) (d behind : Demand) → behind.to_commit ≡ d.to_commit → behind.machine ≡ end_of_cycle s d.machine → HasBounds s ending d →
    HasBounds s (if has_ended behind.machine.end then stopping else interrupting) behind
end_bounded s d behind same ticks is = by_test (has_ended behind.machine.end) refl
  where
    here : behind.machine.cycle ≡ d.machine.cycle + 1
    here = ap (λ (m : Machine). m.cycle) ticks ∙ cycle_end_cycle s d.machine

    below : has_ended behind.machine.end ≡ false → behind.machine.cycle ≡ s.cycles → ⊥
    below on limit =
        let ended : has_ended behind.machine.end ≡ true =
        ap (λ (m : Machine). has_ended m.end) ticks ∙ cycle_end_at_limit s d.machine (sym (ap (λ (m : Machine). m.cycle) ticks) ∙ limit) in
        cc

    by_test : (b : Bool) → has_ended behind.machine.end ≡ b → HasBounds s (if b then stopping else interrupting) behind
    by_test true ended = record { cycle = omega (arith, here, is.cycle); to_commit = omega (arith, here, is.to_commit) }
    by_test false on = record { cycle = omega (arith, here, is.cycle, below on); to_commit = omega (arith, here, is.to_commit) }

turn_bounded : (s : Setup) (at : InorderAt) (d : Demand) (memory : Option ℕ) → HasBounds s at d → HasBounds s (inorder_turn_at s at d memory).at (inorder_turn_at s at d memory).demand
unfolding inorder_commit
turn_bounded s interrupting d memory is = same_bounded s interrupting writing d (inorder_turn_at s interrupting d memory).demand refl refl (interrupt_cycle d.machine) refl is
turn_bounded s writing d memory is =
    let l : InorderMachine = inorder_in d memory in
    let c : Committed = commits s (write_width l) 0 d.machine in
    write_bounded s d c (commits_from s (write_width l) d.machine).cycle (omega (arith, commits_most s (write_width l) d.machine, width_most l)) (has_ended c.machine.end) is
turn_bounded s accessing d memory is = same_bounded s accessing executing d d refl refl refl refl is
turn_bounded s executing d memory is = same_bounded s executing issuing d (inorder_turn_at s executing d memory).demand refl refl (moved_cycle s d memory) refl is
turn_bounded s issuing d memory is =
    let behind : Demand = demand_inorder_issue s memory d in
    fetch_bounded s behind (inorder_may_fetch behind.machine) (same_bounded s issuing ending d behind refl refl (issue_cycle s (inorder_in d memory)) refl is)
turn_bounded s trying d memory is = try_bounded s (fetch_try s d.machine) d (try_tries s d.machine) is
turn_bounded s ending d memory is = end_bounded s d (record d { machine = end_of_cycle s d.machine }) refl refl is
turn_bounded s stopping d memory is = same_bounded s stopping halted d (inorder_turn_at s stopping d memory).demand refl refl refl refl is
turn_bounded s halted d memory is = is

pub place_bounded : (s : Setup) → 1 ≤ s.cycles → (k : ℕ) → HasBounds s (inorder_place s k).run.at (inorder_place s k).run.demand
place_bounded s limited = always s (λ at d memory. HasBounds s at d) (start_bounded s limited) (λ at d memory is. turn_bounded s at d memory is)

behind_in : (at : InorderAt) → behind_write at ≤ in_cycle at
behind_in interrupting = omega arith
behind_in writing = omega arith
behind_in accessing = omega arith
behind_in executing = omega arith
behind_in issuing = omega arith
behind_in trying = omega arith
behind_in ending = omega arith
behind_in stopping = omega arith
behind_in halted = omega arith

-- what is committed is at most what all cycles can commit
pub done_bounded : (s : Setup) → 1 ≤ s.cycles → (k : ℕ) → (inorder_place s k).run.demand.to_commit ≤ s.cycles
done_bounded s limited k =
    let p = inorder_place s k in
    let is = place_bounded s limited k in
    omega (arith, is.cycle, is.to_commit, behind_in p.run.at)

orders_count : (s : Setup) (k : ℕ) → length (told (seen s k)) ≤ k
unfolding inorder_place
orders_count s zero = omega arith
orders_count s (suc k) =
    omega (arith, ap (λ (os : List Order). length os) (step_told s k), length_added (told_by (seen s k) (seen s (suc k))) (told (seen s k)), orders_count s k)

pub run_bounded : (s : Setup) (k : ℕ) → 1 ≤ s.cycles → 4 ≤ s.params.core_window → IsInorderBounded s k (inorder_place s k)
run_bounded s k limited room =
    let most = done_bounded s limited k in
    record {
      cycle = omega (arith, (place_bounded s limited k).cycle);
      to_commit = most;
      numbers = all_at_most s s.cycles (told (seen s k)) (orders_numbered s k room) (omega (arith, done_told s k room, most));
      orders = orders_count s k;
    }

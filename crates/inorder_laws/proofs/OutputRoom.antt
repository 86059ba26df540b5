-- The committed output stays within its limit.
use Rattle.std.proofs.Common.{◌≡◌, ℕ, ◌≤◌, Option, List, length, refl, sym, subst, arith}
use Rattle.std.proofs.lemmas.Bool.{cond_both}
use Rattle.mono_model.specs.declared.setup.Setup.{Setup}
use Rattle.mono_model.specs.Arch.{start}
use Rattle.mono_model.specs.Machine.{machine_start, flushed}
use Rattle.mono_model.specs.Issue.{replayed}
use Rattle.mono_model.specs.Fetch.{Try, misses, appends, turns, fetch_try}
use Rattle.mono_model.specs.Demand.{Demand, demand_try}
use Rattle.machine_laws.proofs.Always.{demand_start}
use Rattle.machine_laws.proofs.OutputRoom.{same_output, cycle_end_arch}
use Rattle.machine_laws.proofs.Phases.{interrupt_output, commits_from, by_kept, Tries, try_tries}
use Rattle.inorder_machine.specs.InorderMachine.{InorderMachine, in_execute}
use Rattle.inorder_machine.specs.Write.{write_width, inorder_commit}
use Rattle.inorder_machine.specs.Execute.{moving_by, moving, inorder_execute}
use Rattle.inorder_machine.specs.Issue.{inorder_wants_time, issued, issue_machine}
use Rattle.inorder_machine.specs.Demand.{InorderAt, interrupting, writing, accessing, executing, issuing, trying, ending, stopping, halted, inorder_in, inorder_turn_at, inorder_place}
use Rattle.inorder_laws.proofs.Always.{always}
use Rattle.inorder_laws.proofs.Leading.{moved_fewer}

abbrev HasOutput : Setup → Demand → Type 0
HasOutput s d = length d.machine.arch.output ≤ s.output

start_output : (s : Setup) → HasOutput s (demand_start s)
unfolding machine_start start
start_output s = omega arith

try_output : (s : Setup) (t : Try) (d : Demand) → Tries d.machine t → HasOutput s d → HasOutput s (demand_try s t d)
try_output s (misses behind) d made within = same_output s d.machine.arch behind.arch made.arch within
try_output s (appends behind) d made within = same_output s d.machine.arch behind.arch made.arch within
try_output s (turns behind) d made within = same_output s d.machine.arch behind.arch made.arch within

pub execute_arch : (s : Setup) (l : InorderMachine) → (inorder_execute s l).machine.arch ≡ l.machine.arch
unfolding inorder_execute moving
execute_arch s l =
    let x = moving_by s (in_execute l.machine.window) l in
    (by_kept x.completed.redirect x.completed.records (record l.machine { caches = x.caches }) (moved_fewer s l (in_execute l.machine.window))).arch

pub issue_arch : (s : Setup) (l : InorderMachine) → (issue_machine s l).arch ≡ l.machine.arch
unfolding flushed
issue_arch s l = cond_both (inorder_wants_time s l.machine) (replayed l.machine) (issued s l) (λ x. x.arch ≡ l.machine.arch) (λ e. refl) (λ e. refl)

turn_output : (s : Setup) (at : InorderAt) (d : Demand) (memory : Option ℕ) → HasOutput s d → HasOutput s (inorder_turn_at s at d memory).demand
unfolding inorder_commit inorder_execute
turn_output s interrupting d memory within = subst (λ (x : List ℕ). length x ≤ s.output) (sym (interrupt_output d.machine)) within
turn_output s writing d memory within = (commits_from s (write_width (inorder_in d memory)) d.machine).output within
turn_output s accessing d memory within = within
turn_output s executing d memory within = same_output s d.machine.arch _ (execute_arch s (inorder_in d memory)) within
turn_output s issuing d memory within = same_output s d.machine.arch _ (issue_arch s (inorder_in d memory)) within
turn_output s trying d memory within = try_output s (fetch_try s d.machine) d (try_tries s d.machine) within
turn_output s ending d memory within = same_output s d.machine.arch _ (cycle_end_arch s d.machine) within
turn_output s stopping d memory within = within
turn_output s halted d memory within = within

pub output_within : (s : Setup) (k : ℕ) → length (inorder_place s k).run.demand.machine.arch.output ≤ s.output
output_within s = always s (λ at d memory. HasOutput s d) (start_output s) (turn_output s)

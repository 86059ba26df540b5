-- The committed output stays within its limit.
use Rattle.std.proofs.Common.{◌≡◌, ℕ, ◌≤◌, List, length, refl, sym, subst, arith}
use Rattle.mono_model.specs.declared.setup.Setup.{Setup}
use Rattle.mono_model.specs.Arch.{Arch, start}
use Rattle.mono_model.specs.Machine.{Machine, machine_start}
use Rattle.mono_model.specs.Fetch.{Try, misses, appends, turns, fetch_try}
use Rattle.mono_model.specs.Cycle.{end_of_cycle}
use Rattle.mono_model.specs.Demand.{Demand, At, interrupting, committing, completing, issuing, trying, ending, stopping, halted, tried_turn, turn_at, place}
use Rattle.machine_laws.proofs.Phases.{interrupt_output, commit_from, complete_kept, issue_kept, Tries, try_tries}
use Rattle.machine_laws.proofs.Always.{demand_start, always}

abbrev HasOutput : Setup → At → Demand → Type 0
HasOutput s at d = length d.machine.arch.output ≤ s.output

start_output : (s : Setup) → HasOutput s interrupting (demand_start s)
unfolding machine_start start
start_output s = omega arith

-- where the committed state stays
pub same_output : (s : Setup) (a b : Arch) → b ≡ a → length a.output ≤ s.output → length b.output ≤ s.output
same_output s a b is within = subst (λ (x : Arch). length x.output ≤ s.output) (sym is) within

try_output : (s : Setup) (t : Try) (more : ℕ) (d : Demand) → Tries d.machine t → length d.machine.arch.output ≤ s.output → length (tried_turn s t more d).demand.machine.arch.output ≤ s.output
try_output s (misses behind) more d made within = same_output s d.machine.arch behind.arch made.arch within
try_output s (appends behind) more d made within = same_output s d.machine.arch behind.arch made.arch within
try_output s (turns behind) more d made within = same_output s d.machine.arch behind.arch made.arch within

pub cycle_end_arch : (s : Setup) (m : Machine) → (end_of_cycle s m).arch ≡ m.arch
unfolding end_of_cycle
cycle_end_arch s m = refl

turn_output : (s : Setup) (at : At) (d : Demand) → HasOutput s at d → HasOutput s (turn_at s at d).at (turn_at s at d).demand
turn_output s interrupting d within = subst (λ (x : List ℕ). length x ≤ s.output) (sym (interrupt_output d.machine)) within
turn_output s committing d within = (commit_from s d.machine).output within
turn_output s completing d within = same_output s d.machine.arch _ (complete_kept d.machine).arch within
turn_output s issuing d within = same_output s d.machine.arch _ (issue_kept s d.machine).arch within
turn_output s (trying more) d within = try_output s (fetch_try s d.machine) more d (try_tries s d.machine) within
turn_output s ending d within = same_output s d.machine.arch _ (cycle_end_arch s d.machine) within
turn_output s stopping d within = within
turn_output s halted d within = within

pub output_within : (s : Setup) (k : ℕ) → length (place s k).run.demand.machine.arch.output ≤ s.output
output_within s = always s (HasOutput s) (start_output s) (turn_output s)

-- The in-order machine never has more than four records under way.
use Rattle.std.proofs.Common.{◌≡◌, ℕ, zero, suc, ◌≤◌, if◌then◌else◌, Bool, true, false, Option, List, [], length, refl, subst, sym}
use Rattle.std.proofs.lemmas.Bool.{cond_both}
use Rattle.mono_model.specs.declared.setup.Setup.{Setup}
use Rattle.mono_model.specs.Final.{has_ended}
use Rattle.mono_model.specs.Window.{Record}
use Rattle.mono_model.specs.Machine.{Machine}
use Rattle.mono_model.specs.Fetch.{Try, misses, appends, turns, after_try, fetch_try}
use Rattle.mono_model.specs.Demand.{Demand, demand_try}
use Rattle.inorder_machine.specs.InorderMachine.{InorderMachine, inorder_start}
use Rattle.inorder_machine.specs.Write.{inorder_interrupt, inorder_write}
use Rattle.inorder_machine.specs.Memory.{inorder_memory}
use Rattle.inorder_machine.specs.Execute.{inorder_execute}
use Rattle.inorder_machine.specs.Issue.{inorder_issue}
use Rattle.inorder_machine.specs.Fetch.{inorder_fetch, inorder_may_fetch}
use Rattle.inorder_machine.specs.Cycle.{inorder, inorder_cycle_end, inorder_cycled, inorder_phases}
use Rattle.inorder_machine.specs.Demand.{InorderAt, interrupting, writing, accessing, executing, issuing, trying, ending}
use Rattle.machine_laws.proofs.Numbering.{cycle_end_window}
use Rattle.inorder_laws.proofs.Stages.{Stands, start_stands, stands_length, turn_stands}

-- a state as that of a demand run
abbrev in_demand : Machine → Demand
in_demand m = record { machine = m; to_commit = 0; orders = [] }

abbrev Stage : InorderAt → InorderMachine → Type 0
Stage at l = Stands at l.machine.window l.memory

interrupt_stands : (s : Setup) (l : InorderMachine) → Stage interrupting l → Stage writing (inorder_interrupt l)
unfolding inorder_interrupt
interrupt_stands s l stands = turn_stands s interrupting (in_demand l.machine) l.memory stands

write_stands : (s : Setup) (l : InorderMachine) → Stage writing l → Stage (if has_ended (inorder_write s l).machine.end then ending else accessing) (inorder_write s l)
unfolding inorder_write
write_stands s l stands = turn_stands s writing (in_demand l.machine) l.memory stands

memory_stands : (s : Setup) (l : InorderMachine) → Stage accessing l → Stage executing (inorder_memory l)
unfolding inorder_memory
memory_stands s l stands = turn_stands s accessing (in_demand l.machine) l.memory stands

execute_stands : (s : Setup) (l : InorderMachine) → Stage executing l → Stage issuing (inorder_execute s l)
unfolding inorder_execute
execute_stands s l stands = turn_stands s executing (in_demand l.machine) l.memory stands

issue_stands : (s : Setup) (l : InorderMachine) → Stage issuing l → Stage (if inorder_may_fetch (inorder_issue s l).machine then trying else ending) (inorder_issue s l)
unfolding inorder_issue
issue_stands s l stands = turn_stands s issuing (in_demand l.machine) l.memory stands

try_stands : (s : Setup) (t : Try) (d : Demand) (memory : Option ℕ) → Stands ending (demand_try s t d).machine.window memory → Stands ending (after_try t (λ behind. behind)).window memory
try_stands s (misses behind) d memory stands = stands
try_stands s (appends behind) d memory stands = stands
try_stands s (turns behind) d memory stands = stands

fetch_stands : (s : Setup) (l : InorderMachine) (b : Bool) → inorder_may_fetch l.machine ≡ b → Stage (if b then trying else ending) l →
    Stands ending (if b then after_try (fetch_try s l.machine) (λ behind. behind) else l.machine).window l.memory
fetch_stands s l true may stands = try_stands s (fetch_try s l.machine) (in_demand l.machine) l.memory (turn_stands s trying (in_demand l.machine) l.memory stands)
fetch_stands s l false may stands = stands

fetched_stands : (s : Setup) (l : InorderMachine) → Stage (if inorder_may_fetch l.machine then trying else ending) l → Stage ending (inorder_fetch s l)
unfolding inorder_fetch
fetched_stands s l stands = fetch_stands s l (inorder_may_fetch l.machine) refl stands

after_stands : (s : Setup) (l : InorderMachine) (b : Bool) → has_ended l.machine.end ≡ b → Stage (if b then ending else accessing) l →
    Stage ending (if b then l else inorder_fetch s (inorder_issue s (inorder_execute s (inorder_memory l))))
after_stands s l true over stands = stands
after_stands s l false over stands =
    let a = inorder_memory l in
    let x = inorder_execute s a in
    let e = inorder_issue s x in
    fetched_stands s e (issue_stands s x (execute_stands s a (memory_stands s l stands)))

phases_stand : (s : Setup) (l : InorderMachine) → Stage interrupting l → Stage ending (inorder_phases s l)
phases_stand s l stands =
    let w = inorder_write s (inorder_interrupt l) in
    after_stands s w (has_ended w.machine.end) refl (write_stands s (inorder_interrupt l) (interrupt_stands s l stands))

end_stands : (s : Setup) (l : InorderMachine) → Stage ending l → Stage interrupting (inorder_cycle_end s l)
end_stands s l stands = subst (λ (w : List Record). Stands interrupting w l.memory) (sym (cycle_end_window s l.machine)) (record { staged = stands.staged; tries = tt })

cycle_stands : (s : Setup) (l : InorderMachine) → Stage interrupting l → Stage interrupting (inorder_cycled s l)
unfolding inorder_cycled
cycle_stands s l stands =
    cond_both (has_ended l.machine.end) l (inorder_cycle_end s (inorder_phases s l)) (Stage interrupting) (λ over. stands)
    (λ on. end_stands s (inorder_phases s l) (phases_stand s l stands))

all_stand : (s : Setup) (n : ℕ) → Stage interrupting (inorder s n)
unfolding inorder inorder_start
all_stand s zero = start_stands s
all_stand s (suc n) = cycle_stands s (inorder s n) (all_stand s n)

pub inorder_within : (s : Setup) (n : ℕ) → length (inorder s n).machine.window ≤ 4
inorder_within s n = stands_length interrupting (inorder s n).machine.window (inorder s n).memory (all_stand s n)

-- The committed output only grows, cycle by cycle.
use Rattle.std.proofs.Common.{◌≡◌, ℕ, suc, ◌≤◌, refl, sym, ◌∙◌, subst}
use Rattle.std.proofs.lemmas.Bool.{cond_both}
use Rattle.mono_model.specs.declared.setup.Setup.{Setup}
use Rattle.mono_model.specs.Arch.{Arch}
use Rattle.mono_model.specs.Final.{has_ended}
use Rattle.mono_model.specs.Machine.{Machine}
use Rattle.mono_model.specs.Fetch.{fetch_try, after_try}
use Rattle.machine_laws.specs.Output.{GrowsTo}
use Rattle.machine_laws.proofs.Growing.{grows_none, grows_by_none, grows_on, grows_to}
use Rattle.machine_laws.proofs.OutputGrows.{after_arch}
use Rattle.machine_laws.proofs.OutputRoom.{cycle_end_arch}
use Rattle.machine_laws.proofs.Phases.{interrupt_output, commits_from, try_tries}
use Rattle.inorder_machine.specs.InorderMachine.{InorderMachine}
use Rattle.inorder_machine.specs.Write.{inorder_interrupt, write_width, inorder_commit, inorder_write}
use Rattle.inorder_machine.specs.Memory.{inorder_memory}
use Rattle.inorder_machine.specs.Execute.{inorder_execute}
use Rattle.inorder_machine.specs.Issue.{inorder_issue}
use Rattle.inorder_machine.specs.Fetch.{inorder_may_fetch, fetch_machine, inorder_fetch}
use Rattle.inorder_machine.specs.Cycle.{after_write, inorder_phases, inorder_cycle_end, inorder_cycled, inorder}
use Rattle.inorder_laws.proofs.OutputRoom.{execute_arch, issue_arch}

fetch_arch : (s : Setup) (m : Machine) → (fetch_machine s m).arch ≡ m.arch
fetch_arch s m =
    cond_both (inorder_may_fetch m) (after_try (fetch_try s m) (λ behind. behind)) m (λ x. x.arch ≡ m.arch)
    (λ may. after_arch (fetch_try s m) m (λ behind. behind) (try_tries s m) (λ behind. refl)) (λ stays. refl)

-- the phases after Write leave the committed state
after_write_arch : (s : Setup) (l : InorderMachine) → (after_write s l).machine.arch ≡ l.machine.arch
unfolding inorder_fetch inorder_issue inorder_memory
after_write_arch s l =
    let executed : InorderMachine = inorder_execute s (inorder_memory l) in
    let issued : InorderMachine = inorder_issue s executed in
    cond_both (has_ended l.machine.end) l (inorder_fetch s issued) (λ x. x.machine.arch ≡ l.machine.arch)
    (λ ended. refl) (λ on. fetch_arch s issued.machine ∙ issue_arch s executed ∙ execute_arch s (inorder_memory l))

phases_grow : (s : Setup) (l : InorderMachine) → GrowsTo l.machine.arch.output (inorder_phases s l).machine.arch.output
unfolding inorder_interrupt inorder_write inorder_commit
phases_grow s l =
    let i : InorderMachine = inorder_interrupt l in
    let w : InorderMachine = inorder_write s i in
    subst (λ (a : Arch). GrowsTo l.machine.arch.output a.output) (sym (after_write_arch s w))
    (grows_on l.machine.arch.output i.machine.arch.output w.machine.arch.output
    (grows_by_none l.machine.arch.output i.machine.arch.output (interrupt_output l.machine))
    (commits_from s (write_width i) i.machine).grows)

cycle_grows : (s : Setup) (l : InorderMachine) → GrowsTo l.machine.arch.output (inorder_cycled s l).machine.arch.output
unfolding inorder_cycled
cycle_grows s l =
    let p : InorderMachine = inorder_phases s l in
    cond_both (has_ended l.machine.end) l (inorder_cycle_end s p) (λ x. GrowsTo l.machine.arch.output x.machine.arch.output)
    (λ ended. grows_none l.machine.arch.output)
    (λ on. subst (λ (a : Arch). GrowsTo l.machine.arch.output a.output) (sym (cycle_end_arch s p.machine)) (phases_grow s l))

next_grows : (s : Setup) (c : ℕ) → GrowsTo (inorder s c).machine.arch.output (inorder s (suc c)).machine.arch.output
unfolding inorder
next_grows s c = cycle_grows s (inorder s c)

pub inorder_grows : (s : Setup) (c d : ℕ) → c ≤ d → GrowsTo (inorder s c).machine.arch.output (inorder s d).machine.arch.output
inorder_grows s = grows_to (λ (l : InorderMachine). l.machine.arch.output) (inorder s) (next_grows s)

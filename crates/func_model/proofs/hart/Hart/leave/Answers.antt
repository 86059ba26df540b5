use Rattle.std.proofs.Common.{refl, ap, ◌∙◌}
use Rattle.undo_journal.specs.declared.past.OldCsr.{OldCsr}
use Rattle.undo_journal.specs.declared.past.Change.TheVariants.{Csr}
use Rattle.phys_mem.specs.Ram.{ram_of}
use Rattle.mono_model.specs.Arch.{Arch}
use Rattle.func_model.specs.declared.performed.Performed.{Performed}
use Rattle.func_model.proofs.TakenBack.{csr_taken_back}
use Rattle.func_model.specs.Undo.{flags_before, csr_back}
use Rattle.func_model.specs.Hart.{arch_of}
use Rattle.func_model.proofs.Made.{mret_done}
use Rattle.func_model.proofs.hart.Hart.leave.Goals as goal

pub returns-clause-arch : goal.returns-clause-arch
unfolding arch_of
returns-clause-arch c = λ d. mret_done (arch_of c.args.self.now d) _ c.leave-next.new.self c.leave-next.result c.leave-next.ensures.left c.leave-next.ensures.address (c.finish.ensures.arch d)

pub returns-clause-back : goal.returns-clause-back
unfolding arch_of
returns-clause-back c = λ range d.
    csr_taken_back range (flags_before c.args.self.now.csrs) c.leave-next.new.self _ (arch_of c.args.self.now d) _
    (ap (λ (done : Performed). done.change) c.plain.ensures.done ∙ ap (λ (was : OldCsr). Csr was) c.flags_before-before.ensures.before)
    (ap ram_of c.finish.ensures.memory) refl (ap (λ (x : Arch). x.csrs) (c.finish.ensures.arch d))
    (ap (csr_back (flags_before c.args.self.now.csrs)) c.leave-next.ensures.left)

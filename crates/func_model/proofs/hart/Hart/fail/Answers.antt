use Rattle.std.proofs.Common.{ℕ, ap, ◌∙◌}
use Rattle.undo_journal.specs.declared.past.OldTrap.{OldTrap}
use Rattle.undo_journal.specs.declared.past.Change.TheVariants.{Trap}
use Rattle.func_model.proofs.TakenBack.{trap_taken_back}
use Rattle.mono_model.specs.Arch.{trapped}
use Rattle.func_model.specs.Hart.{arch_of}
use Rattle.func_model.proofs.hart.Hart.fail.Goals as goal

pub returns-clause-arch : goal.returns-clause-arch
returns-clause-arch c = λ d.
    c.trap.ensures.arch d ∙ ap (λ (n : ℕ). trapped n c.args.mtval c.args.self.now.pc (arch_of c.args.self.now d)) c.number.ensures.code

pub returns-clause-back : goal.returns-clause-back
unfolding arch_of
returns-clause-back c = λ range d.
    trap_taken_back range _ c.number.result c.args.mtval c.args.self.now.pc (arch_of c.args.self.now d) _ (ap (λ (was : OldTrap). Trap was) c.trap_before-before.ensures.before) (c.trap.ensures.arch d)

use Rattle.std.proofs.Common.{Bool, if◌then◌else◌, ap, sym, ◌∙◌}
use Rattle.machine_csr.specs.Trap.{handler_of, timer_interrupt, trap_entered}
use Rattle.mono_model.specs.Arch.{interrupted, trapped}
use Rattle.func_model.specs.declared.side.Arch.{Arch}
use Rattle.func_model.specs.History.{walk}
use Rattle.func_model.specs.Side.{registers_at}
use Rattle.func_model.proofs.trail.Trail.found.Goals as goal

pub returns-then-is_interrupted : goal.returns-then-is_interrupted
unfolding trapped
returns-then-is_interrupted g c = record {
  found = λ s h.
      let a = walk s c.args.self.now.at in
      (λ i. record { pc = c.trap.ensures.handler i; regs = c.arch-arch.result.regs; csrs = c.trap.ensures.entered i; cmp = c.arch-arch.result.cmp })
      ∙ ap (λ (x : Arch). record x { pc = handler_of timer_interrupt x.csrs; csrs = trap_entered timer_interrupt x.pc 0 x.csrs }) (c.arch-arch.ensures.arch s h)
      ∙ sym (ap registers_at (c.is_interrupted.ensures.due s h ∙ ap (λ (b : Bool). if b then interrupted a else a) c.if-is_interrupted.true));
}

use Rattle.std.proofs.Common.{Bool, if◌then◌else◌, ap, sym, ◌∙◌}
use Rattle.machine_csr.specs.Trap.{handler_of, timer_interrupt}
use Rattle.mono_model.specs.Arch.{Arch, interrupted, trapped}
use Rattle.func_model.specs.Hart.{arch_of}
use Rattle.func_model.specs.History.{walk}
use Rattle.func_model.proofs.trail.Trail.next_address.Goals as goal

pub returns-then-not-is_interrupted : goal.returns-then-not-is_interrupted
unfolding arch_of
returns-then-not-is_interrupted g c = record {
  address = λ s h.
      let a = walk s c.args.self.now.at in
      ap (λ (x : Arch). x.pc) h.contents.arch
      ∙ sym (ap (λ (x : Arch). x.pc) (c.is_interrupted.ensures.due s h ∙ ap (λ (b : Bool). if b then interrupted a else a) c.if-not-is_interrupted.true));
}

pub returns : goal.returns
unfolding arch_of trapped
returns g c = record {
  address = λ s h.
      let a = walk s c.args.self.now.at in
      c.trap.ensures.handler ∙ ap (λ (x : Arch). handler_of timer_interrupt x.csrs) h.contents.arch
      ∙ sym (ap (λ (x : Arch). x.pc) (c.is_interrupted.ensures.due s h ∙ ap (λ (b : Bool). if b then interrupted a else a) c.if-not-is_interrupted.false));
}

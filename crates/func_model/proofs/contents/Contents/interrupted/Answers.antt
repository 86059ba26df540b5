use Rattle.std.proofs.Common.{ap, ◌∙◌}
use Rattle.mono_model.specs.Arch.{interrupted, trapped}
use Rattle.phys_mem.specs.Ram.{exec_of, range_of}
use Rattle.func_model.specs.Hart.{arch_of}
use Rattle.func_model.proofs.contents.Contents.interrupted.Goals as goal

pub returns-clause-stands : goal.returns-clause-stands
unfolding arch_of trapped
returns-clause-stands g c = λ s a h. record {
  arch = c.trap.ensures.arch c.args.self.now.bus ∙ ap interrupted h.arch;
  exec = ap exec_of c.trap.ensures.memory ∙ h.exec;
  range = ap range_of c.trap.ensures.memory ∙ h.range;
  compare = h.compare;
}

use Rattle.std.proofs.Common.{ap}
use Rattle.mono_model.specs.Arch.{Arch}
use Rattle.func_model.specs.Hart.{arch_of}
use Rattle.func_model.proofs.trail.Trail.pc.Goals as goal

pub returns : goal.returns
unfolding arch_of
returns g c = record { pc = λ s h. ap (λ (a : Arch). a.pc) h.contents.arch }

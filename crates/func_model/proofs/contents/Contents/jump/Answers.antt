use Rattle.std.proofs.Common.{ap}
use Rattle.mono_model.specs.Arch.{Arch}
use Rattle.func_model.specs.Hart.{arch_of}
use Rattle.func_model.proofs.contents.Contents.jump.Goals as goal

pub returns-clause-stands : goal.returns-clause-stands
unfolding arch_of
returns-clause-stands g c = λ s a h. record { arch = ap (λ (x : Arch). record x { pc = c.args.addr }) h.arch; exec = h.exec; range = h.range; compare = h.compare }

use Rattle.func_model.specs.History.{walk}
use Rattle.func_model.proofs.trail.Trail.arch.Goals as goal

pub returns : goal.returns
returns g c = record { arch = λ s h. c.registers.ensures.state s (walk s c.args.self.now.at) h.contents }

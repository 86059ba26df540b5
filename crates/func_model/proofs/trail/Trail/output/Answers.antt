use Rattle.std.proofs.Common.{◌∙◌}
use Rattle.func_model.specs.History.{walk}
use Rattle.func_model.proofs.Walking.{stands_output}
use Rattle.func_model.proofs.trail.Trail.output.Goals as goal

pub returns : goal.returns
returns g c = record { output = λ s h. c.output.ensures.output ∙ stands_output s (walk s c.args.self.now.at) c.args.self.now.contents h.contents }

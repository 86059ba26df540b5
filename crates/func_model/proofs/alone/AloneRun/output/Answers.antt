use Rattle.std.proofs.Common.{◌∙◌}
use Rattle.mono_model.specs.Alone.{alone}
use Rattle.func_model.proofs.Walking.{stands_output}
use Rattle.func_model.proofs.alone.AloneRun.output.Goals as goal

pub returns : goal.returns
returns g c = record { output = λ s n h. c.output.ensures.output ∙ stands_output s (alone s n).arch c.args.self.now.contents h.at.stands }

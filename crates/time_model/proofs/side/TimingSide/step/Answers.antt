use Rattle.std.proofs.Common.{refl, subst}
use Rattle.time_model.specs.Running.{Steps}
use Rattle.time_model.proofs.side.TimingSide.step.Goals as goal

pub returns : goal.returns
returns g c = record { made = subst (λ from. Steps g.P.Pipeline.piped from c.run.new.self c.run.result) c.self.view_is (c.run.ensures.single refl) }

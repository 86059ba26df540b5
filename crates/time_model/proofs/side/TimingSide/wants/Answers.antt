use Rattle.std.proofs.Common.{◌∙◌, ap}
use Rattle.time_model.specs.Standing.{wants_in}
use Rattle.time_model.proofs.Owing.{stands_wants}
use Rattle.time_model.proofs.side.TimingSide.wants.Goals as goal

pub returns-clause-needs : goal.returns-clause-needs
returns-clause-needs g c = λ s k h. c.wants.ensures.wants ∙ ap (wants_in g.P.Pipeline.piped) c.self.view_is ∙ stands_wants g.P.Pipeline.piped g.met.P.Pipeline.laws s k c.args.self.now h

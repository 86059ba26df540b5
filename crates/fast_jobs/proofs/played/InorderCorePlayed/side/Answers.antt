use Rattle.std.proofs.Common.{ap, ◌∙◌}
use Rattle.cycle_watch.specs.SeenIn.{inorder_side_sight}
use Rattle.fast_jobs.proofs.PlayedInorder.{shows}
use Rattle.fast_jobs.proofs.played.InorderCorePlayed.side.Goals as goal

pub returns : goal.returns
returns g c = record { seen = λ s n starts. ap inorder_side_sight c.side.ensures.side ∙ shows s n c.args.self.now starts }

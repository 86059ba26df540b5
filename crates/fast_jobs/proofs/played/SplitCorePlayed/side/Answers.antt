use Rattle.std.proofs.Common.{ap, ◌∙◌}
use Rattle.cycle_watch.specs.SeenIn.{time_sight}
use Rattle.fast_jobs.proofs.PlayedWindow.{shows}
use Rattle.fast_jobs.proofs.played.SplitCorePlayed.side.Goals as goal

pub returns : goal.returns
returns g c = record { seen = λ s n starts. ap time_sight c.side.ensures.side ∙ shows s n c.args.self.now starts }

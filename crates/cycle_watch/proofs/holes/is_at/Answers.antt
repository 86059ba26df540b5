use Rattle.cycle_watch.proofs.Staying.{seen_stage}
use Rattle.cycle_watch.proofs.holes.is_at.Goals as goal

pub returns : goal.returns
returns g c = record {
  at = λ x here. seen_stage c.args.stage (g.S.Watched.sight c.args.side.now).window c.args.place c.progress.result c.is_in.result x here c.progress.ensures.progress c.is_in.ensures.stage;
}

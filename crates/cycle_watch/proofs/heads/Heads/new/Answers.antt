use Rattle.cycle_watch.proofs.Standing.{stands_start}
use Rattle.cycle_watch.proofs.heads.Heads.new.Goals as goal

pub returns : goal.returns
returns g c = record {
  stands = stands_start c.args.pipeline c.args.setup.now.params (g.S.Watched.sight c.args.side.now) c.args.setup.now.image.entry c.in_ok-last.last c.start.result
      c.in_ok-last.ensures.keeps c.in_ok-last.ensures.watches c.requires.empty c.start.ensures.start;
}

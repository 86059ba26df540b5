use Rattle.fast_jobs.proofs.PlayedWindow.{ended_boundary, reports_last, told_last}
use Rattle.fast_jobs.proofs.played.SplitCorePlayed.committed.Goals as goal

pub committed-requires : goal.committed-requires
committed-requires g c = let played = c.requires.ended in record { boundary = ended_boundary played.setup c.args.self.now played.ended }

pub returns : goal.returns
returns g c = record {
  last = λ s ended. reports_last s c.args.self.now ended c.committed.result c.committed.ensures.reported;
  reported = λ s ended. told_last s c.args.self.now ended c.committed.new.self c.committed.ensures.contents;
}

use Rattle.fast_jobs.proofs.PlayedInorder.{goes_on, going}
use Rattle.fast_jobs.proofs.played.InorderCorePlayed.cycle_on.Goals as goal

pub cycle_on-requires : goal.cycle_on-requires
cycle_on-requires g c = let playing = c.requires.playing in record { going = going playing.setup playing.cycle c.args.self.now playing.starts }

pub returns : goal.returns
returns g c = record { next = λ s n starts on. goes_on s n c.args.self.now starts c.cycle_on.new.self c.cycle_on.ensures.next on }

use Rattle.fast_jobs.proofs.PlayedWindow.{comes_to_end, going}
use Rattle.fast_jobs.proofs.played.SplitCorePlayed.to_end.Goals as goal

pub to_end-requires : goal.to_end-requires
to_end-requires g c = let playing = c.requires.playing in record { going = going playing.setup playing.cycle c.args.self.now playing.starts }

pub returns : goal.returns
returns g c = record { ended = λ s n starts. comes_to_end s n c.args.self.now starts c.to_end.new.self c.to_end.ensures.ended }

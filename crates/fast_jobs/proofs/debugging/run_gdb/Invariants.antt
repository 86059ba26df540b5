use Rattle.fast_jobs.specs.Talking.{due_after}
use Rattle.fast_jobs.proofs.debugging.run_gdb.Given as goal

abbrev pub ghosts-answer_all : goal.ghosts-answer_all
ghosts-answer_all g a = record { due = due_after a.history a.setup.now (g.S.Source.heard a.source.now) (g.K.Sink.written a.sink.now) }

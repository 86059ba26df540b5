use Rattle.std.proofs.Common.{ap, sym, ◌∙◌}
use Rattle.func_model.specs.Position.{reach}
use Rattle.gdb_model.specs.Session.{watched_access}
use Rattle.gdb_session.proofs.Looking.{nothing_at}
use Rattle.gdb_session.proofs.Watching.{unwatched}
use Rattle.gdb_session.proofs.stops.Stops.watched.Goals as goal

pub returns-then-not-has_watch-clause-byte : goal.returns-then-not-has_watch-clause-byte
returns-then-not-has_watch-clause-byte g c = λ s h. sym (unwatched c.args.self.now.points (sym c.requires.known ∙ c.if-not-has_watch.true) (reach s c.args.debugger.now.at))

pub returns-in-Ended-clause-byte : goal.returns-in-Ended-clause-byte
returns-in-Ended-clause-byte g c = λ s h. sym (ap (watched_access c.args.self.now.points) (nothing_at s c.args.debugger.now.at c.in-Ended.field-0 (c.in-Ended.ensures.ahead s h)))

pub returns-in-Step-clause-byte : goal.returns-in-Step-clause-byte
returns-in-Step-clause-byte g c = λ s h. c.watched.ensures.byte ∙ ap (watched_access c.args.self.now.points) (sym (c.in-Step.ensures.ahead s h).1)

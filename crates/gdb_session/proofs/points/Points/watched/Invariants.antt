use Rattle.std.proofs.Common.{◌≡◌}
use Rattle.gdb_session.proofs.Watching.{watched_so_far}
use Rattle.gdb_session.proofs.points.Points.watched.Given as goal

abbrev pub invariant-loop-point : goal.invariant-loop-point
invariant-loop-point l = l.greatest ≡ watched_so_far l.access l.point-index l.point-items

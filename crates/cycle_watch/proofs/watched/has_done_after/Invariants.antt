use Rattle.std.proofs.Common.{◌≡◌, ◌+◌, drop}
use Rattle.inorder_side.specs.Timing.{done_count}
use Rattle.cycle_watch.proofs.watched.has_done_after.Given as goal

-- those after the place that are done are among the others
abbrev pub invariant-loop-younger : goal.invariant-loop-younger
invariant-loop-younger l = done_count (drop (l.place + 1) l.flight.slots) ≡ done_count (drop l.younger l.flight.slots)

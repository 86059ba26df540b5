use Rattle.std.proofs.Common.{◌≡◌, ◌+◌, drop}
use Rattle.inorder_side.specs.Timing.{done_count}
use Rattle.inorder_model.proofs.stages.more_are_done.Given as goal

-- those in front of the place are counted
abbrev pub invariant-loop-place : goal.invariant-loop-place
invariant-loop-place l = record { counted : l.left + done_count l.flight.slots ≡ l.than + done_count (drop l.place l.flight.slots) }

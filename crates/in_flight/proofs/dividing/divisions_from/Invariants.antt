use Rattle.std.proofs.Common.{◌≡◌, ◌+◌, ◌≤◌, take}
use Rattle.timing_side.specs.Issue.{busy_divisions}
use Rattle.in_flight.proofs.dividing.divisions_from.Given as goal

-- those from the place on are counted
abbrev pub invariant-loop-place : goal.invariant-loop-place
invariant-loop-place l = record {
  behind : l.from ≤ l.place;
  counted : l.divisions + busy_divisions (take l.place l.window.slots) ≡ busy_divisions l.window.slots;
}

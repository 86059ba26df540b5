use Rattle.std.proofs.Common.{◌≡◌, []}
use Rattle.crossbeam_queue.specs.Passes.{IsPassOf}
use Rattle.trace_ring.specs.Line.{seen}
use Rattle.trace_ring.proofs.outlet.send.Given as goal

-- the group is still to go, and nothing has changed
abbrev pub invariant-loop : goal.invariant-loop
invariant-loop g l = IsPassOf l.fn.line l.pass × (seen l.pass ≡ seen l.fn.pass) × (l.group ≡ l.fn.outgoing) × (l.outgoing ≡ [])

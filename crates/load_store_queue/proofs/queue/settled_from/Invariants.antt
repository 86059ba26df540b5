use Rattle.std.proofs.Common.{◌≤◌}
use Rattle.load_store_queue.specs.Queue.{done_in_a_row}
use Rattle.load_store_queue.proofs.queue.settled_from.Given as goal

-- the stores so far are done
abbrev pub invariant-loop-place : goal.invariant-loop-place
invariant-loop-place l = l.place ≤ done_in_a_row l.stores.items

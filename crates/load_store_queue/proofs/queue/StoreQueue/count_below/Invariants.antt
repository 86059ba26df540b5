use Rattle.std.proofs.Common.{◌≤◌, ◌-◌, length}
use Rattle.load_store_queue.proofs.Rising.{count_below}
use Rattle.load_store_queue.proofs.queue.StoreQueue.count_below.Given as goal

-- the stores before the lower place are below the number, and those from the upper one on aren't
abbrev pub invariant-loop-low : goal.invariant-loop-low
invariant-loop-low l =
    (l.low ≤ count_below l.number l.self-inside.stores.items) × (count_below l.number l.self-inside.stores.items ≤ l.high) × (l.high ≤ length l.self-inside.stores.items)

abbrev pub decreases-loop-low : goal.decreases-loop-low
decreases-loop-low l = l.high - l.low

use Rattle.std.proofs.Common.{◌≡◌, ◌≤◌, List}
use Rattle.rollback_cmds.specs.declared.order.Order.{Order}
use Rattle.fast_threads.proofs.worker.Worker.work.Given as goal

abbrev pub invariant-loop : goal.invariant-loop
invariant-loop g l =
    (g.Self.Worker.setup l.self ≡ g.Self.Worker.setup l.fn.self)
    × ((orders : List Order) → g.Self.Worker.has_gone_on orders l.fn.self → g.Self.Worker.has_gone_on orders l.self)
    × (l.idle ≤ 256)
    × (l.waits ≤ 16)

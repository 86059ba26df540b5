use Rattle.std.proofs.Common.{◌≡◌, false, List}
use Rattle.rollback_cmds.specs.declared.order.Order.{Order}
use Rattle.fast_threads.specs.Workers.{HasGoneOn}
use Rattle.fast_threads.proofs.session.Session.run.Given as goal

abbrev pub invariant-loop : goal.invariant-loop
invariant-loop g l =
    (l.self.setup ≡ l.fn.self.setup)
    × (l.self.ended ≡ false)
    × ((orders : List Order) → HasGoneOn l.fn.self.setup l.fn.self.obeyed l.fn.self.func orders
    → HasGoneOn l.self.setup l.self.obeyed l.self.func orders)

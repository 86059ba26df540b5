use Rattle.std.proofs.Common.{arith}
use Rattle.undo_journal.proofs.Ring.{empty_ring}
use Rattle.undo_journal.proofs.journal.Journal.with_room.Goals as goal

pub invariant_of-result : goal.invariant_of-result
invariant_of-result c =
    let size = c.next_power_of_two-size.ensures in
    empty_ring c.in-Ok.places.items c.args.capacity size.power.0 c.next_power_of_two-size.result size.power.1 (omega (arith, c.in-Ok.ensures.len)) (omega (arith, size.lower_bound)) (omega (arith, size.upper_bound))

use Rattle.std.proofs.Common.{◌<◌, ◌^◌, length, arith}
use Rattle.cycle_watch.proofs.Stacked.{cause_below, end_below, index_below}
use Rattle.cycle_watch.proofs.stack.add.Goals as goal

pub raise-requires : goal.raise-requires
raise-requires c =
    let below = cause_below c.args.head in
    let within : c.cause_place.result < length c.args.counts.now.heads = omega (arith, below, c.cause_place.ensures.place) in
    record { within = within; fits = omega (arith, index_below (2 ^ 60) c.args.counts.now.heads c.cause_place.result c.requires.room.heads within, c.requires.short) }

pub raise-requires-2 : goal.raise-requires-2
raise-requires-2 c =
    let below = end_below c.args.end in
    let within : c.fetch_end_place.result < length c.args.counts.now.ends = omega (arith, below, c.fetch_end_place.ensures.place) in
    record { within = within; fits = omega (arith, index_below (2 ^ 60) c.args.counts.now.ends c.fetch_end_place.result c.requires.room.ends within, c.requires.short) }

pub raise-requires-3 : goal.raise-requires-3
raise-requires-3 c =
    let within : c.args.facts.now.left < length c.args.counts.now.left = omega (arith, c.requires.left) in
    record { within = within; fits = omega (arith, index_below (2 ^ 60) c.args.counts.now.left c.args.facts.now.left c.requires.room.left within, c.requires.short) }

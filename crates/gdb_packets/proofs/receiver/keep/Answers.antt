use Rattle.std.proofs.Common.{◌≡◌, ◌<◌, arith, length, ◌∙◌}
use Rattle.std.proofs.lemmas.Grind.{common_steps}
use Rattle.gdb_packets.proofs.Kept.{take-full, take-pushed}
use Rattle.gdb_packets.proofs.receiver.keep.Goals as goal
use Rattle.gdb_packets.specs.declared.receiver.TheConstants.{ROOM}

pub returns-then-not-is_full : goal.returns-then-not-is_full
returns-then-not-is_full c =
    let less : length c.args.content.now.items < ROOM = grind (arith, common_steps, c.if-not-is_full.ensures.value, c.if-not-is_full.ensures.fits) in
    record { kept = c.push.ensures.items ∙ take-pushed ROOM c.args.content.now.items c.args.byte less }

pub returns-else-not-is_full : goal.returns-else-not-is_full
returns-else-not-is_full c =
    let full : length c.args.content.now.items ≡ ROOM = grind (arith, common_steps, c.if-not-is_full.ensures.value) in
    record { kept = take-full ROOM c.args.content.now.items c.args.byte full }

use Rattle.std.proofs.Common.{length-append, arith}
use Rattle.gdb_packets.proofs.Digits.{length-digits}
use Rattle.gdb_packets.proofs.reply.Reply.number.Goals as goal

pub digits-requires : goal.digits-requires
digits-requires c = record { room = omega (arith, length-digits c.args.number c.ranges.number.fits, c.requires.room) }

pub returns-clause-len : goal.returns-clause-len
returns-clause-len c = rw (c.digits.ensures.content, length-append) (omega (arith, length-digits c.args.number c.ranges.number.fits))

use Rattle.std.proofs.Common.{append_assoc}
use Rattle.gdb_packets.proofs.Digits.{encode-byte}
use Rattle.gdb_packets.proofs.reply.Reply.hex.Goals as goal

pub returns-clause-content : goal.returns-clause-content
returns-clause-content c =
    rw (c.byte-2.ensures.content, c.byte.ensures.content, c.digit.ensures.digit, c.digit-2.ensures.digit, encode-byte c.args.byte) (append_assoc c.args.self.now _ _)

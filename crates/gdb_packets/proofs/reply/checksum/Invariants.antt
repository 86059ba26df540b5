use Rattle.std.proofs.Common.{◌≡◌, take}
use Rattle.gdb_packets.specs.Frame.{checksum}
use Rattle.gdb_packets.proofs.reply.checksum.Given as goal

-- the sum of the bytes so far
abbrev pub invariant-loop-byte : goal.invariant-loop-byte
invariant-loop-byte l = l.sum ≡ checksum (take l.byte-index l.content)

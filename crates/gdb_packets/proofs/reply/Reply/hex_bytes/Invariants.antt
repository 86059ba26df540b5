use Rattle.std.proofs.Common.{◌≡◌, ◌++◌, ◌+◌, ◌*◌, length, take}
use Rattle.hex.specs.Hex.{encode_lower}
use Rattle.gdb_packets.proofs.reply.Reply.hex_bytes.Given as goal

-- the digits of the bytes so far are appended
abbrev pub invariant-loop-byte : goal.invariant-loop-byte
invariant-loop-byte l = record {
  content : l.self ≡ l.fn.self ++ encode_lower (take l.byte-index l.bytes);
  len : length l.self ≡ length l.fn.self + 2 * l.byte-index;
}

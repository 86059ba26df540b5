use Rattle.std.proofs.Common.{rules}
use Rattle.gdb_packets.proofs.Pairs.{bytes-odd, bytes-other, bytes-some, some-unwrapped}
use Rattle.gdb_packets.proofs.hex_bytes.HexBytes.read.Goals as goal
use Rattle.gdb_packets.proofs.hex_bytes.HexBytes.read.Goals.{else-digits-eq0-via-then-digits-eq0+else-are_digits, else-digits-eq0-via-else-digits-eq0}

pub invariant_of-result : goal.invariant_of-result
invariant_of-result c = bytes-some c.args.digits.now (search rules) (search rules)

pub returns-then-are_digits : goal.returns-then-are_digits
returns-then-are_digits c =
    record { bytes = some-unwrapped _ (bytes-some c.args.digits.now (search rules) (search rules)) }

pub returns-else-digits-eq0 : goal.returns-else-digits-eq0
returns-else-digits-eq0 c = record {
  bytes =
      elim c.else-digits-eq0.branch [
        | else-digits-eq0-via-then-digits-eq0+else-are_digits w ↦ bytes-other c.args.digits.now (search rules)
        | else-digits-eq0-via-else-digits-eq0 w ↦ bytes-odd c.args.digits.now (search rules)
      ];
}

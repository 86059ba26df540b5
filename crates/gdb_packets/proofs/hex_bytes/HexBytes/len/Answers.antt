use Rattle.std.proofs.Common.{◌≡◌, ◌*◌, length, arith}
use Rattle.gdb_packets.proofs.Pairs.{bytes-len}
use Rattle.gdb_packets.proofs.hex_bytes.HexBytes.len.Goals as goal

pub returns : goal.returns
returns c =
    let pairs : length c.self.inside.digits.now ≡ 2 * length c.args.self.now = rw (← c.self.view_is) (bytes-len c.self.inside.digits.now c.self.invariant) in
    record { len = omega (arith, pairs) }

use Rattle.std.proofs.Common.{◌≡◌, ◌*◌, ◌+◌, length, arith, ap, ◌∙◌, Some, is_some, get_or}
use Rattle.std.proofs.lemmas.Option.{slice_get-get_or}
use Rattle.gdb_packets.proofs.Pairs.{bytes-at, bytes-len}
use Rattle.gdb_packets.proofs.hex_bytes.HexBytes.at.Goals as goal

pub overflow_mul-place : goal.overflow_mul-place
overflow_mul-place c =
    let pairs : length c.self.inside.digits.now ≡ 2 * length c.args.self.now = rw (← c.self.view_is) (bytes-len c.self.inside.digits.now c.self.invariant) in
    omega (arith, pairs)

pub bounds-digits-place : goal.bounds-digits-place
bounds-digits-place c =
    let pairs : length c.self.inside.digits.now ≡ 2 * length c.args.self.now = rw (← c.self.view_is) (bytes-len c.self.inside.digits.now c.self.invariant) in
    omega (arith, pairs)

pub digit-requires : goal.digit-requires
digit-requires c =
    let spells = bytes-at c.self.inside.digits.now c.args.place c.self.invariant (rw c.self.view_is c.requires.place) in
    record { digit = ap is_some spells.high_is }

pub digit-requires-2 : goal.digit-requires-2
digit-requires-2 c =
    let spells = bytes-at c.self.inside.digits.now c.args.place c.self.invariant (rw c.self.view_is c.requires.place) in
    record { digit = ap is_some spells.low_is }

pub returns : goal.returns
returns c =
    let spells = bytes-at c.self.inside.digits.now c.args.place c.self.invariant (rw c.self.view_is c.requires.place) in
    let high : spells.high ≡ c.digit.result = cc (spells.high_is, c.digit.ensures.value) in
    let low : spells.low ≡ c.digit-2.result = cc (spells.low_is, c.digit-2.ensures.value) in
    let byte : get_or c.args.self.now c.args.place 0 ≡ c.digit.result * 16 + c.digit-2.result = rw (← c.self.view_is) (rw (← high, ← low) spells.byte_is) in
    record { byte = slice_get-get_or c.args.self.now c.args.place 0 c.requires.place ∙ ap Some byte }

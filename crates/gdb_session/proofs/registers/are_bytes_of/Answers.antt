use Rattle.std.proofs.Common.{◌≡◌, ◌<◌, ℕ, List, length, arith, refl, sym}
use Rattle.std.specs.Int.{to_le_bytes, w32}
use Rattle.std.proofs.lemmas.Grind.{same_number_lists}
use Rattle.std.proofs.lemmas.Slice.Eq.{bytes_eq-Decides}
use Rattle.gdb_session.proofs.registers.are_bytes_of.Goals as goal

pub returns : goal.returns
returns c =
    let wanted : List ℕ = to_le_bytes w32 c.args.value in
    let four : length wanted ≡ 4 = refl in
    let same : length c.args.bytes.now ≡ length wanted = omega (arith, four) in
    record {
      same = sym ((bytes_eq-Decides c.args.bytes.now wanted).1 (same_number_lists c.args.bytes.now wanted same (λ k below.
          let within : k < c.loop-place.place = omega (arith, below, same, four) in
          c.loop-place.invariant k within)));
    }

-- What turns a set holds.
use Rattle.std.specs.Prelude.{ℕ, ◌≡◌, ◌/◌, ◌%◌, ◌^◌, ◌==◌, Bool, slice_index}
use Rattle.std.specs.Int.{bit_at}
use Rattle.reservation_stations.specs.declared.turn_set.TurnSet.{TurnSet}
use Rattle.reservation_stations.specs.declared.turn_set.TurnBit.{TurnBit}

-- whether a turn is in a set: bit turn % 64 of word turn / 64 tells
abbrev pub holds : TurnSet → ℕ → Bool
holds set turn = bit_at (slice_index set.words (turn / 64)) (turn % 64) == 1

-- that bit of a turn, worked out
pub record IsBitOf (turn : ℕ) (at : TurnBit) : Type 0 where
  pub word : at.word ≡ turn / 64
  pub bit : at.bit ≡ 2 ^ (turn % 64)

use Rattle.std.proofs.Common.{◌≡◌, ◌∙◌, ℕ, ◌<◌, ◌-◌, ◌==◌, ◌&&◌, not, min, w64, rules, ap, arith}
use Rattle.std.specs.Int.{bit_at}
use Rattle.std.proofs.lemmas.Bool.Decides.{nat_tests}
use Rattle.std.proofs.lemmas.Nat.Bits.{bit_at_and, bit_at_not, bit_at-lt}
use Rattle.std.specs.Prelude.{bit_and}
use Rattle.reservation_stations.proofs.sets.Sets.ready_from.Goals as goal

bit_left : (a b : ℕ) → a < 2 → b < 2 → (min a (1 - b) == 1) ≡ ((a == 1) && not (b == 1))
bit_left a b a_bit b_bit = grind (arith, nat_tests)

left : (word other k : ℕ) → other < 18446744073709551616 → k < 64 → (bit_at (bit_and word (18446744073709551615 - other)) k == 1) ≡ ((bit_at word k == 1) && not (bit_at other k == 1))
left word other k fits within =
    ap (λ n. n == 1) (bit_at_and word (18446744073709551615 - other) k ∙ ap (min (bit_at word k)) (bit_at_not w64 other k fits within))
    ∙ bit_left (bit_at word k) (bit_at other k) (bit_at-lt word k) (bit_at-lt other k)

pub returns : goal.returns
returns c = record {
  word = λ k within.
      left c.word_from.result c.word_from-2.result k (search rules) within
      ∙ λ i. c.word_from.ensures.word k within i && not (c.word_from-2.ensures.word k within i);
}

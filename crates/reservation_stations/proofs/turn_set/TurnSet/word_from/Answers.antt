use Rattle.std.proofs.Common.{◌+◌, ◌-◌, ◌/◌, ◌%◌, ◌==◌, get_or, inl, inr, ap, ◌∙◌}
use Rattle.std.specs.Int.{bit_at}
use Rattle.std.proofs.lemmas.Bool.{cases_lt}
use Rattle.reservation_stations.proofs.Words.{turn_in_word, turn_in_next}
use Rattle.reservation_stations.proofs.turn_set.TurnSet.word_from.Goals as goal

pub returns : goal.returns
returns c = record {
  word = λ k few.
      let words = c.args.self.now.words in
      let turn = c.args.turn in
      elim (cases_lt (k + turn % 64) 64) [
        | inl low ↦
            ap (λ n. n == 1) (c.joined.ensures.word k low) ∙ ap (λ n. bit_at (get_or words (n / 64) 0) (k + turn % 64) == 1) c.from-place.ensures
            ∙ turn_in_word words turn k c.ranges.turn.fits low
        | inr high ↦
            ap (λ n. n == 1) (c.joined.ensures.next k few high)
            ∙ ap (λ n. bit_at (get_or words ((n / 64 + 1) % 4) 0) (k + turn % 64 - 64) == 1) c.from-place.ensures
            ∙ turn_in_next words turn k c.ranges.turn.fits few high
      ];
}

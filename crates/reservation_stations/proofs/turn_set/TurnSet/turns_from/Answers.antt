use Rattle.std.proofs.Common.{◌≡◌, ◌∙◌, ℕ, ◌+◌, ◌%◌, ◌<◌, ◌==◌, ◌||◌, ap, arith}
use Rattle.std.specs.Prelude.{nat_lt}
use Rattle.std.proofs.lemmas.Bool.Decides.{nat_tests}
use Rattle.reservation_stations.specs.Places.{place_of}
use Rattle.reservation_stations.proofs.turn_set.TurnSet.turns_from.Goals as goal

one_more : (from place turn : ℕ) → from < 256 → place < 256 → turn < 256 →
    (nat_lt (place_of from turn) place || (turn == (from + place) % 256)) ≡ nat_lt (place_of from turn) (place + 1)
one_more from place turn from_fits place_fits turn_fits = grind (arith, nat_tests)

pub loop-place-preserved : goal.loop-place-preserved
loop-place-preserved c turn within =
    let at = (c.args.from + c.loop-place.place) % 256 in
    c.insert.ensures.inserted at c.bit_of.ensures.bit turn
    ∙ ap (λ b. b || (turn == at)) (c.loop-place.invariant turn within)
    ∙ one_more c.args.from c.loop-place.place turn c.ranges.from.fits (omega arith) within

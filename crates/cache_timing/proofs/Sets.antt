-- A set after one of its ways was used for a line: the list with that line in front, and without what the way held before.
use Rattle.std.proofs.Common.{◌≡◌, ◌≢◌, ℕ, suc, ◌-◌, ◌*◌, ◌^◌, ◌<◌, ◌≤◌, List, ◌∷◌, length, arith, ap, ◌∙◌, sym, add-one}
use Rattle.std.specs.Prelude.{slice_get, Option, Some, All}
use Rattle.std.specs.List.{remove}
use Rattle.cache_timing.specs.declared.params.CacheParams.{CacheParams}
use Rattle.cache_timing.specs.declared.cache.Line.{Line}
use Rattle.cache_timing.specs.Ages.{age_after}
use Rattle.cache_timing.specs.CacheStandsFor.{IsSet, Distinct}
use Rattle.cache_timing.proofs.Order.{Place, same, nearer, farther, place_of, IsOrder-used, age_after-first, age_after-raised, age_after-kept}
use Rattle.cache_timing.proofs.Places.{slice_get-remove_below, slice_get-remove_above}

-- a way was used for a line
pub record IsUpdate (ways : ℕ) (line line' : ℕ → Option Line) (age age' : ℕ → ℕ) (used : ℕ) (put : Line) : Type 0 where
  pub here : used < ways
  pub first : line' used ≡ Some put
  pub others : (way : ℕ) → way < ways → way ≢ used → line' way ≡ line way
  pub ages : (way : ℕ) → way < ways → age' way ≡ age_after age used way

line_after : (ways : ℕ) (line line' : ℕ → Option Line) (age age' : ℕ → ℕ) (used : ℕ) (put : Line) (set : List Line) →
    IsUpdate ways line line' age age' used put → ((way : ℕ) → way < ways → line way ≡ slice_get set (age way)) →
    (way : ℕ) → way < ways → Place way used (age way) (age used) → line' way ≡ slice_get (put ∷ remove set (age used)) (age' way)
line_after ways line line' age age' used put set u old way h (same e) =
    ap line' e ∙ u.first ∙ ap (slice_get (put ∷ remove set (age used))) (sym (ap age' e ∙ u.ages used u.here ∙ age_after-first age used))
line_after ways line line' age age' used put set u old way h (nearer l) =
    let other : way ≢ used = λ e. absurd (omega (arith, ap age e)) in
    let moved : age' way ≡ suc (age way) = u.ages way h ∙ age_after-raised age used way other l ∙ add-one (age way) in
    u.others way h other ∙ old way h ∙ sym (slice_get-remove_below set (age used) (age way) l)
    ∙ ap (slice_get (put ∷ remove set (age used))) (sym moved)
line_after ways line line' age age' used put set u old way h (farther l) =
    let other : way ≢ used = λ e. absurd (omega (arith, ap age e)) in
    let above : age way ≡ suc (age way - 1) = omega arith in
    let stays : age' way ≡ suc (age way - 1) = u.ages way h ∙ age_after-kept age used way other l ∙ above in
    u.others way h other ∙ old way h ∙ ap (slice_get set) above ∙ sym (slice_get-remove_above set (age used) (age way - 1) (omega arith))
    ∙ ap (slice_get (put ∷ remove set (age used))) (sym stays)

pub IsSet-used : (p : CacheParams) (line line' : ℕ → Option Line) (age age' : ℕ → ℕ) (used : ℕ) (put : Line) (set set' : List Line) →
    IsUpdate p.ways line line' age age' used put → IsSet p line age set → set' ≡ put ∷ remove set (age used) →
    length set' ≤ p.ways → Distinct set' → All (λ l. l.number * p.line < 2 ^ 32) set' → IsSet p line' age' set'
IsSet-used p line line' age age' used put set set' u old is within distinct fit = record {
  order = IsOrder-used p.ways age age' used u.here old.order u.ages;
  within = within;
  lines = λ way h.
      line_after p.ways line line' age age' used put set u old.lines way h (place_of p.ways age old.order used way u.here h)
      ∙ ap (λ s. slice_get s (age' way)) (sym is);
  distinct = distinct;
  fit = fit;
}

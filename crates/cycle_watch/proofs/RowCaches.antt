-- Counts of caches are added one after another.
use Rattle.std.proofs.Common.{◌≡◌, ℕ, zero, suc, ◌+◌, ◌-◌, ◌^◌, ◌<◌, List, [], ◌∷◌, ◌++◌, drop, length, min, take, refl, ap, arith}
use Rattle.std.specs.Prelude.{slice_index, slice_set}
use Rattle.cycle_watch.specs.Profiled.{added, capped}

-- those before a place have risen
abbrev pub added_to : ℕ → List ℕ → List ℕ → List ℕ
added_to place counts rises = added (take place counts) (take place rises) ++ drop place counts

pub added_step : (counts rises : List ℕ) (place : ℕ) → place < length counts → place < length rises →
    slice_set (added_to place counts rises) place (min (slice_index (added_to place counts rises) place + slice_index rises place) (2 ^ 64 - 1)) ≡ added_to (suc place) counts rises
added_step [] rises place within fit = absurd (omega (arith, within))
added_step (x ∷ counts) [] place within fit = absurd (omega (arith, fit))
added_step (x ∷ counts) (r ∷ rises) zero within fit = refl
added_step (x ∷ counts) (r ∷ rises) (suc place) within fit =
    ap (λ (rest : List ℕ). capped x r ∷ rest) (added_step counts rises place (omega (arith, within)) (omega (arith, fit)))

pub added_all : (counts rises : List ℕ) (place : ℕ) → length counts ≡ place → length rises ≡ place → added_to place counts rises ≡ added counts rises
added_all [] [] zero few same = refl
added_all [] (r ∷ rises) zero few same = absurd (omega (arith, same))
added_all (x ∷ counts) rises zero few same = absurd (omega (arith, few))
added_all [] rises (suc place) few same = absurd (omega (arith, few))
added_all (x ∷ counts) [] (suc place) few same = absurd (omega (arith, same))
added_all (x ∷ counts) (r ∷ rises) (suc place) few same =
    ap (λ (rest : List ℕ). capped x r ∷ rest) (added_all counts rises place (omega (arith, few)) (omega (arith, same)))

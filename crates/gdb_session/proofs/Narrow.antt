-- Numbers that don't fit in fewer bits.
use Rattle.std.proofs.Common.{◌≡◌, ℕ, ◌<◌, ◌≤◌, None, Result, Ok, Err, arith, inl, inr}
use Rattle.std.proofs.lemmas.Bool.{cases_lt}
use Rattle.std.proofs.lemmas.Option.{none-some}
use Rattle.std.specs.Result.{OkIff, result_ok}

pub too_wide : {E : Type 0} (r : Result ℕ E) (n limit : ℕ) → OkIff r (n < limit) n → None ≡ result_ok r → limit ≤ n
too_wide (Ok x) n limit told none = absurd (none-some x none)
too_wide (Err e) n limit told none = elim (cases_lt n limit) [
  | inl below ↦ absurd (told below)
  | inr above ↦ omega (arith, above)
]

-- Places in a list from which one element is taken out, and in a list that is cut.
use Rattle.std.proofs.Common.{◌≡◌, ℕ, zero, suc, ◌<◌, ◌≤◌, List, [], ◌∷◌, ◌++◌, take, length, arith, ap, refl, ◌∙◌, sym}
use Rattle.std.specs.Prelude.{slice_get}
use Rattle.std.specs.List.{remove}
use Rattle.std.proofs.lemmas.List.{append-nil, drop_all}

pub slice_get-remove_below : {X : Type 0} (xs : List X) (i k : ℕ) → k < i → slice_get (remove xs i) k ≡ slice_get xs k
slice_get-remove_below [] zero k h = absurd (omega arith)
slice_get-remove_below [] (suc i) k h = refl
slice_get-remove_below (x ∷ xs) zero k h = absurd (omega arith)
slice_get-remove_below (x ∷ xs) (suc i) zero h = refl
slice_get-remove_below (x ∷ xs) (suc i) (suc k) h = slice_get-remove_below xs i k (omega arith)

pub slice_get-remove_above : {X : Type 0} (xs : List X) (i k : ℕ) → i ≤ k → slice_get (remove xs i) k ≡ slice_get xs (suc k)
slice_get-remove_above [] zero k h = refl
slice_get-remove_above [] (suc i) k h = refl
slice_get-remove_above (x ∷ xs) zero k h = refl
slice_get-remove_above (x ∷ xs) (suc i) zero h = absurd (omega arith)
slice_get-remove_above (x ∷ xs) (suc i) (suc k) h = slice_get-remove_above xs i k (omega arith)

-- a list cut by one, behind a new first element
pub take-front : {X : Type 0} (x : X) (xs : List X) (n : ℕ) → length xs ≤ suc n → take (suc n) (x ∷ xs) ≡ x ∷ remove xs n
take-front x xs n h = ap (λ ys. x ∷ ys) (sym (append-nil (take n xs)) ∙ ap (λ ys. take n xs ++ ys) (sym (drop_all (suc n) xs h)))

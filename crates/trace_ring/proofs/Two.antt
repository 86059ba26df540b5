-- The passes of a queue that has two: a place among them is the one or the other.
use Rattle.std.proofs.Common.{◌≡◌, ◌⊎◌, ℕ, zero, suc, List, [], ◌∷◌, ◌++◌, set, refl, sym, subst, inl, inr}
use mathlib.Core.Option.{some, some-injective, some-ne-none}
use lib.ListN.{get_elem?}

module _ {V : Type 0} where
  -- the view at a place is the first or the second, and what is written there takes its stead
  abbrev pub IsOneOf : V → V → V → List V → ℕ → Type 0
  IsOneOf a b v views port =
      ((a ≡ v) × ((w : V) → set views port w ≡ w ∷ b ∷ []))
      ⊎ ((b ≡ v) × ((w : V) → set views port w ≡ a ∷ w ∷ []))

  among : (a b v : V) (port : ℕ) → get_elem? (a ∷ b ∷ []) port ≡ some v → IsOneOf a b v (a ∷ b ∷ []) port
  among a b v zero at = inl (some-injective a v at, λ w. refl)
  among a b v (suc zero) at = inr (some-injective b v at, λ w. refl)
  among a b v (suc (suc port)) at = absurd (some-ne-none v (sym at))

  pub one_of : (a b v : V) (views : List V) (port : ℕ) → views ≡ a ∷ b ∷ [] → get_elem? views port ≡ some v → IsOneOf a b v views port
  one_of a b v views port are at =
      let here : get_elem? (a ∷ b ∷ []) port ≡ some v = subst (λ (vs : List V). get_elem? vs port ≡ some v) are at in
      subst (λ (vs : List V). IsOneOf a b v vs port) (sym are) (among a b v port here)

  only : (a v : V) (port : ℕ) → get_elem? (a ∷ []) port ≡ some v → (a ≡ v) × ((l r : V) → set (a ∷ []) port l ++ r ∷ [] ≡ l ∷ r ∷ [])
  only a v zero at = (some-injective a v at, λ l r. refl)
  only a v (suc port) at = absurd (some-ne-none v (sym at))

  -- the view of a lone pass, and what it becomes once there is another
  pub lone : (a v : V) (views : List V) (port : ℕ) → views ≡ a ∷ [] → get_elem? views port ≡ some v → (a ≡ v) × ((l r : V) → set views port l ++ r ∷ [] ≡ l ∷ r ∷ [])
  lone a v views port are at =
      subst (λ (vs : List V). (a ≡ v) × ((l r : V) → set vs port l ++ r ∷ [] ≡ l ∷ r ∷ [])) (sym are) (only a v port (subst (λ (vs : List V). get_elem? vs port ≡ some v) are at))

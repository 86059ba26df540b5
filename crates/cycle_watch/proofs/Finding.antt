-- A search along a list: none so far, and then the first, or none at all.
use Rattle.std.proofs.Common.{◌≡◌, ◌∙◌, ℕ, zero, suc, ◌+◌, ◌-◌, ◌≤◌, ◌<◌, Bool, true, false, not, cond, nat_lt, Option, Some, None, List, [], ◌∷◌, drop, length, length-drop, position, refl, sym, ap, arith}
use Rattle.std.specs.Prelude.{slice_get}
use Rattle.std.specs.List.{position_or_len}
use Rattle.std.proofs.lemmas.Bool.{le-ltb, lt-ltb}
use Rattle.std.proofs.lemmas.List.{drop_all}
use Rattle.std.proofs.lemmas.Option.{slice_get_within}

-- the rest of a list begins with what stands there
pub drop_get : {A : Type 0} (xs : List A) (i : ℕ) (x : A) → slice_get xs i ≡ Some x → drop i xs ≡ x ∷ drop (suc i) xs
drop_get [] i x is = cc
drop_get {A = A} (a ∷ xs) zero x is = let e : a ≡ x = cc in ap (λ (b : A). b ∷ xs) e
drop_get (a ∷ xs) (suc i) x is = drop_get xs i x is

module _ {A : Type 0} (t : A → Bool) (xs : List A) where
  -- none passes from the one place up to the other
  abbrev pub NoneTo : ℕ → ℕ → Type 0
  NoneTo from place = position_or_len t (drop from xs) ≡ (place - from) + position_or_len t (drop place xs)

  at_first : (x : A) (rest : List A) (b : Bool) → t x ≡ b → position_or_len t (x ∷ rest) ≡ cond (not b) (1 + position_or_len t rest) 0
  at_first x rest b is = ap (λ (c : Bool). cond (not c) (1 + position_or_len t rest) 0) is

  pub none_next : (from place : ℕ) (x : A) → from ≤ place → slice_get xs place ≡ Some x → t x ≡ false → NoneTo from place → NoneTo from (place + 1)
  none_next from place x order here fails none =
      let next : place + 1 ≡ suc place = omega arith in
      let first = ap (position_or_len t) (drop_get xs place x here) ∙ at_first x (drop (suc place) xs) false fails in
      let rest = ap (λ (n : ℕ). position_or_len t (drop n xs)) next in
      omega (arith, none, first, rest, order)

  pub found_at : (from place : ℕ) (x : A) → from ≤ place → slice_get xs place ≡ Some x → t x ≡ true → NoneTo from place → position t (drop from xs) ≡ Some (place - from)
  found_at from place x order here passes none =
      let first = ap (position_or_len t) (drop_get xs place x here) ∙ at_first x (drop (suc place) xs) true passes in
      let at : position_or_len t (drop from xs) ≡ place - from = omega (arith, none, first) in
      let within = slice_get_within xs place x here in
      let below : nat_lt (position_or_len t (drop from xs)) (length (drop from xs)) ≡ true =
      lt-ltb (position_or_len t (drop from xs)) (length (drop from xs)) (omega (arith, at, within, order, length-drop from xs)) in
      ap (λ (b : Bool). cond b (Some (position_or_len t (drop from xs))) None) below ∙ ap (λ (n : ℕ). Some n) at

  pub found_none : (from place : ℕ) → from ≤ place → length xs ≤ place → NoneTo from place → position t (drop from xs) ≡ None
  found_none from place order over none =
      let last = ap (position_or_len t) (drop_all place xs over) in
      let above : nat_lt (position_or_len t (drop from xs)) (length (drop from xs)) ≡ false =
      le-ltb (position_or_len t (drop from xs)) (length (drop from xs)) (omega (arith, none, last, over, order, length-drop from xs)) in
      ap (λ (b : Bool). cond b (Some (position_or_len t (drop from xs))) None) above

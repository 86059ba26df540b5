-- The words of text from one address up to another, in rising order.
use Rattle.std.proofs.Common.{◌≡◌, ℕ, zero, suc, ◌+◌, ◌*◌, ◌%◌, ◌==◌, ◌≤◌, ◌<◌, nat_le, nat_lt, Bool, true, false, List, [], ◌∷◌, ◌++◌, length, get_or, inl, inr, refl, sym, ap, ◌∙◌, subst, arith, length-append}
use Rattle.std.specs.Prelude.{◌&&◌, ◌⊎◌}
use Rattle.std.specs.List.{Contains}
use Rattle.std.specs.List.Sorted.{IsStrictlyIncreasing}
use Rattle.std.proofs.Math.ListN.{get_or-append}
use Rattle.std.proofs.Math.Seq.{get_or-append_seam}
use Rattle.std.proofs.lemmas.Bool.{eq-eqb, eqb-true, leb-false, leb-true, ltb-false, ltb-true}
use Rattle.std.proofs.lemmas.Grind.{common_steps, get_or_default_zero}
use Rattle.std.proofs.lemmas.List.Elements.{Contains-push, Contains-push_cases}
use Rattle.elf_image.specs.declared.image.Image.{Image}
use Rattle.mono_model.specs.Found.{has_text}
use Rattle.text_rows.specs.Rows.{AreRowsWithin, is_word_of_text}

contains_at : (xs : List ℕ) (k : ℕ) → k < length xs → Contains xs (get_or xs k 0)
contains_at xs k below = (k, below, get_or_default_zero xs k (get_or xs k 0) below)

contains_more : (xs : List ℕ) (y x : ℕ) → Contains xs x → Contains (xs ++ y ∷ []) x
contains_more xs y x there =
    (there.0, omega (arith, length-append xs (y ∷ []), there.1), get_or-append xs (y ∷ []) x there.0 there.1 ∙ there.2)

-- one more, above all others
rising_push : (xs : List ℕ) (y : ℕ) → IsStrictlyIncreasing xs → ((x : ℕ) → Contains xs x → x < y) → IsStrictlyIncreasing (xs ++ y ∷ [])
rising_push xs y rising below k in_range =
    let count : length (xs ++ y ∷ []) ≡ length xs + 1 = length-append xs (y ∷ []) in
    let here : k < length xs = omega (arith, count, in_range) in
    let old : get_or (xs ++ y ∷ []) k 0 ≡ get_or xs k 0 = get_or-append xs (y ∷ []) 0 k here in
    go (nat_lt (k + 1) (length xs)) refl here old
  where
    go : (b : Bool) → nat_lt (k + 1) (length xs) ≡ b → k < length xs → get_or (xs ++ y ∷ []) k 0 ≡ get_or xs k 0 → get_or (xs ++ y ∷ []) k 0 < get_or (xs ++ y ∷ []) (k + 1) 0
    go true is here old =
        let within : k + 1 < length xs = grind (arith, common_steps, is) in
        let next : get_or (xs ++ y ∷ []) (k + 1) 0 ≡ get_or xs (k + 1) 0 = get_or-append xs (y ∷ []) 0 (k + 1) within in
        omega (arith, old, next, rising k within)
    go false is here old =
        let beyond : length xs ≤ k + 1 = grind (arith, common_steps, is) in
        let last : k + 1 ≡ length xs = omega arith in
        let seam : get_or (xs ++ y ∷ []) (k + 1) 0 ≡ y = ap (λ (n : ℕ). get_or (xs ++ y ∷ []) n 0) last ∙ get_or-append_seam xs y [] 0 in
        omega (arith, old, seam, below (get_or xs k 0) (contains_at xs k here))

-- between two multiples of 4 no address is a word
no_multiple : (n addr : ℕ) → n % 4 ≡ 0 → n < addr → addr < n + 4 → (addr % 4 == 0) ≡ false
no_multiple n addr aligned above below = grind (arith, common_steps)

above_by : (n addr : ℕ) → nat_lt addr n ≡ false → (n == addr) ≡ false → n < addr
above_by n addr low apart = grind (arith, common_steps)

and_left : (a b : Bool) → (a && b) ≡ true → a ≡ true
and_left true b is = refl
and_left false b is = is

not_between : (image : Image) (n addr : ℕ) → n % 4 ≡ 0 → n < addr → addr < n + 4 → is_word_of_text image addr ≡ true → ⊥
not_between image n addr aligned above below is =
    let no : true ≡ false = sym (and_left (addr % 4 == 0) (has_text image addr) is) ∙ no_multiple n addr aligned above below in cc

-- whether a multiple of 4 is a word of text
pub aligned_on : (page word : ℕ) → page % 4 ≡ 0 → (page + 4 * word) % 4 ≡ 0
aligned_on page word aligned = grind (arith, common_steps)

pub word_by : (image : Image) (n : ℕ) (b : Bool) → n % 4 ≡ 0 → has_text image n ≡ b → is_word_of_text image n ≡ b
word_by image n b aligned is =
    let even : (n % 4 == 0) ≡ true = eq-eqb (n % 4) 0 aligned in
    ap (λ (x : Bool). x && has_text image n) even ∙ is

and_right : (a b : Bool) → b ≡ false → (a && b) ≡ false
and_right true b is = is
and_right false b is = refl

pub no_word : (image : Image) (addr : ℕ) → has_text image addr ≡ false → is_word_of_text image addr ≡ false
no_word image addr none = and_right (addr % 4 == 0) (has_text image addr) none

module _ (image : Image) (first n : ℕ) (rows : List ℕ) where
  -- the next word isn't one of text
  pub with_none : n % 4 ≡ 0 → is_word_of_text image n ≡ false → AreRowsWithin image first n rows → AreRowsWithin image first (n + 4) rows
  with_none aligned none old = record {
    rising = old.rising;
    words = old.words;
    below = λ addr in_rows. omega (arith, old.below addr in_rows);
    all = λ addr from to is. all addr from to is (nat_lt addr n) refl (n == addr) refl;
  }
    where
      all : (addr : ℕ) → first ≤ addr → addr < n + 4 → is_word_of_text image addr ≡ true → (b : Bool) → nat_lt addr n ≡ b → (c : Bool) → (n == addr) ≡ c → Contains rows addr
      all addr from to is true low c eq = old.all addr from (ltb-true addr n low) is
      all addr from to is false low true eq =
          let same : n ≡ addr = eqb-true n addr eq in
          let no : true ≡ false = sym is ∙ ap (is_word_of_text image) (sym same) ∙ none in cc
      all addr from to is false low false eq = absurd (not_between image n addr aligned (above_by n addr low eq) to is)

  -- it is one
  pub with_word : n % 4 ≡ 0 → is_word_of_text image n ≡ true → AreRowsWithin image first n rows → AreRowsWithin image first (n + 4) (rows ++ n ∷ [])
  with_word aligned one old = record {
    rising = rising_push rows n old.rising old.below;
    words = λ addr in_rows. words addr (Contains-push_cases rows n addr in_rows);
    below = λ addr in_rows. below addr (Contains-push_cases rows n addr in_rows);
    all = λ addr from to is. all addr from to is (nat_lt addr n) refl (n == addr) refl;
  }
    where
      words : (addr : ℕ) → Contains rows addr ⊎ (n ≡ addr) → is_word_of_text image addr ≡ true
      words addr (inl there) = old.words addr there
      words addr (inr same) = ap (is_word_of_text image) (sym same) ∙ one

      below : (addr : ℕ) → Contains rows addr ⊎ (n ≡ addr) → addr < n + 4
      below addr (inl there) = omega (arith, old.below addr there)
      below addr (inr same) = omega (arith, same)

      all : (addr : ℕ) → first ≤ addr → addr < n + 4 → is_word_of_text image addr ≡ true → (b : Bool) → nat_lt addr n ≡ b → (c : Bool) → (n == addr) ≡ c → Contains (rows ++ n ∷ []) addr
      all addr from to is true low c eq = contains_more rows n addr (old.all addr from (ltb-true addr n low) is)
      all addr from to is false low true eq =
          let same : n ≡ addr = eqb-true n addr eq in
          let P : ℕ → Type 0 = λ a. Contains (rows ++ n ∷ []) a in subst P same (Contains-push rows n)
      all addr from to is false low false eq = absurd (not_between image n addr aligned (above_by n addr low eq) to is)

  -- a page without text
  pub with_no_page : (end : ℕ) → n ≤ end → ((addr : ℕ) → n ≤ addr → addr < end → is_word_of_text image addr ≡ false) → AreRowsWithin image first n rows → AreRowsWithin image first end rows
  with_no_page end later none old = record {
    rising = old.rising;
    words = old.words;
    below = λ addr in_rows. omega (arith, old.below addr in_rows);
    all = λ addr from to is. all addr from to is (nat_lt addr n) refl;
  }
    where
      all : (addr : ℕ) → first ≤ addr → addr < end → is_word_of_text image addr ≡ true → (b : Bool) → nat_lt addr n ≡ b → Contains rows addr
      all addr from to is true low = old.all addr from (ltb-true addr n low) is
      all addr from to is false low =
          let no : true ≡ false = sym is ∙ none addr (ltb-false addr n low) to in cc

-- nothing yet
pub nothing_yet : (image : Image) (first : ℕ) → AreRowsWithin image first first []
nothing_yet image first = record {
  rising = λ k below. absurd (omega arith);
  words = λ addr there. absurd (omega (arith, there.1));
  below = λ addr there. absurd (omega (arith, there.1));
  all = λ addr from to is. absurd (omega arith);
}

-- an address that stands between two of them, or after all, isn't there
pub absent : (rows : List ℕ) (addr i : ℕ) → ((k : ℕ) → k < i → get_or rows k 0 < addr) → ((k : ℕ) → i ≤ k → k < length rows → addr < get_or rows k 0) → Contains rows addr → ⊥
absent rows addr i below above there = by (nat_lt there.0 i) refl
  where
    at : get_or rows there.0 0 ≡ addr
    at = sym (get_or_default_zero rows there.0 addr there.1) ∙ there.2

    by : (b : Bool) → nat_lt there.0 i ≡ b → ⊥
    by true is = let less : there.0 < i = ltb-true there.0 i is in absurd (omega (arith, below there.0 less, at))
    by false is = let least : i ≤ there.0 = ltb-false there.0 i is in absurd (omega (arith, above there.0 least there.1, at))

-- numbers that rise
rises_by : (xs : List ℕ) → IsStrictlyIncreasing xs → (i j : ℕ) → i ≤ suc j → suc j < length xs → (i ≤ j → get_or xs i 0 ≤ get_or xs j 0) → (b : Bool) → nat_le i j ≡ b → get_or xs i 0 ≤ get_or xs (suc j) 0
rises_by xs rising i j most below before true is =
    let place : j + 1 ≡ suc j = omega arith in
    let next : get_or xs j 0 < get_or xs (j + 1) 0 = rising j (omega arith) in
    omega (arith, before (leb-true i j is), next, ap (λ (k : ℕ). get_or xs k 0) place)
rises_by xs rising i j most below before false is =
    let above : j < i = leb-false i j is in
    let e : i ≡ suc j = omega arith in
    omega (arith, ap (λ (k : ℕ). get_or xs k 0) e)

pub rises : (xs : List ℕ) → IsStrictlyIncreasing xs → (i j : ℕ) → i ≤ j → j < length xs → get_or xs i 0 ≤ get_or xs j 0
rises xs rising i zero most below = let e : i ≡ 0 = omega arith in omega (arith, ap (λ (k : ℕ). get_or xs k 0) e)
rises xs rising i (suc j) most below = rises_by xs rising i j most below (λ less. rises xs rising i j less (omega arith)) (nat_le i j) refl

-- no more of them than numbers below their end
at_least : (xs : List ℕ) → IsStrictlyIncreasing xs → (k : ℕ) → k < length xs → k ≤ get_or xs k 0
at_least xs rising zero below = omega arith
at_least xs rising (suc k) below =
    let place : k + 1 ≡ suc k = omega arith in
    let next : get_or xs k 0 < get_or xs (k + 1) 0 = rising k (omega arith) in
    omega (arith, at_least xs rising k (omega arith), next, ap (λ (j : ℕ). get_or xs j 0) place)

pub few_rows : (xs : List ℕ) (end : ℕ) → IsStrictlyIncreasing xs → ((x : ℕ) → Contains xs x → x < end) → length xs ≤ end
few_rows [] end rising below = omega arith
few_rows (x ∷ xs) end rising below =
    let last : length xs < length (x ∷ xs) = omega arith in
    omega (arith, at_least (x ∷ xs) rising (length xs) last, below (get_or (x ∷ xs) (length xs) 0) (contains_at (x ∷ xs) (length xs) last))

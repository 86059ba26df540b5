-- All addresses of rows: those of the words of text, and the one that all others share.
use Rattle.std.proofs.Common.{◌≡◌, ◌∙◌, ℕ, zero, suc, ◌+◌, ◌==◌, ◌%◌, ◌<◌, Bool, true, false, List, [], ◌∷◌, ◌++◌, length, set, get_or, Some, refl, sym, ap, subst, arith, length-set}
use Rattle.std.specs.Prelude.{◌&&◌, if◌then◌else◌, replicate, slice_get, slice_index_or}
use Rattle.std.specs.List.{Contains}
use Rattle.std.specs.List.Sorted.{IsStrictlyIncreasing}
use Rattle.std.proofs.lemmas.List.{get_or-replicate, get_or-set_other, get_or-set_same, length-replicate}
use Rattle.std.proofs.lemmas.Option.{get_or_from_slice_get, slice_get-get_or, slice_get_within}
use Rattle.elf_image.specs.declared.image.Image.{Image}
use Rattle.mono_model.specs.Found.{has_text}
use Rattle.text_rows.specs.Rows.{AreRowsOf, IsRowOf, OfText, Other, is_word_of_text}
use Rattle.insight_model.specs.Profile.{other_row, row_of}
use Rattle.insight_laws.proofs.Listed.{After, IsAbove, IsOrdered, Now, StandsIn}

abbrev pub addresses : List ℕ → List ℕ
addresses rows = rows ++ other_row ∷ []

-- the address that a row has in the definition
abbrev pub row_address : List ℕ → ℕ → ℕ
row_address rows place = slice_index_or rows place other_row

-- they rise
tail_rising : (row : ℕ) (rows : List ℕ) → IsStrictlyIncreasing (row ∷ rows) → IsStrictlyIncreasing rows
tail_rising row rows rising k below =
    let place : suc k + 1 ≡ suc (k + 1) = omega arith in
    subst (λ (j : ℕ). get_or rows k 0 < get_or (row ∷ rows) j 0) place (rising (suc k) (omega arith))

above_from : (row : ℕ) (rows : List ℕ) → IsStrictlyIncreasing (row ∷ rows) → ((x : ℕ) → Contains rows x → x < other_row) → row < other_row → IsAbove row (rows ++ other_row ∷ [])
above_from row [] rising fit small = (small, tt)
above_from row (next ∷ rows) rising fit small =
    (rising 0 (omega arith), above_from next rows (tail_rising row (next ∷ rows) rising) (λ x there. fit x (suc there.0, omega (arith, there.1), there.2)) (fit next (0, omega arith, refl)))

pub addresses_rise : (rows : List ℕ) → IsStrictlyIncreasing rows → ((x : ℕ) → Contains rows x → x < other_row) → IsOrdered (addresses rows)
addresses_rise [] rising fit = tt
addresses_rise (row ∷ rows) rising fit =
    above_from row rows rising (λ x there. fit x (suc there.0, omega (arith, there.1), there.2)) (fit row (0, omega arith, refl))

-- the row of each address is among them
stands_at : (x : ℕ) (rows : List ℕ) (k : ℕ) → k < length rows → get_or rows k x ≡ x → StandsIn x (addresses rows)
stands_at x [] k below is = absurd (omega arith)
stands_at x (row ∷ rows) zero below is = Now (sym is)
stands_at x (row ∷ rows) (suc k) below is = After (stands_at x rows k (omega arith) is)

other_stands : (rows : List ℕ) → StandsIn other_row (addresses rows)
other_stands [] = Now refl
other_stands (row ∷ rows) = After (other_stands rows)

pub row_stands : (image : Image) (rows : List ℕ) → AreRowsOf image rows → (addr : ℕ) → StandsIn (row_of image addr) (addresses rows)
row_stands image rows are addr = go (addr % 4 == 0 && has_text image addr) refl
  where
    go : (b : Bool) → (addr % 4 == 0 && has_text image addr) ≡ b → StandsIn (if b then addr else other_row) (addresses rows)
    go true is = let there = are.all addr is in stands_at addr rows there.0 there.1 there.2
    go false is = other_stands rows

-- the row that is found for an address is its own
pub found_row : (image : Image) (rows : List ℕ) (addr place : ℕ) → AreRowsOf image rows → IsRowOf rows addr place → row_address rows place ≡ row_of image addr
found_row image rows addr place are (OfText is) =
    let at : get_or rows place other_row ≡ addr = get_or_from_slice_get rows place addr other_row is in
    let within : place < length rows = slice_get_within rows place addr is in
    let word : is_word_of_text image addr ≡ true = are.words addr (place, within, get_or_from_slice_get rows place addr addr is) in
    at ∙ sym (ap (λ (b : Bool). if b then addr else other_row) word)
found_row image rows addr place are (Other end absent) =
    let past : get_or rows place other_row ≡ other_row = ap (λ (k : ℕ). get_or rows k other_row) end ∙ get_past rows in
    past ∙ none (is_word_of_text image addr) refl
  where
    get_past : (xs : List ℕ) → get_or xs (length xs) other_row ≡ other_row
    get_past [] = refl
    get_past (x ∷ xs) = get_past xs

    none : (b : Bool) → is_word_of_text image addr ≡ b → other_row ≡ (if b then addr else other_row)
    none true is = absurd (absent (are.all addr is))
    none false is = refl

-- the addresses of two rows differ
above_at : (low : ℕ) (rows : List ℕ) → IsAbove low rows → (k : ℕ) → k < length rows → low < get_or rows k other_row
above_at low [] above k below = absurd (omega arith)
above_at low (row ∷ rows) above zero below = above.0
above_at low (row ∷ rows) above (suc k) below = omega (arith, above.0, above_at row rows above.1 k (omega arith))

ordered_rest : (low : ℕ) (rows : List ℕ) → IsAbove low rows → IsOrdered rows
ordered_rest low [] above = tt
ordered_rest low (row ∷ rows) above = above.1

same_in : (rows : List ℕ) → IsOrdered rows → (i j : ℕ) → i < length rows → j < length rows → get_or rows i other_row ≡ get_or rows j other_row → i ≡ j
same_in [] ordered i j first second is = absurd (omega arith)
same_in (row ∷ rows) ordered zero zero first second is = refl
same_in (row ∷ rows) ordered zero (suc j) first second is = absurd (omega (arith, is, above_at row rows ordered j (omega arith)))
same_in (row ∷ rows) ordered (suc i) zero first second is = absurd (omega (arith, is, above_at row rows ordered i (omega arith)))
same_in (row ∷ rows) ordered (suc i) (suc j) first second is = ap suc (same_in rows (ordered_rest row rows ordered) i j (omega arith) (omega arith) is)

pub address_at : (rows : List ℕ) (k : ℕ) → get_or (addresses rows) k other_row ≡ row_address rows k
address_at [] zero = refl
address_at [] (suc k) = refl
address_at (row ∷ rows) zero = refl
address_at (row ∷ rows) (suc k) = address_at rows k

pub addresses_length : (rows : List ℕ) → length (addresses rows) ≡ length rows + 1
addresses_length [] = refl
addresses_length (row ∷ rows) = let rest : length (addresses rows) ≡ length rows + 1 = addresses_length rows in omega (arith, rest)

same_place : (image : Image) (rows : List ℕ) → AreRowsOf image rows → (i j : ℕ) → i < length rows + 1 → j < length rows + 1 → row_address rows i ≡ row_address rows j → i ≡ j
same_place image rows are i j first second is =
    let all : length (addresses rows) ≡ length rows + 1 = addresses_length rows in
    same_in (addresses rows) (addresses_rise rows are.rising are.fit) i j (omega (arith, all)) (omega (arith, all)) (address_at rows i ∙ is ∙ sym (address_at rows j))

-- the place of a row is among those of the counts
pub row_within : (rows : List ℕ) (addr place : ℕ) → IsRowOf rows addr place → place < length rows + 1
row_within rows addr place (OfText is) = omega (arith, slice_get_within rows place addr is)
row_within rows addr place (Other end absent) = omega (arith, end)

-- one row changes
set_same : {A : Type 0} (xs : List A) (at : ℕ) (x y : A) → at < length xs → slice_get (set xs at x) at ≡ Some y → x ≡ y
set_same xs at x y below is = sym (get_or-set_same xs at x y below) ∙ get_or_from_slice_get (set xs at x) at y y is

set_other : {A : Type 0} (xs : List A) (at k : ℕ) (x y : A) → (k ≡ at → ⊥) → slice_get (set xs at x) k ≡ Some y → slice_get xs k ≡ Some y
set_other xs at k x y apart is =
    let same : length (set xs at x) ≡ length xs = length-set xs at x in
    let below : k < length xs = omega (arith, same, slice_get_within (set xs at x) k y is) in
    let there : get_or xs k y ≡ y = sym (get_or-set_other xs at k x y apart) ∙ get_or_from_slice_get (set xs at x) k y y is in
    slice_get-get_or xs k y below ∙ ap Some there

data Same (a b : ℕ) : Type 0 where
  Is : a ≡ b → Same a b
  IsNot : (a ≡ b → ⊥) → Same a b

same_next : (a b : ℕ) → Same a b → Same (suc a) (suc b)
same_next a b (Is is) = Is (ap suc is)
same_next a b (IsNot apart) = IsNot (λ is. apart (omega (arith, is)))

eq_or_not : (a b : ℕ) → Same a b
eq_or_not zero zero = Is refl
eq_or_not zero (suc b) = IsNot (λ is. omega (arith, is))
eq_or_not (suc a) zero = IsNot (λ is. omega (arith, is))
eq_or_not (suc a) (suc b) = same_next a b (eq_or_not a b)

-- What holds of each row as it was holds of each as it is, if it does of the one that changed.
module _ {A : Type 0} (image : Image) (rows : List ℕ) (items : List A) (addr place : ℕ) (before after : A) (P Q : ℕ → A → Type 0) (are : AreRowsOf image rows)
    (each : length items ≡ length rows + 1) (found : IsRowOf rows addr place) (there : slice_get items place ≡ Some before)
    (held : (k : ℕ) (row : A) → slice_get items k ≡ Some row → P (row_address rows k) row) (own : P (row_of image addr) before → Q (row_of image addr) after)
    (others : (row : ℕ) (x : A) → (row_of image addr ≡ row → ⊥) → P row x → Q row x) where
  named : row_address rows place ≡ row_of image addr
  named = found_row image rows addr place are found

  within : place < length items
  within = slice_get_within items place before there

  here : Q (row_of image addr) after
  here = own (subst (λ (row : ℕ). P row before) named (held place before there))

  one_by : (k : ℕ) (row : A) → slice_get (set items place after) k ≡ Some row → Same k place → Q (row_address rows k) row
  one_by k row at (Is is) =
      let spot : slice_get (set items place after) place ≡ Some row = ap (slice_get (set items place after)) (sym is) ∙ at in
      subst (λ (a : ℕ). Q a row) (sym (ap (row_address rows) is ∙ named)) (subst (λ (x : A). Q (row_of image addr) x) (set_same items place after row within spot) here)
  one_by k row at (IsNot apart) =
      let was : slice_get items k ≡ Some row = set_other items place k after row apart at in
      let below : k < length items = slice_get_within items k row was in
      others (row_address rows k) row (λ is. apart (same_place image rows are k place (omega (arith, below, each)) (omega (arith, within, each)) (sym is ∙ sym named))) (held k row was)

  pub one_changes : (k : ℕ) (row : A) → slice_get (set items place after) k ≡ Some row → Q (row_address rows k) row
  one_changes k row at = one_by k row at (eq_or_not k place)

-- all rows are alike
pub all_alike : {A : Type 0} (rows : List ℕ) (items : List A) (none : A) (P : ℕ → A → Type 0) → items ≡ replicate (length rows + 1) none → ((row : ℕ) → P row none) →
    (place : ℕ) (row : A) → slice_get items place ≡ Some row → P (row_address rows place) row
all_alike {A = A} rows items none P are nothing place row is =
    let at : slice_get (replicate (length rows + 1) none) place ≡ Some row = ap (λ (xs : List A). slice_get xs place) (sym are) ∙ is in
    let below : place < length rows + 1 = omega (arith, slice_get_within (replicate (length rows + 1) none) place row at, length-replicate (length rows + 1) none) in
    let same : none ≡ row = sym (get_or-replicate (length rows + 1) place none row below) ∙ get_or_from_slice_get (replicate (length rows + 1) none) place row row at in
    subst (λ (x : A). P (row_address rows place) x) same (nothing (row_address rows place))

-- Pages by their places among those that were made.
use Rattle.std.proofs.Common.{◌≡◌, ◌≢◌, ℕ, zero, suc, ◌<◌, ◌≤◌, ◌^◌, List, [], ◌∷◌, ◌++◌, length, set, replicate, slice_index, slice_index_or, refl, ap, sym, ◌∙◌, arith, ⊎_elim, subst, length-set, length-append}
use Rattle.std.proofs.lemmas.Bool.{cases_eq}
use Rattle.std.proofs.lemmas.List.{length-map, get_or-map, get_or-set_same, get_or-set_other, get_or_append_left, get_or_at, get_or_read, length-replicate, set-get_or, ext_get_or}
use Rattle.phys_mem.specs.Places.{pages_at, count_made, ArePlaces, made_for, place_for}
use Rattle.phys_mem.proofs.Marks.{zeros}

-- as many pages as places
pub pages_at-length : (made : List (List ℕ)) (places : List ℕ) → length (pages_at made places) ≡ length places
pages_at-length made places = length-map places (λ place. slice_index_or made place [])

-- a page is that at its place
pub pages_at-item : (made : List (List ℕ)) (places : List ℕ) (i : ℕ) → i < length places → slice_index_or (pages_at made places) i [] ≡ slice_index_or made (slice_index places i) []
pages_at-item made places i within = get_or-map (λ place. slice_index_or made place []) places i 0 [] within

-- the pages are those of other places if each is
pages_at-same : (made : List (List ℕ)) (places : List ℕ) (pages : List (List ℕ)) → length places ≡ length pages
    → ((i : ℕ) → i < length places → slice_index_or made (slice_index places i) [] ≡ slice_index_or pages i []) → pages_at made places ≡ pages
pages_at-same made places pages long same =
    let count = pages_at-length made places in
    ext_get_or [] (pages_at made places) pages (count ∙ long)
    (λ i within. let inside : i < length places = omega (arith, within, count) in pages_at-item made places i inside ∙ same i inside)

-- one that wasn't made yet has room
count_made-most : (places : List ℕ) → count_made places ≤ length places
count_made-most [] = omega arith
count_made-most (zero ∷ places) = omega (arith, count_made-most places)
count_made-most (suc place ∷ places) = omega (arith, count_made-most places)

pub count_made-room : (places : List ℕ) (i : ℕ) → i < length places → slice_index places i ≡ 0 → count_made places < length places
count_made-room [] i within none = absurd (omega arith)
count_made-room (zero ∷ places) zero within none = omega (arith, count_made-most places)
count_made-room (suc place ∷ places) zero within none = absurd (omega arith)
count_made-room (zero ∷ places) (suc i) within none = omega (arith, count_made-room places i (omega arith) none)
count_made-room (suc place ∷ places) (suc i) within none = omega (arith, count_made-room places i (omega arith) none)

-- and once it has a place, one more is made
count_made-set : (places : List ℕ) (i place : ℕ) → i < length places → slice_index places i ≡ 0 → count_made (set places i (suc place)) ≡ suc (count_made places)
count_made-set [] i place within none = absurd (omega arith)
count_made-set (zero ∷ places) zero place within none = refl
count_made-set (suc other ∷ places) zero place within none = absurd (omega arith)
count_made-set (zero ∷ places) (suc i) place within none = count_made-set places i place (omega arith) none
count_made-set (suc other ∷ places) (suc i) place within none = ap suc (count_made-set places i place (omega arith) none)

-- a page has a place of its own, and all pages have the bytes that they had
pub record IsMade (made : List (List ℕ)) (places : List ℕ) (room : ℕ) (pages : List (List ℕ)) (index : ℕ) : Type 0 where
  pub are : ArePlaces made places room
  pub own : slice_index places index ≢ 0
  pub same : pages_at made places ≡ pages

-- what is written to it changes it alone
pub written : (made : List (List ℕ)) (places : List ℕ) (room index : ℕ) (w : List ℕ) → ArePlaces made places room → index < length places → slice_index places index ≢ 0
    → ArePlaces (set made (slice_index places index) w) places room × (pages_at (set made (slice_index places index) w) places ≡ set (pages_at made places) index w)
written made places room index w h inside own = (
  record {
    blank = get_or-set_other made place 0 w [] (λ e. own (sym e)) ∙ h.blank;
    within = λ i. subst (λ (n : ℕ). slice_index places i < n) (sym long) (h.within i);
    apart = h.apart;
    count = long ∙ h.count;
    enough = h.enough;
    few = h.few;
  },
  pages_at-same (set made place w) places (set old index w) (sym (length-set old index w ∙ pages_at-length made places))
      (λ i within. ⊎_elim (here i) (other i within) (cases_eq i index)),
)
  where
    place : ℕ
    place = slice_index places index

    old : List (List ℕ)
    old = pages_at made places

    long : length (set made place w) ≡ length made
    long = length-set made place w

    here : (i : ℕ) → i ≡ index → slice_index_or (set made place w) (slice_index places i) [] ≡ slice_index_or (set old index w) i []
    here i e =
        ap (λ k. slice_index_or (set made place w) (slice_index places k) []) e ∙ get_or-set_same made place w [] (h.within index)
        ∙ sym (get_or-set_same old index w [] (subst (λ (n : ℕ). index < n) (sym (pages_at-length made places)) inside))
        ∙ ap (λ k. slice_index_or (set old index w) k []) (sym e)

    other : (i : ℕ) → i < length places → (i ≢ index) → slice_index_or (set made place w) (slice_index places i) [] ≡ slice_index_or (set old index w) i []
    other i within ne =
        get_or-set_other made place (slice_index places i) w [] (λ e. ne (sym (h.apart index i (sym e) own)))
        ∙ sym (pages_at-item made places i within) ∙ sym (get_or-set_other old index i w [] ne)

-- a page that is made changes no byte
made_new : (made : List (List ℕ)) (places : List ℕ) (room index : ℕ) → ArePlaces made places room → index < length places → slice_index places index ≡ 0
    → IsMade (made ++ replicate 4096 0 ∷ []) (set places index (length made)) room (pages_at made places) index
made_new made places room index h inside none = record {
  are = record {
    blank = get_or_append_left made (blank ∷ []) [] 0 (omega (arith, h.count)) ∙ h.blank;
    within = λ i. ⊎_elim (λ e. subst (λ (n : ℕ). n < length more) (sym (new_at i e)) (omega (arith, long))) (λ ne. subst (λ (n : ℕ). n < length more) (sym (old_at i ne)) (omega (arith, long, h.within i))) (cases_eq i index);
    apart = λ i j e some. ⊎_elim
        (λ ei. ⊎_elim (λ ej. ei ∙ sym ej) (λ nj. absurd (fresh j (sym (old_at j nj) ∙ sym e ∙ new_at i ei))) (cases_eq j index))
        (λ ni. ⊎_elim (λ ej. absurd (fresh i (sym (old_at i ni) ∙ e ∙ new_at j ej))) (λ nj. h.apart i j (sym (old_at i ni) ∙ e ∙ old_at j nj) (λ z. some (old_at i ni ∙ z))) (cases_eq j index))
        (cases_eq i index);
    count = long ∙ ap suc h.count ∙ ap suc (sym (ap (λ n. count_made (set places index n)) h.count ∙ count_made-set places index (count_made places) inside none));
    enough = subst (λ (n : ℕ). n < room) (sym (length-set places index (length made))) h.enough;
    few = subst (λ (n : ℕ). n < 2 ^ 32) (sym (length-set places index (length made))) h.few;
  };
  own = λ z. let at : length made ≡ 0 = sym (new_at index refl) ∙ z in omega (arith, at, h.count);
  same = pages_at-same more after (pages_at made places) (length-set places index (length made) ∙ sym (pages_at-length made places))
      (λ i within. let old : i < length places = subst (λ (n : ℕ). i < n) (length-set places index (length made)) within in
      ⊎_elim (here i old) (other i old) (cases_eq i index));
}
  where
    blank : List ℕ
    blank = replicate 4096 0

    more : List (List ℕ)
    more = made ++ blank ∷ []

    after : List ℕ
    after = set places index (length made)

    long : length more ≡ suc (length made)
    long = omega (arith, length-append made (blank ∷ []))

    new_at : (i : ℕ) → i ≡ index → slice_index after i ≡ length made
    new_at i e = ap (λ k. slice_index after k) e ∙ get_or-set_same places index (length made) 0 inside

    old_at : (i : ℕ) → (i ≢ index) → slice_index after i ≡ slice_index places i
    old_at i ne = get_or-set_other places index i (length made) 0 ne

    -- no page had the new place
    fresh : (i : ℕ) → slice_index places i ≢ length made
    fresh i e = omega (arith, e, h.within i)

    here : (i : ℕ) → i < length places → i ≡ index → slice_index_or more (slice_index after i) [] ≡ slice_index_or (pages_at made places) i []
    here i old e =
        ap (λ k. slice_index_or more k []) (new_at i e) ∙ get_or_at made blank [] [] (length made) refl
        ∙ sym (pages_at-item made places i old ∙ ap (λ k. slice_index_or made k []) (ap (λ k. slice_index places k) e ∙ none) ∙ h.blank)

    other : (i : ℕ) → i < length places → (i ≢ index) → slice_index_or more (slice_index after i) [] ≡ slice_index_or (pages_at made places) i []
    other i old ne =
        ap (λ k. slice_index_or more k []) (old_at i ne) ∙ get_or_append_left made (blank ∷ []) [] (slice_index places i) (h.within i)
        ∙ sym (pages_at-item made places i old)

-- so a page has a place of its own once it is made where it wasn't
pub made_at : (made : List (List ℕ)) (places : List ℕ) (room index place : ℕ) → ArePlaces made places room → index < length places → place ≡ slice_index places index
    → IsMade (made_for place made) (set places index (place_for place made)) room (pages_at made places) index
made_at made places room index zero h inside e = made_new made places room index h inside (sym e)
made_at made places room index (suc place) h inside e =
    let stays : set places index (suc place) ≡ places = ap (set places index) e ∙ set-get_or places index 0 in
    subst (λ (after : List ℕ). IsMade made after room (pages_at made places) index) (sym stays)
    record { are = h; own = λ z. let none : suc place ≡ 0 = e ∙ z in omega (arith, none); same = refl }

-- a page that is about to be changed: what it is, and what the pages are behind it
module _ (made : List (List ℕ)) (places : List ℕ) (room : ℕ) (pages : List (List ℕ)) (index place : ℕ) (h : ArePlaces made places room) (is : pages_at made places ≡ pages) (within : index < length pages) (read : place ≡ slice_index_or places index place) where
  inside : index < length places
  inside = omega (arith, within, ap length is, pages_at-length made places)

  there : place ≡ slice_index places index
  there = get_or_read places index place inside read 0

  -- there is room to make it
  pub has_room : place ≡ 0 → length made < room
  has_room none = omega (arith, h.count, h.enough, count_made-room places index inside (sym there ∙ none))

  pub are_few : place ≡ 0 → length made < 2 ^ 32
  are_few none = omega (arith, h.count, h.few, count_made-room places index inside (sym there ∙ none))

  abbrev pub new_made : List (List ℕ)
  new_made = made_for place made

  abbrev pub new_place : ℕ
  new_place = place_for place made

  abbrev pub after : List ℕ
  after = set places index new_place

  is_made : IsMade new_made after room (pages_at made places) index
  is_made = made_at made places room index place h inside there

  is_inside : index < length after
  is_inside = subst (λ (n : ℕ). index < n) (sym (length-set places index new_place)) inside

  own_place : slice_index after index ≡ new_place
  own_place = get_or-set_same places index new_place 0 inside

  pub has_place : new_place < length new_made
  has_place = subst (λ (n : ℕ). n < length new_made) own_place (is_made.are.within index)

  pub page_is : slice_index_or new_made new_place [] ≡ slice_index_or pages index []
  page_is =
      ap (λ k. slice_index_or new_made k []) (sym own_place) ∙ sym (pages_at-item new_made after index is_inside)
      ∙ ap (λ all. slice_index_or all index []) (is_made.same ∙ is)

  pub are_changed : (w : List ℕ) → ArePlaces (set new_made new_place w) after room
  are_changed w = subst (λ (k : ℕ). ArePlaces (set new_made k w) after room) own_place (written new_made after room index w is_made.are is_inside is_made.own).0

  pub is_changed : (w : List ℕ) → pages_at (set new_made new_place w) after ≡ set pages index w
  is_changed w =
      ap (λ k. pages_at (set new_made k w) after) (sym own_place) ∙ (written new_made after room index w is_made.are is_inside is_made.own).1
      ∙ ap (λ all. set all index w) (is_made.same ∙ is)

-- the page of zeros alone, at the start
module _ (made : List (List ℕ)) (places : List ℕ) (count : ℕ) (blank : made ≡ replicate 4096 0 ∷ []) (none : places ≡ replicate count 0) where
  count_made-none : (count : ℕ) → count_made (replicate count 0) ≡ 0
  count_made-none zero = refl
  count_made-none (suc count) = count_made-none count

  blank_at : (count i offset : ℕ) → slice_index (slice_index_or (pages_at (replicate 4096 0 ∷ []) (replicate count 0)) i []) offset ≡ 0
  blank_at zero i offset = refl
  blank_at (suc count) zero offset = zeros 4096 offset
  blank_at (suc count) (suc i) offset = blank_at count i offset

  pub places_new : (room : ℕ) → count < room → count < 2 ^ 32 → ArePlaces made places room
  places_new room enough few = rw (blank, none) (record {
    blank = refl;
    within = λ i. subst (λ (k : ℕ). k < 1) (sym (zeros count i)) (omega arith);
    apart = λ i j e some. absurd (some (zeros count i));
    count = ap suc (sym (count_made-none count));
    enough = subst (λ (n : ℕ). n < room) (sym (length-replicate count 0)) enough;
    few = subst (λ (n : ℕ). n < 2 ^ 32) (sym (length-replicate count 0)) few;
  })

  pub pages_zero : (i offset : ℕ) → slice_index (slice_index_or (pages_at made places) i []) offset ≡ 0
  pages_zero i offset = rw (blank, none) (blank_at count i offset)

-- Setting the text to memory, page by page.
use Rattle.std.proofs.Common.{◌≡◌, ℕ, ◌+◌, ◌*◌, ◌/◌, ◌%◌, ◌<◌, ◌≤◌, Bool, true, false, ◌&&◌, if◌then◌else◌, List, [], length, set, slice_index, slice_index_or, refl, ap, sym, ◌∙◌, arith, ⊎_elim}
use Rattle.std.specs.Prelude.{IsTrue, Option, None}
use Rattle.std.specs.Global.{Box}
use Rattle.std.proofs.lemmas.Bool.{cases_eq}
use Rattle.std.proofs.lemmas.List.{get_or-set_same, get_or-set_other, get_or_default}
use Rattle.fsim_base.specs.declared.access.RamRange.{RamRange}
use Rattle.fsim_base.specs.Range.{IsInside, is_inside}
use Rattle.phys_mem.specs.declared.page.TextPage.{TextPage}
use Rattle.phys_mem.specs.Page.{marked_in, copied_in}
use Rattle.phys_mem.specs.Ram.{page_of, memory_of, marks_of, copies_of, text_from}
use Rattle.phys_mem.proofs.Access.{inside_or, memory_of-in}
use Rattle.phys_mem.proofs.Fetching.{marks_of-in, marks_of-out}

-- the text of a page, if it has some
abbrev Entry : Type 0
Entry = Option (Box TextPage)

abbrev at : List Entry → ℕ → Entry
at texts k = slice_index_or texts k None

-- one page more keeps the marks of all
pub marks_step : (texts first : List Entry) (i : ℕ) (d new : Entry) → i < length texts → marked_in new ≡ marked_in (slice_index_or texts i d)
    → ((k : ℕ) → marked_in (at texts k) ≡ marked_in (at first k)) → (k : ℕ) → marked_in (at (set texts i new) k) ≡ marked_in (at first k)
marks_step texts first i d new within same kept k =
    ⊎_elim
    (λ here. ap (λ j. marked_in (at (set texts i new) j)) here ∙ ap marked_in (get_or-set_same texts i new None within) ∙ same ∙ ap marked_in (get_or_default texts i d None within) ∙ kept i ∙ ap (λ j. marked_in (at first j)) (sym here))
    (λ other. ap marked_in (get_or-set_other texts i k new None other) ∙ kept k)
    (cases_eq k i)

-- and copies one page more
pub bytes_step : (texts first : List Entry) (pages : List (List ℕ)) (i : ℕ) (d new : Entry) → i < length texts
    → ((offset : ℕ) → IsTrue (marked_in (slice_index_or texts i d) offset) → copied_in new offset ≡ slice_index (slice_index_or pages i []) offset)
    → ((k : ℕ) → marked_in (at texts k) ≡ marked_in (at first k))
    → ((k offset : ℕ) → k < i → IsTrue (marked_in (at first k) offset) → copied_in (at texts k) offset ≡ slice_index (slice_index_or pages k []) offset)
    → (k offset : ℕ) → k < i + 1 → IsTrue (marked_in (at first k) offset) → copied_in (at (set texts i new) k) offset ≡ slice_index (slice_index_or pages k []) offset
bytes_step texts first pages i d new within copied kept before k offset below marked =
    ⊎_elim
    (λ here. let was : IsTrue (marked_in (slice_index_or texts i d) offset) = ap (λ e. marked_in e offset) (get_or_default texts i d None within) ∙ ap (λ f. f offset) (kept i) ∙ ap (λ j. marked_in (at first j) offset) (sym here) ∙ marked in
    ap (λ j. copied_in (at (set texts i new) j) offset) here ∙ ap (λ e. copied_in e offset) (get_or-set_same texts i new None within) ∙ copied offset was ∙ ap (λ j. slice_index (slice_index_or pages j []) offset) (sym here))
    (λ other. ap (λ e. copied_in e offset) (get_or-set_other texts i k new None other) ∙ before k offset (omega arith) marked)
    (cases_eq k i)

-- equal marks of the pages are equal marks of memory
pub marks_of-same : (range : RamRange) (new old : List Entry) → ((k : ℕ) → marked_in (at new k) ≡ marked_in (at old k)) → marks_of range new ≡ marks_of range old
unfolding marks_of
marks_of-same range new old same = λ i x. is_inside range x 1 && same (page_of range x) i (x % 4096)

-- the text where there is some, and elsewhere
copies_of-marked : (range : RamRange) (texts : List Entry) (x : ℕ) → marks_of range texts x ≡ true → copies_of range texts x ≡ copied_in (at texts (page_of range x)) (x % 4096)
unfolding copies_of
copies_of-marked range texts x marked = rw marked refl

copies_of-unmarked : (range : RamRange) (texts : List Entry) (x : ℕ) → marks_of range texts x ≡ false → copies_of range texts x ≡ 0
unfolding copies_of
copies_of-unmarked range texts x unmarked = rw unmarked refl

-- copies of the pages are the text that memory is
pub copies_of-copied : (range : RamRange) (pages : List (List ℕ)) (new old : List Entry) → range.base + range.size ≤ 4096 * (range.base / 4096 + length pages)
    → ((k : ℕ) → marked_in (at new k) ≡ marked_in (at old k))
    → ((k offset : ℕ) → k < length pages → IsTrue (marked_in (at old k) offset) → copied_in (at new k) offset ≡ slice_index (slice_index_or pages k []) offset)
    → copies_of range new ≡ text_from (marks_of range old) (memory_of range pages)
copies_of-copied range pages new old covered kept copied = λ i x. by_test x (marks_of range old x) refl i
  where
    marks : (x : ℕ) → marks_of range new x ≡ marks_of range old x
    marks x = ap (λ f. f x) (marks_of-same range new old kept)

    inside : (x : ℕ) → marks_of range old x ≡ true → IsInside range x 1
    inside x e = ⊎_elim (λ yes. yes) (λ no. absurd (cc (e, marks_of-out range old x no))) (inside_or range x)

    by_test : (x : ℕ) (b : Bool) → marks_of range old x ≡ b → copies_of range new x ≡ text_from (marks_of range old) (memory_of range pages) x
    by_test x false e =
        copies_of-unmarked range new x (marks x ∙ e) ∙ sym (ap (λ b. if b then memory_of range pages x else 0) e)
    by_test x true e =
        let in' = inside x e in
        let there : page_of range x < length pages = omega arith in
        copies_of-marked range new x (marks x ∙ e)
        ∙ copied (page_of range x) (x % 4096) there (sym (marks_of-in range old x in') ∙ e)
        ∙ sym (memory_of-in range pages x in') ∙ sym (ap (λ b. if b then memory_of range pages x else 0) e)

-- Fetches from the text that is kept as copies of pages.
use Rattle.std.proofs.Common.{◌≡◌, ℕ, zero, suc, ◌+◌, ◌-◌, ◌/◌, ◌%◌, ◌<◌, ◌≤◌, Bool, true, false, ◌&&◌, if◌then◌else◌, List, length, slice_index_or, add-zero, refl, ap, sym, ◌∙◌, arith, ⊎_elim}
use Rattle.std.specs.Prelude.{Option, Some, None}
use Rattle.std.specs.Global.{Box}
use Rattle.std.proofs.lemmas.Bool.{and_parts}
use Rattle.std.proofs.lemmas.List.{get_or_read}
use Rattle.fsim_base.specs.declared.access.RamRange.{RamRange}
use Rattle.fsim_base.specs.declared.access.Width.TheVariants.{Word}
use Rattle.fsim_base.specs.Memory.{from_bytes}
use Rattle.fsim_base.specs.Range.{IsInside, is_inside}
use Rattle.phys_mem.specs.declared.page.TextPage.{TextPage}
use Rattle.phys_mem.specs.Page.{marked_in, copied_in}
use Rattle.phys_mem.specs.Ram.{page_of, marks_of, copies_of}
use Rattle.phys_mem.specs.Fetch.{all_four, fetched}
use Rattle.phys_mem.proofs.Access.{in_page, is_inside-true, inside_or, from_bytes-same}

-- four places pass a test as the same four elsewhere do
all_four-same : (a b : ℕ) (p q : ℕ → Bool) → ((k : ℕ) → k < 4 → p (a + k) ≡ q (b + k)) → all_four p a ≡ all_four q b
all_four-same a b p q h =
    let first : p a ≡ q b = ap p (sym (add-zero a)) ∙ h 0 (omega arith) ∙ ap q (add-zero b) in
    λ i. first i && h 1 (omega arith) i && h 2 (omega arith) i && h 3 (omega arith) i

-- each of four places that pass
parts : (a : ℕ) (p : ℕ → Bool) → all_four p a ≡ true → (p a ≡ true) × (p (a + 1) ≡ true) × (p (a + 2) ≡ true) × (p (a + 3) ≡ true)
parts a p h =
    let last = and_parts (p a && p (a + 1) && p (a + 2)) (p (a + 3)) h in
    let third = and_parts (p a && p (a + 1)) (p (a + 2)) last.0 in
    let second = and_parts (p a) (p (a + 1)) third.0 in
    (second.0, second.1, third.1, last.1)

all_four-at : (a : ℕ) (p : ℕ → Bool) → all_four p a ≡ true → (k : ℕ) → k < 4 → p (a + k) ≡ true
all_four-at a p h zero below = ap p (add-zero a) ∙ (parts a p h).0
all_four-at a p h (suc zero) below = (parts a p h).1
all_four-at a p h (suc (suc zero)) below = (parts a p h).2
all_four-at a p h (suc (suc (suc zero))) below = (parts a p h).3
all_four-at a p h (suc (suc (suc (suc k)))) below = absurd (omega arith)

-- marks inside RAM, and outside
pub marks_of-in : (range : RamRange) (texts : List (Option (Box TextPage))) (x : ℕ) → IsInside range x 1 → marks_of range texts x ≡ marked_in (slice_index_or texts (page_of range x) None) (x % 4096)
unfolding marks_of
marks_of-in range texts x inside = rw (is_inside-true range x 1 inside) refl

pub marks_of-out : (range : RamRange) (texts : List (Option (Box TextPage))) (x : ℕ) → is_inside range x 1 ≡ false → marks_of range texts x ≡ false
unfolding marks_of
marks_of-out range texts x outside = rw outside refl

-- the bytes of a word stand side by side in its page
same_place : (range : RamRange) (addr k : ℕ) → addr % 4096 + 4 ≤ 4096 → k < 4 → page_of range (addr + k) ≡ page_of range addr
same_place range addr k fits below =
    let page : (addr + k) / 4096 ≡ addr / 4096 = omega arith in ap (λ q. q - range.base / 4096) page

marks_of-page : (range : RamRange) (texts : List (Option (Box TextPage))) (addr k : ℕ) → IsInside range addr 4 → addr % 4096 + 4 ≤ 4096 → k < 4
    → marks_of range texts (addr + k) ≡ marked_in (slice_index_or texts (page_of range addr) None) (addr % 4096 + k)
marks_of-page range texts addr k inside fits below =
    let offset : (addr + k) % 4096 ≡ addr % 4096 + k = omega arith in
    marks_of-in range texts (addr + k) (omega arith, omega arith)
    ∙ (λ i. marked_in (slice_index_or texts (same_place range addr k fits below i) None) (offset i))

copies_of-page : (range : RamRange) (texts : List (Option (Box TextPage))) (addr k : ℕ) → addr % 4096 + 4 ≤ 4096 → k < 4 → marks_of range texts (addr + k) ≡ true
    → copies_of range texts (addr + k) ≡ copied_in (slice_index_or texts (page_of range addr) None) (addr % 4096 + k)
unfolding copies_of
copies_of-page range texts addr k fits below marked =
    let offset : (addr + k) % 4096 ≡ addr % 4096 + k = omega arith in
    rw marked (λ i. copied_in (slice_index_or texts (same_place range addr k fits below i) None) (offset i))

-- a page's text is that of an address
pub record IsEntry (range : RamRange) (texts : List (Option (Box TextPage))) (addr index : ℕ) (entry : Option (Box TextPage)) : Type 0 where
  pub place : index ≡ page_of range addr
  pub within : index < length texts
  pub there : entry ≡ slice_index_or texts index entry

pub entry_is : (range : RamRange) (texts : List (Option (Box TextPage))) (addr index : ℕ) (entry : Option (Box TextPage)) → IsEntry range texts addr index entry → slice_index_or texts (page_of range addr) None ≡ entry
entry_is range texts addr index entry h = sym (get_or_read texts index entry h.within h.there None ∙ ap (λ i. slice_index_or texts i None) h.place)

-- whether a word inside RAM is text
word_marks : (range : RamRange) (texts : List (Option (Box TextPage))) (addr index : ℕ) (entry : Option (Box TextPage)) → addr % 4 ≡ 0 → IsInside range addr 4 → IsEntry range texts addr index entry
    → all_four (marks_of range texts) addr ≡ all_four (marked_in entry) (addr % 4096)
word_marks range texts addr index entry aligned inside h =
    all_four-same addr (addr % 4096) (marks_of range texts) (marked_in entry)
    (λ k below. marks_of-page range texts addr k inside (in_page addr Word aligned) below ∙ ap (λ e. marked_in e (addr % 4096 + k)) (entry_is range texts addr index entry h))

-- nothing is fetched from outside RAM
pub outside_none : (range : RamRange) (texts : List (Option (Box TextPage))) (addr : ℕ) → (IsInside range addr 4 → ⊥) → None ≡ fetched (marks_of range texts) (copies_of range texts) addr
outside_none range texts addr outside =
    sym (ap (λ b. if b then Some (from_bytes 4 addr (copies_of range texts)) else None) (not_all (all_four (marks_of range texts) addr) refl))
  where
    -- text lies inside RAM
    inside : (x : ℕ) → marks_of range texts x ≡ true → IsInside range x 1
    inside x marked = ⊎_elim (λ yes. yes) (λ no. absurd (cc (marked, marks_of-out range texts x no))) (inside_or range x)

    not_all : (b : Bool) → all_four (marks_of range texts) addr ≡ b → b ≡ false
    not_all true all =
        let first = inside (addr + 0) (all_four-at addr (marks_of range texts) all 0 (omega arith)) in
        let last = inside (addr + 3) (all_four-at addr (marks_of range texts) all 3 (omega arith)) in
        absurd (outside (omega arith, omega arith))
    not_all false none = refl

-- inside RAM the word is that of its page
pub fetched_in_page : (range : RamRange) (texts : List (Option (Box TextPage))) (addr index : ℕ) (entry : Option (Box TextPage)) → addr % 4 ≡ 0 → IsInside range addr 4 → IsEntry range texts addr index entry
    → fetched (marked_in entry) (copied_in entry) (addr % 4096) ≡ fetched (marks_of range texts) (copies_of range texts) addr
fetched_in_page range texts addr index entry aligned inside h =
    by_test (all_four (marks_of range texts) addr) refl
  where
    here : Bool
    here = all_four (marked_in entry) (addr % 4096)

    marks : all_four (marks_of range texts) addr ≡ here
    marks = word_marks range texts addr index entry aligned inside h

    there : Option ℕ
    there = fetched (marks_of range texts) (copies_of range texts) addr

    by_test : (b : Bool) → all_four (marks_of range texts) addr ≡ b → fetched (marked_in entry) (copied_in entry) (addr % 4096) ≡ there
    by_test false none =
        ap (λ b. if b then Some (from_bytes 4 (addr % 4096) (copied_in entry)) else None) (sym marks ∙ none)
        ∙ sym (ap (λ b. if b then Some (from_bytes 4 addr (copies_of range texts)) else None) none)
    by_test true all =
        let fits = in_page addr Word aligned in
        let same = from_bytes-same 4 (addr % 4096) addr (copied_in entry) (copies_of range texts)
        (λ k below. sym (copies_of-page range texts addr k fits below (all_four-at addr (marks_of range texts) all k below) ∙ ap (λ t. copied_in t (addr % 4096 + k)) (entry_is range texts addr index entry h))) in
        ap (λ b. if b then Some (from_bytes 4 (addr % 4096) (copied_in entry)) else None) (sym marks ∙ all) ∙ ap Some same
        ∙ sym (ap (λ b. if b then Some (from_bytes 4 addr (copies_of range texts)) else None) all)

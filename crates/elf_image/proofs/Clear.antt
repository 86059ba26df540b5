-- What it says of the headers that bytes have no fault.
use Rattle.std.proofs.Common.{◌≡◌, ℕ, zero, suc, ◌+◌, ◌<◌, ◌≤◌, Bool, true, false, cond, ◌&&◌, not, nat_lt, List, [], ◌∷◌, length, refl, ap, sym, ◌∙◌, arith, subst, ⊎_elim}
use Rattle.std.specs.Prelude.{Option, Some, None, filter, flat_map}
use Rattle.std.specs.Option.{option_or}
use Rattle.std.specs.List.{range_with_len}
use Rattle.std.proofs.lemmas.Bool.{cases_eq}
use Rattle.std.proofs.lemmas.Bool.Decides.{nat_tests}
use Rattle.std.proofs.lemmas.List.Concat.{flat_map_single}
use Rattle.fsim_base.specs.declared.access.RamRange.{RamRange}
use Rattle.fsim_base.specs.Range.{IsInside, is_inside}
use Rattle.elf_image.specs.declared.fault.ImageFault.{ImageFault}
use Rattle.elf_image.specs.declared.fault.ImageFault.TheVariants.{FileOutside, Larger, OutsideRam}
use Rattle.elf_image.specs.Fields.{header_at, header_count}
use Rattle.elf_image.specs.Image.{Row, first_fault, is_load, share_a_byte, overlap_row, overlap_rows, table_rows, header_rows, file_rows, image_fault, HasContents}
use Rattle.elf_image.proofs.Rows.{first_fault-append}

-- a load header without a fault
pub record IsClear (bytes : List ℕ) (ram : RamRange) (i : ℕ) : Type 0 where
  pub file : (header_at bytes i).offset + (header_at bytes i).file_size ≤ length bytes
  pub sizes : (header_at bytes i).file_size ≤ (header_at bytes i).memory_size
  pub inside : 0 < (header_at bytes i).memory_size → IsInside ram (header_at bytes i).address (header_at bytes i).memory_size
  pub apart : (j : ℕ) → j < i → is_load bytes j ≡ true → share_a_byte (header_at bytes i).address (header_at bytes i).memory_size (header_at bytes j).address (header_at bytes j).memory_size ≡ false

-- no row of two tables applies
none_of_both : (x y : Option ImageFault) → option_or x y ≡ None → (x ≡ None) × (y ≡ None)
none_of_both None y h = (refl, h)
none_of_both (Some f) y h = absurd (cc)

-- the first row doesn't apply, and none of the others
none_of_rows : (f : ImageFault) (b : Bool) (rows : List Row) → first_fault ((f, b) ∷ rows) ≡ None → (b ≡ false) × (first_fault rows ≡ None)
none_of_rows f true rows h = absurd (cc)
none_of_rows f false rows h = (refl, h)

-- if an item may be left out, and no row applies
none_of_kept : (g : ℕ → List Row) (b : Bool) (a : ℕ) (rest : List ℕ) → first_fault (flat_map g (cond b (a ∷ rest) rest)) ≡ None
    → (b ≡ true → first_fault (g a) ≡ None) × (first_fault (flat_map g rest) ≡ None)
none_of_kept g true a rest h =
    let both = none_of_both (first_fault (g a)) (first_fault (flat_map g rest)) (sym (first_fault-append (g a) (flat_map g rest)) ∙ h) in
    (λ _. both.0, both.1)
none_of_kept g false a rest h = (λ e. absurd (cc), h)

-- if no row applies, none applies of those that a number of the run has
pub none_at : (g : ℕ → List Row) (p : ℕ → Bool) (n a : ℕ) → first_fault (flat_map g (filter p (range_with_len a n))) ≡ None
    → (i : ℕ) → a ≤ i → i < a + n → p i ≡ true → first_fault (g i) ≡ None
none_at g p zero a h i low high kept = absurd (omega arith)
none_at g p (suc n) a h i low high kept =
    let parts = none_of_kept g (p a) a (filter p (range_with_len (a + 1) n)) h in
    ⊎_elim
    (λ here. subst (λ (k : ℕ). first_fault (g k) ≡ None) (sym here) (parts.0 (subst (λ (k : ℕ). p k ≡ true) here kept)))
    (λ apart. none_at g p n (a + 1) parts.1 i (omega arith) (omega arith) kept)
    (cases_eq i a)

-- and the other way round
pub none_of_all : (g : ℕ → List Row) (p : ℕ → Bool) (n a : ℕ) → ((i : ℕ) → a ≤ i → i < a + n → p i ≡ true → first_fault (g i) ≡ None)
    → first_fault (flat_map g (filter p (range_with_len a n))) ≡ None
none_of_all g p zero a each = refl
none_of_all g p (suc n) a each =
    let rest = none_of_all g p n (a + 1) (λ i low high kept. each i (omega arith) (omega arith) kept) in
    kept_front (p a) (λ e. each a (omega arith) (omega arith) e) rest
  where
    kept_front : (b : Bool) → (b ≡ true → first_fault (g a) ≡ None) → first_fault (flat_map g (filter p (range_with_len (a + 1) n))) ≡ None → first_fault (flat_map g (cond b (a ∷ filter p (range_with_len (a + 1) n)) (filter p (range_with_len (a + 1) n)))) ≡ None
    kept_front true front rest = first_fault-append (g a) (flat_map g (filter p (range_with_len (a + 1) n))) ∙ ap (λ x. option_or x (first_fault (flat_map g (filter p (range_with_len (a + 1) n))))) (front refl) ∙ rest
    kept_front false front rest = rest

-- the overlaps as a table of rows of one each
overlap_rows_flat : (bytes : List ℕ) (i a n : ℕ) → flat_map (λ j. overlap_row bytes i j ∷ []) (filter (is_load bytes) (range_with_len a n)) ≡ overlap_rows bytes i a n
overlap_rows_flat bytes i a n = flat_map_single (overlap_row bytes i) (filter (is_load bytes) (range_with_len a n))

-- a table of one row
shared_none : (row : Row) → first_fault (row ∷ []) ≡ None → row.1 ≡ false
shared_none row h = (none_of_rows row.0 row.1 [] h).0

-- the test of memory outside RAM, and what it says
inside_if : (ram : RamRange) (addr size : ℕ) → 0 < size → (nat_lt 0 size && not (is_inside ram addr size)) ≡ false → IsInside ram addr size
inside_if ram addr size some h = (grind (arith, nat_tests), grind (arith, nat_tests))

outside_none : (ram : RamRange) (addr size : ℕ) → (0 < size → IsInside ram addr size) → (nat_lt 0 size && not (is_inside ram addr size)) ≡ false
outside_none ram addr size h = grind (arith, nat_tests)

-- a load header has no fault exactly where it is clear
pub IsClear-from_none : (bytes : List ℕ) (ram : RamRange) (i : ℕ) → first_fault (header_rows bytes ram i) ≡ None → IsClear bytes ram i
unfolding header_rows
IsClear-from_none bytes ram i h =
    let header = header_at bytes i in
    let overlaps = overlap_rows bytes i 0 i in
    let beyond = nat_lt 0 header.memory_size && not (is_inside ram header.address header.memory_size) in
    let first = none_of_rows (FileOutside i) (nat_lt (length bytes) (header.offset + header.file_size)) ((Larger i, nat_lt header.memory_size header.file_size) ∷ (OutsideRam i, beyond) ∷ overlaps) h in
    let second = none_of_rows (Larger i) (nat_lt header.memory_size header.file_size) ((OutsideRam i, beyond) ∷ overlaps) first.1 in
    let third = none_of_rows (OutsideRam i) beyond overlaps second.1 in
    let flat = ap first_fault (overlap_rows_flat bytes i 0 i) ∙ third.1 in
    record {
      file = grind (arith, nat_tests, first.0);
      sizes = grind (arith, nat_tests, second.0);
      inside = λ some. inside_if ram header.address header.memory_size some third.0;
      apart = λ j below load. shared_none (overlap_row bytes i j) (none_at (λ j. overlap_row bytes i j ∷ []) (is_load bytes) i 0 flat j (omega arith) (omega arith) load);
    }

pub none-from_IsClear : (bytes : List ℕ) (ram : RamRange) (i : ℕ) → IsClear bytes ram i → first_fault (header_rows bytes ram i) ≡ None
unfolding header_rows
none-from_IsClear bytes ram i h =
    let header = header_at bytes i in
    let first : nat_lt (length bytes) (header.offset + header.file_size) ≡ false = grind (arith, nat_tests, h.file) in
    let second : nat_lt header.memory_size header.file_size ≡ false = grind (arith, nat_tests, h.sizes) in
    let third = outside_none ram header.address header.memory_size h.inside in
    let overlaps = none_of_all (λ j. overlap_row bytes i j ∷ []) (is_load bytes) i 0 (λ j low below load. rw (h.apart j (omega arith) load) refl) in
    rw (first, second, third) (ap first_fault (sym (overlap_rows_flat bytes i 0 i)) ∙ overlaps)

-- each load header of bytes without a fault is clear
pub all_clear : (bytes : List ℕ) (ram : RamRange) → image_fault bytes ram ≡ None → (i : ℕ) → i < header_count bytes → is_load bytes i ≡ true → IsClear bytes ram i
unfolding image_fault
all_clear bytes ram h i within load =
    let table = none_of_both (first_fault (file_rows bytes)) (first_fault (table_rows bytes ram 0 (header_count bytes))) (sym (first_fault-append (file_rows bytes) (table_rows bytes ram 0 (header_count bytes))) ∙ h) in
    IsClear-from_none bytes ram i (none_at (header_rows bytes ram) (is_load bytes) (header_count bytes) 0 table.1 i (omega arith) (omega arith) load)

-- so its bytes lie inside the file
pub HasContents-from_none : (bytes : List ℕ) (ram : RamRange) → image_fault bytes ram ≡ None → HasContents bytes
HasContents-from_none bytes ram h = record { each = λ i within load. (all_clear bytes ram h i within load).file }

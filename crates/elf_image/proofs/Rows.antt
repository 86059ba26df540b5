-- The tables of faults, row by row.
use Rattle.std.proofs.Common.{◌≡◌, ℕ, suc, ◌+◌, ◌-◌, ◌<◌, ◌&&◌, if◌then◌else◌, List, [], ◌∷◌, ◌++◌, refl, arith}
use Rattle.std.specs.Prelude.{Some}
use Rattle.std.specs.Option.{option_or}
use Rattle.std.proofs.lemmas.Grind.{common_steps}
use Rattle.fsim_base.specs.declared.access.RamRange.{RamRange}
use Rattle.elf_image.specs.declared.fault.ImageFault.TheVariants.{Overlap}
use Rattle.elf_image.specs.Image.{Row, first_fault, is_load, overlap_row, overlap_rows, table_rows, has_segment, segment_at, segments_of}

-- the first fault of two tables, one after the other
pub first_fault-append : (xs ys : List Row) → first_fault (xs ++ ys) ≡ option_or (first_fault xs) (first_fault ys)
first_fault-append [] ys = refl
first_fault-append (row ∷ xs) ys = let e = first_fault-append xs ys in grind (arith, e)

-- the overlaps with the headers from the i-th on are that with the i-th and those with the next ones
pub overlap_rows-next : (bytes : List ℕ) (index i count : ℕ) → i < count
    → first_fault (overlap_rows bytes index i (count - i)) ≡ (if (is_load bytes i && (overlap_row bytes index i).1) then Some (Overlap index i) else first_fault (overlap_rows bytes index (i + 1) (count - (i + 1))))
overlap_rows-next bytes index i count h =
    let e : count - i ≡ suc (count - (i + 1)) = omega arith in rw e (grind arith)

-- the faults of the headers from the i-th on are those of the i-th and those of the next ones
pub table_rows-next : (bytes : List ℕ) (ram : RamRange) (i count : ℕ) → i < count
    → first_fault (table_rows bytes ram i (count - i)) ≡ option_or (first_fault (table_rows bytes ram i 1)) (first_fault (table_rows bytes ram (i + 1) (count - (i + 1))))
table_rows-next bytes ram i count h =
    let e : count - i ≡ suc (count - (i + 1)) = omega arith in rw e (grind (arith, first_fault-append))

-- for the loops over the headers
pub ruleset row_steps = (overlap_rows-next, table_rows-next, first_fault-append)

-- the segments of the headers from the i-th on are that of the i-th and those of the next ones
pub segments_of-next : (bytes : List ℕ) (i count : ℕ) → i < count
    → segments_of bytes i (count - i) ≡ (if has_segment bytes i then segment_at bytes i ∷ segments_of bytes (i + 1) (count - (i + 1)) else segments_of bytes (i + 1) (count - (i + 1)))
segments_of-next bytes i count h =
    let e : count - i ≡ suc (count - (i + 1)) = omega arith in rw e (grind arith)

-- for the loop that copies the segments
pub ruleset segment_steps = (segments_of-next, common_steps)

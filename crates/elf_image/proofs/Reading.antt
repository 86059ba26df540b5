-- The image of bytes without a fault is sound.
use Rattle.std.proofs.Common.{◌≡◌, ℕ, ◌+◌, ◌<◌, ◌≤◌, true, false, nat_lt, List, length, map, drop, get_or, refl, ◌∙◌, arith, length-take}
use Rattle.std.specs.Prelude.{None, filter, All, AllPairs}
use Rattle.std.specs.List.{range_with_len}
use Rattle.std.proofs.Math.Nat.{max_comm, min_comm}
use Rattle.std.proofs.lemmas.Bool.{and_parts}
use Rattle.std.proofs.lemmas.Bool.Decides.{nat_tests}
use Rattle.std.proofs.lemmas.List.{get_or-map, length-map}
use Rattle.std.proofs.lemmas.List.Elements.{All-filter, All-map, filter_passes}
use Rattle.std.proofs.lemmas.List.FromFn.{length-range_with_len, get_or-range_with_len}
use Rattle.std.proofs.lemmas.List.Kept.{AllPairs-filter}
use Rattle.std.proofs.lemmas.List.Sums.{length-filter, count_by-le-length}
use Rattle.fsim_base.specs.declared.access.RamRange.{RamRange}
use Rattle.elf_image.specs.Fields.{header_at, header_count, HasTable}
use Rattle.elf_image.specs.Image.{is_load, has_segment, segment_at, share_a_byte, image_fault, image_of}
use Rattle.elf_image.specs.Sound.{IsPlaced, IsSound}
use Rattle.elf_image.proofs.Clear.{IsClear, all_clear}

-- it doesn't matter which of two runs is named first
pub share-comm : (addr size addr' size' : ℕ) → share_a_byte addr size addr' size' ≡ share_a_byte addr' size' addr size
share-comm addr size addr' size' = rw (max_comm addr addr', min_comm (addr + size) (addr' + size')) refl

-- the numbers of the headers that have a segment
abbrev numbers : List ℕ → List ℕ
numbers bytes = filter (has_segment bytes) (range_with_len 0 (header_count bytes))

-- they lie below the number of headers, rise, and have segments
numbers_below : (bytes : List ℕ) → All (λ i. i < header_count bytes) (numbers bytes)
numbers_below bytes =
    let count = header_count bytes in
    All-filter (has_segment bytes) (λ i. i < count) (range_with_len 0 count)
    (λ k d within. let long = length-range_with_len 0 count in omega (arith, get_or-range_with_len 0 count k d (omega arith)))

numbers_rise : (bytes : List ℕ) → AllPairs (λ i j. i < j) (numbers bytes)
numbers_rise bytes =
    let count = header_count bytes in
    AllPairs-filter (λ i j. i < j) (has_segment bytes) (range_with_len 0 count)
    (λ i j d lt within. let long = length-range_with_len 0 count in omega (arith, get_or-range_with_len 0 count i d (omega arith), get_or-range_with_len 0 count j d (omega arith)))

length-numbers : (bytes : List ℕ) → length (numbers bytes) ≤ header_count bytes
length-numbers bytes =
    let count = header_count bytes in
    omega (arith, length-filter (has_segment bytes) (range_with_len 0 count), count_by-le-length (has_segment bytes) (range_with_len 0 count), length-range_with_len 0 count)

-- a fact on pairs of items of a list, said of what a function makes of them
AllPairs-map : {X : Type 0} (R : X → X → Type 0) (f : ℕ → X) (xs : List ℕ) → ((i j d : ℕ) → i < j → j < length xs → R (f (get_or xs i d)) (f (get_or xs j d))) → AllPairs R (map f xs)
AllPairs-map R f xs h i j d lt within =
    let long = length-map xs f in
    rw (get_or-map f xs i 0 d (omega arith), get_or-map f xs j 0 d (omega arith)) (h i j 0 lt (omega arith))

-- a load header that is clear has a segment inside RAM
segment_placed : (bytes : List ℕ) (ram : RamRange) (i : ℕ) → i < 64 → has_segment bytes i ≡ true → IsClear bytes ram i → IsPlaced ram (segment_at bytes i)
unfolding segment_at
segment_placed bytes ram i below has clear =
    let header = header_at bytes i in
    let some : 0 < header.memory_size = grind (arith, nat_tests, (and_parts (is_load bytes i) (nat_lt 0 header.memory_size) has).1) in
    record {
      numbered = below;
      taken = some;
      filled = omega (arith, length-take header.file_size (drop header.offset bytes), clear.sizes);
      inside = clear.inside some;
    }

-- the image of bytes without a fault can be loaded
pub IsSound-image_of : (bytes : List ℕ) (ram : RamRange) → HasTable bytes → image_fault bytes ram ≡ None → IsSound (image_of bytes) ram
unfolding image_of segment_at
IsSound-image_of bytes ram table none =
    let found = numbers bytes in
    let below = numbers_below bytes in
    let passes = filter_passes (has_segment bytes) (range_with_len 0 (header_count bytes)) in
    let rise = numbers_rise bytes in
    let load = λ (i : ℕ) (has : has_segment bytes i ≡ true). (and_parts (is_load bytes i) (nat_lt 0 (header_at bytes i).memory_size) has).0 in
    let clear = λ (i : ℕ) (within : i < header_count bytes) (has : has_segment bytes i ≡ true). all_clear bytes ram none i within (load i has) in
    record {
      few = omega (arith, length-map found (segment_at bytes), length-numbers bytes, table.few);
      placed = All-map (IsPlaced ram) (segment_at bytes) found (λ k d within. let i = get_or found k d in
          let lt : i < 64 = omega (arith, below k d within, table.few) in
          segment_placed bytes ram i lt (passes k d within) (clear i (below k d within) (passes k d within)));
      rising = AllPairs-map (λ a b. a.index < b.index) (segment_at bytes) found (λ i j d lt within. rise i j d lt within);
      apart = AllPairs-map (λ a b. share_a_byte a.addr a.size b.addr b.size ≡ false) (segment_at bytes) found (λ i j d lt within.
          let early = get_or found i d in
          let late = get_or found j d in
          let within' : i < length found = omega arith in
          share-comm (header_at bytes early).address (header_at bytes early).memory_size (header_at bytes late).address (header_at bytes late).memory_size
          ∙ (clear late (below j d within) (passes j d within)).apart early (rise i j d lt within) (load early (passes i d within')));
    }

-- for the reader
pub ruleset sound_image = (IsSound-image_of)

-- The file that is written reads as the image.
use Rattle.std.proofs.Common.{◌≡◌, ℕ, zero, suc, ◌+◌, ◌*◌, ◌%◌, ◌<◌, ◌≤◌, ◌^◌, Bool, true, false, List, [], ◌∷◌, ◌++◌, length, take, drop, map, get_or, refl, ap, sym, ◌∙◌, arith, append_assoc, length-append, add-zero, zero-add, subst}
use Rattle.std.specs.Prelude.{All, None, filter, ◌==◌, ◌&&◌, not, if◌then◌else◌, nat_lt}
use Rattle.std.specs.Option.{option_or}
use Rattle.std.proofs.Math.Bool.{and-false}
use Rattle.std.proofs.lemmas.Bool.{and_from}
use Rattle.std.proofs.lemmas.Bool.Decides.{nat_tests}
use Rattle.std.specs.List.{range_with_len}
use Rattle.std.proofs.Math.Seq.{drop-append-add, drop-append_seam, take-append_seam}
use Rattle.std.proofs.lemmas.List.{drop-drop, get_or-map, same_lists}
use Rattle.std.proofs.lemmas.List.Folds.{length-flat_map-take}
use Rattle.std.proofs.lemmas.List.FromFn.{get_or-range_with_len, length-map-range_with_len, get_or-map-range_with_len}
use Rattle.elf_image.specs.declared.segment.Segment.{Segment}
use Rattle.elf_image.specs.declared.image.Image.{Image}
use Rattle.fsim_base.specs.declared.access.RamRange.{RamRange}
use Rattle.elf_image.specs.Sound.{IsSound}
use Rattle.elf_image.specs.declared.header.ProgramHeader.{ProgramHeader}
use Rattle.elf_image.specs.Write.{program_header, program_headers, file_header, header_for, contents_of, file_of, IsNumbered, HasWords}
use Rattle.elf_image.specs.Fields.{header_at, header_of, header_count, header_size, table_place}
use Rattle.elf_image.specs.Image.{first_fault, file_rows, header_rows, table_rows, image_fault, is_load, has_segment, segment_at, segments_of, image_of, IsImage}
use Rattle.elf_image.proofs.Rows.{first_fault-append}
use Rattle.elf_image.proofs.Clear.{IsClear, none_of_all, none-from_IsClear}
use Rattle.elf_image.proofs.Reading.{share-comm}
use Rattle.elf_image.proofs.Headers.{HasHeader, HasHeader-file_header, drop-file_header, length-file_header, HasFields, header_of-program_header, drop-program_header, length-program_header}

-- how many bytes stand before those of the i-th segment
abbrev bytes_before : List Segment → ℕ → ℕ
bytes_before segments i = length (contents_of (take i segments))

-- the i-th program header stands at its place of the table
header_there : (segments : List Segment) (offset : ℕ) (rest : List ℕ) (i : ℕ) (d : Segment) → i < length segments
    → (tail : List ℕ) × (drop (32 * i) (program_headers segments offset ++ rest) ≡ program_header (header_for (get_or segments i d) (offset + bytes_before segments i)) ++ tail)
header_there [] offset rest i d h = absurd (omega arith)
header_there (s ∷ segments) offset rest zero d h =
    let headers = program_headers segments (offset + length s.bytes) in
    (headers ++ rest, rw (add-zero offset) (append_assoc (program_header (header_for s offset)) headers rest))
header_there (s ∷ segments) offset rest (suc i) d h =
    let headers = program_headers segments (offset + length s.bytes) in
    let there = header_there segments (offset + length s.bytes) rest i d (omega arith) in
    let place : 32 * suc i ≡ 32 + 32 * i = omega arith in
    let front : drop 32 ((program_header (header_for s offset) ++ headers) ++ rest) ≡ headers ++ rest = ap (drop 32) (append_assoc (program_header (header_for s offset)) headers rest) ∙ drop-program_header (header_for s offset) (headers ++ rest) in
    let before : (offset + length s.bytes) + bytes_before segments i ≡ offset + length (s.bytes ++ contents_of (take i segments)) = omega (arith, length-append s.bytes (contents_of (take i segments))) in
    let all = program_headers (s ∷ segments) offset ++ rest in
    (there.0, ap (λ n. drop n all) place ∙ sym (drop-drop (32 * i) 32 all) ∙ ap (drop (32 * i)) front ∙ there.1 ∙ ap (λ o. program_header (header_for (get_or segments i d) o) ++ there.0) before)

-- the bytes of the i-th segment stand behind those of the segments before
contents_there : (segments : List Segment) (i : ℕ) (d : Segment) → i < length segments
    → (tail : List ℕ) × (drop (bytes_before segments i) (contents_of segments) ≡ (get_or segments i d).bytes ++ tail)
contents_there [] i d h = absurd (omega arith)
contents_there (s ∷ segments) zero d h = (contents_of segments, refl)
contents_there (s ∷ segments) (suc i) d h =
    let there = contents_there segments i d (omega arith) in
    (there.0, rw (length-append s.bytes (contents_of (take i segments)), drop-append-add s.bytes (contents_of segments) (bytes_before segments i)) there.1)

length-program_headers : (segments : List Segment) (offset : ℕ) → length (program_headers segments offset) ≡ 32 * length segments
length-program_headers [] offset = refl
length-program_headers (s ∷ segments) offset =
    let rest = program_headers segments (offset + length s.bytes) in
    omega (arith, length-append (program_header (header_for s offset)) rest, length-program_header (header_for s offset), length-program_headers segments (offset + length s.bytes))

-- the bytes of small segments take little room
bytes_before_small : (segments : List Segment) (i : ℕ) → All (λ s. length s.bytes ≤ 67108864) segments → bytes_before segments i ≤ 67108864 * i
bytes_before_small [] zero h = omega arith
bytes_before_small [] (suc i) h = omega arith
bytes_before_small (s ∷ segments) zero h = omega arith
bytes_before_small (s ∷ segments) (suc i) h =
    let rest = bytes_before_small segments i (λ k d within. h (suc k) d (omega arith)) in
    omega (arith, h zero s (omega arith), length-append s.bytes (contents_of (take i segments)), rest)

-- what is known of an image when its file is written
pub record CanWrite (image : Image) (ram : RamRange) : Type 0 where
  pub sound : IsSound image ram
  pub numbered : IsNumbered image
  pub small : ram.size ≤ 67108864
  pub entry : image.entry < 2 ^ 32
  pub words : All HasWords image.segments

-- a run of numbers that all pass a test
filter_all : (p : ℕ → Bool) (n a : ℕ) → ((i : ℕ) → a ≤ i → i < a + n → p i ≡ true) → filter p (range_with_len a n) ≡ range_with_len a n
filter_all p zero a h = refl
filter_all p (suc n) a h =
    rw (h a (omega arith) (omega arith), filter_all p n (a + 1) (λ i low high. h i (omega arith) (omega arith))) refl

-- the flags of a segment are small, and say whether it is executable
small_flags : (exec : Bool) → (if exec then 5 else 6) < 2 ^ 32
small_flags true = omega arith
small_flags false = omega arith

flags_exec : (exec : Bool) → ((if exec then 5 else 6) % 2 == 1) ≡ exec
flags_exec true = refl
flags_exec false = refl

module _ (image : Image) (ram : RamRange) (can : CanWrite image ram) where
  abbrev segments : List Segment
  segments = image.segments

  abbrev count : ℕ
  count = length segments

  abbrev file : List ℕ
  file = file_of image

  abbrev headers : List ℕ
  headers = program_headers segments (52 + 32 * count)

  abbrev offset : ℕ → ℕ
  offset i = (52 + 32 * count) + bytes_before segments i

  -- the file in its three parts
  file_parts : file ≡ file_header image.entry count ++ (headers ++ contents_of segments)
  unfolding file_of
  file_parts = append_assoc (file_header image.entry count) headers (contents_of segments)

  file_front : file ≡ (file_header image.entry count ++ headers) ++ contents_of segments
  unfolding file_of
  file_front = refl

  length-front : length (file_header image.entry count ++ headers) ≡ 52 + 32 * count
  length-front = omega (arith, length-append (file_header image.entry count) headers, length-file_header image.entry count, length-program_headers segments (52 + 32 * count))

  length-file : length file ≡ (52 + 32 * count) + length (contents_of segments)
  length-file = ap length file_front ∙ length-append (file_header image.entry count ++ headers) (contents_of segments) ∙ ap (λ k. k + length (contents_of segments)) length-front

  begins : HasHeader file image.entry count
  begins = subst (λ f. HasHeader f image.entry count) (sym file_parts) (HasHeader-file_header image.entry count (headers ++ contents_of segments) can.entry can.sound.few)

  -- each segment has few bytes
  small : All (λ s. length s.bytes ≤ 67108864) segments
  small k d within = let placed = can.sound.placed k d within in omega (arith, placed.filled, placed.inside, can.small)

  -- its bytes stand in the file at a place of four bytes
  low_offset : (i : ℕ) → i < count → offset i < 2 ^ 32
  low_offset i within = omega (arith, bytes_before_small segments i small, can.sound.few)

  fits_file : (i : ℕ) (d : Segment) → i < count → offset i + length (get_or segments i d).bytes ≤ length file
  fits_file i d within = omega (arith, length-file, length-flat_map-take (λ s. s.bytes) segments i d within)

  fields : (i : ℕ) (d : Segment) → i < count → HasFields (header_for (get_or segments i d) (offset i))
  fields i d within =
      let words = can.words i d within in
      let room = small i d within in
      record { kind = omega arith; offset = low_offset i within; address = words.addr; file_size = omega arith; memory_size = words.size; flags = small_flags (get_or segments i d).exec }

  -- the i-th program header reads as that of the i-th segment
  header_at-file : (i : ℕ) (d : Segment) → i < count → header_at file i ≡ header_for (get_or segments i d) (offset i)
  unfolding header_at
  header_at-file i d within =
      let there = header_there segments (52 + 32 * count) (contents_of segments) i d within in
      let header = header_for (get_or segments i d) (offset i) in
      let place : drop (52 + 32 * i) file ≡ program_header header ++ there.0 =
      sym (drop-drop (32 * i) 52 file) ∙ ap (λ f. drop (32 * i) (drop 52 f)) file_parts ∙ ap (drop (32 * i)) (drop-file_header image.entry count (headers ++ contents_of segments)) ∙ there.1 in
      ap (λ t. header_of (drop (t + 32 * i) file)) begins.table ∙ ap header_of place ∙ header_of-program_header header there.0 (fields i d within)

  -- and its bytes as that segment's
  contents-file : (i : ℕ) (d : Segment) → i < count → take (length (get_or segments i d).bytes) (drop (offset i) file) ≡ (get_or segments i d).bytes
  contents-file i d within =
      let there = contents_there segments i d within in
      let front = file_header image.entry count ++ headers in
      let behind : drop (52 + 32 * count) file ≡ contents_of segments = ap (λ k. drop k file) (sym length-front) ∙ ap (drop (length front)) file_front ∙ drop-append_seam front (contents_of segments) in
      let place : drop (offset i) file ≡ (get_or segments i d).bytes ++ there.0 = sym (drop-drop (bytes_before segments i) (52 + 32 * count) file) ∙ ap (drop (bytes_before segments i)) behind ∙ there.1 in
      ap (take (length (get_or segments i d).bytes)) place ∙ take-append_seam (get_or segments i d).bytes there.0

  numbered : (i : ℕ) (d : Segment) → i < count → (get_or segments i d).index ≡ i
  numbered i d within =
      sym (get_or-map (λ s. s.index) segments i d 0 within) ∙ ap (λ l. get_or l i 0) can.numbered ∙ get_or-range_with_len 0 count i 0 within ∙ zero-add i

  -- what a program header would put into memory
  abbrev put : ProgramHeader → ℕ → Segment
  put h i = record { index = i; addr = h.address; size = h.memory_size; exec = h.flags % 2 == 1; bytes = take h.file_size (drop h.offset file) }

  segment_at-file : (i : ℕ) (d : Segment) → i < count → segment_at file i ≡ get_or segments i d
  unfolding segment_at
  segment_at-file i d within =
      let s = get_or segments i d in
      let index = sym (numbered i d within) in
      let exec = flags_exec s.exec in
      let bytes = contents-file i d within in
      ap (λ h. put h i) (header_at-file i d within) ∙ (λ j. record { index = index j; addr = s.addr; size = s.size; exec = exec j; bytes = bytes j })

  -- a segment to speak of where none is at hand
  abbrev blank : Segment
  blank = record { index = 0; addr = 0; size = 0; exec = false; bytes = [] }

  load-file : (i : ℕ) → i < count → is_load file i ≡ true
  load-file i within = ap (λ h. h.kind == 1) (header_at-file i blank within)

  has-file : (i : ℕ) → i < count → has_segment file i ≡ true
  has-file i within =
      let placed = can.sound.placed i blank within in
      let some : nat_lt 0 (get_or segments i blank).size ≡ true = grind (arith, nat_tests, placed.taken) in
      and_from (is_load file i) (nat_lt 0 (header_at file i).memory_size) (load-file i within) (ap (λ h. nat_lt 0 h.memory_size) (header_at-file i blank within) ∙ some)

  segments-file : segments_of file 0 count ≡ segments
  segments-file =
      let all = filter_all (has_segment file) count 0 (λ i low high. has-file i (omega arith)) in
      ap (map (segment_at file)) all
      ∙ same_lists (map (segment_at file) (range_with_len 0 count)) segments (length-map-range_with_len (segment_at file) 0 count)
      (λ k d within. let inside : k < count = omega (arith, length-map-range_with_len (segment_at file) 0 count) in
      get_or-map-range_with_len (segment_at file) 0 count k k d inside (zero-add k) ∙ segment_at-file k d inside)

  image-file : image ≡ image_of file
  unfolding image_of
  image-file =
      let entry = sym begins.entry in
      let list = sym (ap (segments_of file 0) begins.count ∙ segments-file) in
      λ j. record { entry = entry j; segments = list j }

  clear-file : (i : ℕ) → i < count → IsClear file ram i
  clear-file i within =
      let s = get_or segments i blank in
      let placed = can.sound.placed i blank within in
      let at = header_at-file i blank within in
      record {
        file = rw at (fits_file i blank within);
        sizes = rw at placed.filled;
        inside = λ some. rw at placed.inside;
        apart = λ j below load. let inside : j < count = omega arith in
            rw (at, header_at-file j blank inside) (share-comm s.addr s.size (get_or segments j blank).addr (get_or segments j blank).size ∙ can.sound.apart j i blank below within);
      }

  no_table_fault : first_fault (table_rows file ram 0 count) ≡ None
  no_table_fault =
      none_of_all (header_rows file ram) (is_load file) count 0 (λ i low high load. none-from_IsClear file ram i (clear-file i (omega arith)))

  no_file_fault : first_fault (file_rows file) ≡ None
  unfolding file_rows
  no_file_fault =
      let some = nat_lt 0 (header_count file) in
      let long : nat_lt (length file) 52 ≡ false = grind (arith, nat_tests, begins.long) in
      let sized : (some && not (header_size file == 32)) ≡ false = ap (λ k. some && not (k == 32)) begins.size ∙ and-false some in
      let few : nat_lt 64 (header_count file) ≡ false = grind (arith, nat_tests, begins.count, can.sound.few) in
      let inside : nat_lt (length file) (table_place file + 32 * header_count file) ≡ false = grind (arith, nat_tests, begins.table, begins.count, length-file) in
      let table : (some && nat_lt (length file) (table_place file + 32 * header_count file)) ≡ false = ap (λ b. some && b) inside ∙ and-false some in
      rw (long, begins.magic, begins.class, begins.byte_order, begins.file_type, begins.machine, sized, few, table) refl

  no_fault : image_fault file ram ≡ None
  unfolding image_fault
  no_fault =
      first_fault-append (file_rows file) (table_rows file ram 0 (header_count file))
      ∙ ap (λ x. option_or x (first_fault (table_rows file ram 0 (header_count file)))) no_file_fault
      ∙ ap (λ n. first_fault (table_rows file ram 0 n)) begins.count ∙ no_table_fault

  pub IsImage-file_of : IsImage (file_of image) ram image
  IsImage-file_of = record { clear = no_fault; same = image-file }

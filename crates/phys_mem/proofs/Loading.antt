-- Loading bytes and marks, one after the other.
use Rattle.std.proofs.Common.{◌≡◌, ◌≢◌, ℕ, suc, ◌+◌, ◌-◌, ◌/◌, ◌%◌, ◌<◌, ◌≤◌, Bool, true, false, ◌&&◌, ◌||◌, if◌then◌else◌, List, [], ◌∷◌, length, set, take, drop, slice_index, slice_index_or, get_or, refl, ap, sym, ◌∙◌, arith, ⊎_elim, subst}
use Rattle.std.specs.Prelude.{AllPairs, ◌==◌, nat_le, nat_lt, Option, None}
use Rattle.std.specs.Global.{Box}
use Rattle.std.proofs.Math.ListN.{get_or-eq_default}
use Rattle.std.proofs.Math.Seq.{drop-cons}
use Rattle.std.proofs.lemmas.Bool.{cases_eq, and_from, and_parts}
use Rattle.std.proofs.lemmas.Bool.Decides.{nat_tests}
use Rattle.std.proofs.lemmas.List.{get_or-set_same, get_or-set_other, get_or-take, get_or-drop, length-take, length-drop}
use Rattle.fsim_base.specs.declared.access.RamRange.{RamRange}
use Rattle.fsim_base.specs.Memory.{put_byte, put_bytes}
use Rattle.fsim_base.specs.Range.{IsInside, is_inside}
use Rattle.elf_image.specs.declared.segment.Segment.{Segment}
use Rattle.elf_image.specs.Load.{holds, segments_byte, in_executable}
use Rattle.elf_image.specs.Sound.{AreApart}
use Rattle.phys_mem.specs.declared.page.TextPage.{TextPage}
use Rattle.phys_mem.specs.PageBytes.{bytes_of}
use Rattle.phys_mem.specs.Page.{marked_in}
use Rattle.phys_mem.specs.Ram.{page_of, memory_of, marks_of}
use Rattle.phys_mem.specs.Segment.{with_bytes, with_segment}
use Rattle.phys_mem.proofs.Access.{inside_or, is_inside-true, memory_of-in, memory_of-out, memory_of-set, IsPage, page_is}
use Rattle.phys_mem.proofs.Fetching.{marks_of-in, marks_of-out, IsEntry, entry_is}

-- memory with one byte put into a page
pub memory_of-put : (range : RamRange) (pages : List (List ℕ)) (addr index byte : ℕ) (page new : List ℕ) → IsInside range addr 1 → IsPage range pages addr index page → byte < 256
    → bytes_of new ≡ put_bytes 1 (addr % 4096) byte (bytes_of page) → memory_of range (set pages index new) ≡ put_byte addr byte (memory_of range pages)
memory_of-put range pages addr index byte page new inside h fits e =
    let there : page_of range addr < length pages = omega (arith, h.place, h.within) in
    let low : byte % 256 ≡ byte = omega arith in
    ap (λ i. memory_of range (set pages i new)) h.place
    ∙ memory_of-set range pages addr 1 byte new there (omega arith) inside (omega arith) (e ∙ ap (λ p. put_bytes 1 (addr % 4096) byte (bytes_of p)) (page_is range pages addr index page h))
    ∙ ap (λ b. put_byte addr b (memory_of range pages)) low

-- the marks with one of a page added
pub marks_of-add : (range : RamRange) (texts : List (Option (Box TextPage))) (addr index : ℕ) (entry new : Option (Box TextPage)) → IsInside range addr 1 → IsEntry range texts addr index entry
    → marked_in new ≡ (λ o. o == addr % 4096 || marked_in entry o) → marks_of range (set texts index new) ≡ (λ x. x == addr || marks_of range texts x)
marks_of-add range texts addr index entry new inside h more = λ i x. at x i
  where
    place : ℕ
    place = page_of range addr

    after : List (Option (Box TextPage))
    after = set texts index new

    goal : ℕ → Type 0
    goal x = marks_of range after x ≡ (x == addr || marks_of range texts x)

    -- a page's entry before and after
    before_is : slice_index_or texts place None ≡ entry
    before_is = entry_is range texts addr index entry h

    after_is : slice_index_or after place None ≡ new
    after_is = ap (λ q. slice_index_or after q None) (sym h.place) ∙ get_or-set_same texts index new None h.within

    kept : (x : ℕ) → (x == addr) ≡ false → marks_of range after x ≡ marks_of range texts x → goal x
    kept x apart e = e ∙ sym (ap (λ b. b || marks_of range texts x) apart)

    outside : (x : ℕ) → is_inside range x 1 ≡ false → goal x
    outside x out =
        ⊎_elim
        (λ same. absurd (cc (out, is_inside-true range x 1 (omega arith, omega arith))))
        (λ other. let apart : (x == addr) ≡ false = grind (arith, nat_tests) in
        kept x apart (marks_of-out range after x out ∙ sym (marks_of-out range texts x out)))
        (cases_eq x addr)

    other_page : (x : ℕ) → IsInside range x 1 → (x / 4096 ≢ addr / 4096) → goal x
    other_page x in' other =
        let there : page_of range x ≢ index = λ e. other (omega (arith, e, h.place)) in
        let apart : (x == addr) ≡ false = ⊎_elim (λ same. absurd (other (ap (λ q. q / 4096) same))) (λ ne. grind (arith, nat_tests)) (cases_eq x addr) in
        kept x apart (marks_of-in range after x in' ∙ ap (λ e. marked_in e (x % 4096)) (get_or-set_other texts index (page_of range x) new None there) ∙ sym (marks_of-in range texts x in'))

    same_page : (x : ℕ) → IsInside range x 1 → x / 4096 ≡ addr / 4096 → goal x
    same_page x in' e =
        let here : page_of range x ≡ place = ap (λ q. q - range.base / 4096) e in
        let test : (x % 4096 == addr % 4096) ≡ (x == addr) = grind (arith, nat_tests) in
        marks_of-in range after x in'
        ∙ ap (λ q. marked_in (slice_index_or after q None) (x % 4096)) here ∙ ap (λ t. marked_in t (x % 4096)) after_is ∙ ap (λ f. f (x % 4096)) more
        ∙ (λ i. test i || marked_in (sym before_is i) (x % 4096))
        ∙ ap (λ q. x == addr || marked_in (slice_index_or texts q None) (x % 4096)) (sym here)
        ∙ ap (λ b. x == addr || b) (sym (marks_of-in range texts x in'))

    at : (x : ℕ) → goal x
    at x = ⊎_elim (λ in'. ⊎_elim (same_page x in') (other_page x in') (cases_eq (x / 4096) (addr / 4096))) (outside x) (inside_or range x)

-- memory of zeros, and no marks
pub memory_of-zero : (range : RamRange) (pages : List (List ℕ)) → ((i offset : ℕ) → slice_index (slice_index_or pages i []) offset ≡ 0) → memory_of range pages ≡ (λ _. 0)
memory_of-zero range pages h = λ i x. at x i
  where
    at : (x : ℕ) → memory_of range pages x ≡ 0
    at x = ⊎_elim (λ in'. memory_of-in range pages x in' ∙ h (page_of range x) (x % 4096)) (memory_of-out range pages x) (inside_or range x)

pub marks_of-none : (range : RamRange) (texts : List (Option (Box TextPage))) → ((i : ℕ) → slice_index_or texts i None ≡ None) → marks_of range texts ≡ (λ _. false)
marks_of-none range texts h = λ i x. at x i
  where
    at : (x : ℕ) → marks_of range texts x ≡ false
    at x = ⊎_elim (λ in'. marks_of-in range texts x in' ∙ ap (λ e. marked_in e (x % 4096)) (h (page_of range x))) (marks_of-out range texts x) (inside_or range x)

-- the first bytes of a list
with_bytes-take : (addr : ℕ) (bytes : List ℕ) (i : ℕ) (memory : ℕ → ℕ) (x : ℕ) → i ≤ length bytes
    → with_bytes addr (take i bytes) memory x ≡ (if (nat_le addr x && nat_lt x (addr + i)) then slice_index bytes (x - addr) else memory x)
with_bytes-take addr bytes i memory x within =
    ap (λ n. if (nat_le addr x && nat_lt x (addr + n)) then slice_index (take i bytes) (x - addr) else memory x) long
    ∙ by_test (nat_le addr x && nat_lt x (addr + i)) refl
  where
    long : length (take i bytes) ≡ i
    long = omega (arith, length-take i bytes)

    by_test : (b : Bool) → (nat_le addr x && nat_lt x (addr + i)) ≡ b
        → (if (nat_le addr x && nat_lt x (addr + i)) then slice_index (take i bytes) (x - addr) else memory x) ≡ (if (nat_le addr x && nat_lt x (addr + i)) then slice_index bytes (x - addr) else memory x)
    by_test true e =
        let low : nat_le addr x ≡ true = (and_parts (nat_le addr x) (nat_lt x (addr + i)) e).0 in
        let high : nat_lt x (addr + i) ≡ true = (and_parts (nat_le addr x) (nat_lt x (addr + i)) e).1 in
        let above : addr ≤ x = grind (arith, nat_tests) in
        let below : x < addr + i = grind (arith, nat_tests) in
        ap (λ v. if (nat_le addr x && nat_lt x (addr + i)) then v else memory x) (get_or-take i bytes (x - addr) 0 (omega arith))
    by_test false e =
        ap (λ b. if b then slice_index (take i bytes) (x - addr) else memory x) e ∙ sym (ap (λ b. if b then slice_index bytes (x - addr) else memory x) e)

pub with_bytes-more : (addr : ℕ) (bytes : List ℕ) (i : ℕ) (memory : ℕ → ℕ) → i < length bytes
    → put_byte (addr + i) (get_or bytes i 0) (with_bytes addr (take i bytes) memory) ≡ with_bytes addr (take (i + 1) bytes) memory
with_bytes-more addr bytes i memory within = λ j x. (front x ∙ sym (with_bytes-take addr bytes (i + 1) memory x (omega arith))) j
  where
    here : (x : ℕ) → x ≡ addr + i → get_or bytes i 0 ≡ (if (nat_le addr x && nat_lt x (addr + (i + 1))) then slice_index bytes (x - addr) else memory x)
    here x e =
        let low : nat_le addr x ≡ true = grind (arith, nat_tests) in
        let high : nat_lt x (addr + (i + 1)) ≡ true = grind (arith, nat_tests) in
        ap (λ k. get_or bytes k 0) (omega arith) ∙ sym (ap (λ b. if b then slice_index bytes (x - addr) else memory x) (and_from (nat_le addr x) (nat_lt x (addr + (i + 1))) low high))

    apart : (x : ℕ) → (x ≡ addr + i → ⊥) → (nat_le addr x && nat_lt x (addr + i)) ≡ (nat_le addr x && nat_lt x (addr + (i + 1)))
    apart x ne = grind (arith, nat_tests)

    front : (x : ℕ) → put_byte (addr + i) (get_or bytes i 0) (with_bytes addr (take i bytes) memory) x ≡ (if (nat_le addr x && nat_lt x (addr + (i + 1))) then slice_index bytes (x - addr) else memory x)
    front x =
        ⊎_elim
        (λ same. let test : (x == addr + i) ≡ true = grind (arith, nat_tests) in
        ap (λ b. if b then get_or bytes i 0 else with_bytes addr (take i bytes) memory x) test ∙ here x same)
        (λ ne. let test : (x == addr + i) ≡ false = grind (arith, nat_tests) in
        ap (λ b. if b then get_or bytes i 0 else with_bytes addr (take i bytes) memory x) test
        ∙ with_bytes-take addr bytes i memory x (omega arith) ∙ ap (λ b. if b then slice_index bytes (x - addr) else memory x) (apart x ne))
        (cases_eq x (addr + i))

-- two segments that both hold an address aren't apart
both_hold : (a b : Segment) (x : ℕ) → AreApart a b → holds a x ≡ true → holds b x ≡ false
both_hold a b x apart first = grind (arith, nat_tests)

-- the segments apart from one that holds an address put nothing there
not_held : (s : Segment) (rest : List Segment) (x : ℕ) → ((k : ℕ) → k < length rest → AreApart s (slice_index_or rest k s)) → holds s x ≡ true → segments_byte rest x ≡ 0
not_held s [] x apart held = refl
not_held s (r ∷ rest) x apart held =
    ap (λ b. if b then slice_index r.bytes (x - r.addr) else segments_byte rest x) (both_hold s r x (apart 0 (omega arith)) held)
    ∙ not_held s rest x (λ k within. apart (suc k) (omega arith)) held

-- the bytes of a segment over those of the later ones
pub segments_byte-put : (s : Segment) (rest : List Segment) → length s.bytes ≤ s.size → ((k : ℕ) → k < length rest → AreApart s (slice_index_or rest k s))
    → with_bytes s.addr s.bytes (segments_byte rest) ≡ segments_byte (s ∷ rest)
segments_byte-put s rest filled apart = λ i x. by_test x (holds s x) refl i
  where
    value : ℕ → ℕ
    value x = slice_index s.bytes (x - s.addr)

    among : ℕ → Bool
    among x = nat_le s.addr x && nat_lt x (s.addr + length s.bytes)

    -- behind its bytes there is 0 already
    inside : (x : ℕ) → holds s x ≡ true → (b : Bool) → among x ≡ b → with_bytes s.addr s.bytes (segments_byte rest) x ≡ value x
    inside x held true e = ap (λ b. if b then value x else segments_byte rest x) e
    inside x held false e =
        let behind : length s.bytes ≤ x - s.addr = grind (arith, nat_tests) in
        ap (λ b. if b then value x else segments_byte rest x) e ∙ not_held s rest x apart held ∙ sym (get_or-eq_default s.bytes 0 behind)

    by_test : (x : ℕ) (b : Bool) → holds s x ≡ b → with_bytes s.addr s.bytes (segments_byte rest) x ≡ segments_byte (s ∷ rest) x
    by_test x true held = inside x held (among x) refl ∙ sym (ap (λ b. if b then value x else segments_byte rest x) held)
    by_test x false free =
        let none : among x ≡ false = grind (arith, nat_tests) in
        ap (λ b. if b then value x else segments_byte rest x) none ∙ sym (ap (λ b. if b then value x else segments_byte rest x) free)

-- so from the i-th segment on, over those behind it
pub segments_byte-drop : (segments : List Segment) (i : ℕ) (s : Segment) → i < length segments → s ≡ slice_index_or segments i s → length s.bytes ≤ s.size → AllPairs AreApart segments
    → with_bytes s.addr s.bytes (segments_byte (drop (suc i) segments)) ≡ segments_byte (drop i segments)
segments_byte-drop segments i s within there filled apart =
    segments_byte-put s (drop (suc i) segments) filled
    (λ k inside. let later : suc i + k < length segments = omega (arith, length-drop (suc i) segments) in
    subst (λ (a : Segment). AreApart a (slice_index_or (drop (suc i) segments) k s)) (sym there)
    (rw (get_or-drop (suc i) segments k s) (apart i (suc i + k) s (omega arith) later)))
    ∙ sym (ap segments_byte (drop-cons segments i s within ∙ ap (λ a. a ∷ drop (suc i) segments) (sym there)))

pub in_executable-drop : (segments : List Segment) (i : ℕ) (s : Segment) → i < length segments → s ≡ slice_index_or segments i s
    → with_segment s (in_executable (drop (suc i) segments)) ≡ in_executable (drop i segments)
in_executable-drop segments i s within there = sym (ap in_executable (drop-cons segments i s within ∙ ap (λ a. a ∷ drop (suc i) segments) (sym there)))

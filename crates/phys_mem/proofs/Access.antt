-- Accesses to memory that is kept as pages.
use Rattle.std.proofs.Common.{◌≡◌, ◌≢◌, ℕ, zero, suc, ◌+◌, ◌-◌, ◌*◌, ◌/◌, ◌%◌, ◌<◌, ◌≤◌, true, false, if◌then◌else◌, ◌⊎◌, List, [], length, set, slice_index, slice_index_or, add-zero, refl, ap, sym, ◌∙◌, arith, inl, inr, ⊎_elim, subst}
use Rattle.std.specs.Prelude.{◌==◌, Some}
use Rattle.std.proofs.lemmas.Bool.{cases_eq, cases_lt}
use Rattle.std.proofs.lemmas.Bool.Decides.{nat_tests}
use Rattle.std.proofs.lemmas.List.{get_or-set_same, get_or-set_other}
use Rattle.fsim_base.specs.declared.access.RamRange.{RamRange}
use Rattle.fsim_base.specs.declared.access.Width.{Width}
use Rattle.fsim_base.specs.declared.access.Width.TheVariants.{Byte, Half, Word}
use Rattle.fsim_base.specs.Memory.{put_byte, put_bytes, from_bytes}
use Rattle.fsim_base.specs.Range.{IsInside, is_inside}
use Rattle.fsim_base.specs.Width.{width_bytes}
use Rattle.phys_mem.specs.PageBytes.{bytes_of}
use Rattle.phys_mem.specs.Ram.{page_of, memory_of, loaded, stored}

-- an aligned access lies inside one page
pub in_page : (addr : ℕ) (width : Width) → addr % width_bytes width ≡ 0 → addr % 4096 + width_bytes width ≤ 4096
in_page addr Byte h = omega arith
in_page addr Half h = omega arith
in_page addr Word h = omega arith

-- the value of bytes is that of the same bytes elsewhere
pub from_bytes-same : (count a b : ℕ) (m n : ℕ → ℕ) → ((k : ℕ) → k < count → m (a + k) ≡ n (b + k)) → from_bytes count a m ≡ from_bytes count b n
from_bytes-same zero a b m n h = refl
from_bytes-same (suc count) a b m n h =
    let first : m a ≡ n b = ap m (omega arith) ∙ h 0 (omega arith) ∙ ap n (omega arith) in
    let rest = from_bytes-same count (a + 1) (b + 1) m n (λ k below. ap m (omega arith) ∙ h (k + 1) (omega arith) ∙ ap n (omega arith)) in
    λ i. first i + 256 * rest i

-- bytes put into memory leave the others
put_bytes-outside : (count a value : ℕ) (m : ℕ → ℕ) (x : ℕ) → (x < a) ⊎ (a + count ≤ x) → put_bytes count a value m x ≡ m x
put_bytes-outside zero a value m x h = refl
put_bytes-outside (suc count) a value m x h =
    let apart : (x == a) ≡ false = ⊎_elim (λ low. grind (arith, nat_tests)) (λ high. grind (arith, nat_tests)) h in
    put_bytes-outside count (a + 1) (value / 256) (put_byte a (value % 256) m) x (⊎_elim (λ low. inl (omega arith)) (λ high. inr (omega arith)) h)
    ∙ ap (λ b. if b then value % 256 else m x) apart

-- bytes put into memory are those put elsewhere
put_bytes-same : (count a b value : ℕ) (m n : ℕ → ℕ) (x y : ℕ) → x + b ≡ y + a → m x ≡ n y → put_bytes count a value m x ≡ put_bytes count b value n y
put_bytes-same zero a b value m n x y shift same = same
put_bytes-same (suc count) a b value m n x y shift same =
    let test : (x == a) ≡ (y == b) = grind (arith, nat_tests) in
    put_bytes-same count (a + 1) (b + 1) (value / 256) (put_byte a (value % 256) m) (put_byte b (value % 256) n) x y (omega arith)
    (λ i. if test i then value % 256 else same i)

-- the test of a place inside RAM
pub is_inside-true : (range : RamRange) (addr count : ℕ) → IsInside range addr count → is_inside range addr count ≡ true
is_inside-true range addr count h = grind (arith, nat_tests)

-- an address is one of RAM's or not
pub inside_or : (range : RamRange) (x : ℕ) → IsInside range x 1 ⊎ (is_inside range x 1 ≡ false)
inside_or range x =
    ⊎_elim
    (λ below. inr (grind (arith, nat_tests)))
    (λ above. ⊎_elim (λ behind. inr (grind (arith, nat_tests))) (λ before. inl (above, omega arith)) (cases_lt (range.base + range.size) (x + 1)))
    (cases_lt x range.base)

-- memory inside RAM, and outside
pub memory_of-in : (range : RamRange) (pages : List (List ℕ)) (x : ℕ) → IsInside range x 1 → memory_of range pages x ≡ bytes_of (slice_index_or pages (page_of range x) []) (x % 4096)
unfolding memory_of
memory_of-in range pages x inside = rw (is_inside-true range x 1 inside) refl

pub memory_of-out : (range : RamRange) (pages : List (List ℕ)) (x : ℕ) → is_inside range x 1 ≡ false → memory_of range pages x ≡ 0
unfolding memory_of
memory_of-out range pages x outside = rw outside refl

-- the bytes of an access stand side by side in its page
memory_of-page : (range : RamRange) (pages : List (List ℕ)) (addr count k : ℕ) → IsInside range addr count → addr % 4096 + count ≤ 4096 → k < count
    → memory_of range pages (addr + k) ≡ bytes_of (slice_index_or pages (page_of range addr) []) (addr % 4096 + k)
memory_of-page range pages addr count k inside fits below =
    let page : (addr + k) / 4096 ≡ addr / 4096 = omega arith in
    let offset : (addr + k) % 4096 ≡ addr % 4096 + k = omega arith in
    memory_of-in range pages (addr + k) (omega arith, omega arith)
    ∙ (λ i. bytes_of (slice_index_or pages (page i - range.base / 4096) []) (offset i))

-- so the value in the page is that in memory
pub value_in_page : (range : RamRange) (pages : List (List ℕ)) (addr : ℕ) (width : Width) → addr % width_bytes width ≡ 0 → IsInside range addr (width_bytes width)
    → Some (from_bytes (width_bytes width) (addr % 4096) (bytes_of (slice_index_or pages (page_of range addr) []))) ≡ loaded range (memory_of range pages) addr width
value_in_page range pages addr width aligned inside =
    let count = width_bytes width in
    let same = from_bytes-same count (addr % 4096) addr (bytes_of (slice_index_or pages (page_of range addr) [])) (memory_of range pages)
    (λ k below. sym (memory_of-page range pages addr count k inside (in_page addr width aligned) below)) in
    rw (is_inside-true range addr count inside) (ap Some same)

-- memory after bytes were put into one of its pages
pub memory_of-set : (range : RamRange) (pages : List (List ℕ)) (addr count value : ℕ) (page : List ℕ) → page_of range addr < length pages → 0 < count → IsInside range addr count → addr % 4096 + count ≤ 4096
    → bytes_of page ≡ put_bytes count (addr % 4096) value (bytes_of (slice_index_or pages (page_of range addr) []))
    → memory_of range (set pages (page_of range addr) page) ≡ put_bytes count addr value (memory_of range pages)
memory_of-set range pages addr count value page within some inside fits same = λ i x. at x i
  where
    place : ℕ
    place = page_of range addr

    new : List (List ℕ)
    new = set pages place page

    -- an address outside the access
    kept : (x : ℕ) → memory_of range new x ≡ memory_of range pages x → (x < addr) ⊎ (addr + count ≤ x) → memory_of range new x ≡ put_bytes count addr value (memory_of range pages) x
    kept x e apart = e ∙ sym (put_bytes-outside count addr value (memory_of range pages) x apart)

    -- an address of another page is outside the access
    apart_from : (x : ℕ) → (x / 4096 ≢ addr / 4096) → (x < addr) ⊎ (addr + count ≤ x)
    apart_from x other = ⊎_elim (λ below. inl below) (λ above. ⊎_elim (λ here. absurd (other (omega arith))) (λ behind. inr behind) (cases_lt x (addr + count))) (cases_lt x addr)

    same_page : (x : ℕ) → IsInside range x 1 → x / 4096 ≡ addr / 4096 → memory_of range new x ≡ put_bytes count addr value (memory_of range pages) x
    same_page x in' e =
        let here : page_of range x ≡ place = ap (λ q. q - range.base / 4096) e in
        let written : slice_index_or new (page_of range x) [] ≡ page = ap (λ q. slice_index_or new q []) here ∙ get_or-set_same pages place page [] within in
        let old = memory_of-in range pages x in' ∙ ap (λ q. bytes_of (slice_index_or pages q []) (x % 4096)) here in
        memory_of-in range new x in' ∙ ap (λ p. bytes_of p (x % 4096)) written ∙ ap (λ f. f (x % 4096)) same
        ∙ put_bytes-same count (addr % 4096) addr value (bytes_of (slice_index_or pages place [])) (memory_of range pages) (x % 4096) x (omega arith) (sym old)

    other_page : (x : ℕ) → IsInside range x 1 → (x / 4096 ≢ addr / 4096) → memory_of range new x ≡ put_bytes count addr value (memory_of range pages) x
    other_page x in' other =
        let there : page_of range x ≢ place = λ e. other (omega arith) in
        let unchanged = ap (λ p. bytes_of p (x % 4096)) (get_or-set_other pages place (page_of range x) page [] there) in
        kept x (memory_of-in range new x in' ∙ unchanged ∙ sym (memory_of-in range pages x in')) (apart_from x other)

    outside : (x : ℕ) → is_inside range x 1 ≡ false → memory_of range new x ≡ put_bytes count addr value (memory_of range pages) x
    outside x out =
        kept x (memory_of-out range new x out ∙ sym (memory_of-out range pages x out))
        (⊎_elim (λ below. inl below) (λ above. ⊎_elim (λ here. absurd (cc (out, is_inside-true range x 1 (omega arith, omega arith)))) (λ behind. inr behind) (cases_lt x (addr + count))) (cases_lt x addr))

    at : (x : ℕ) → memory_of range new x ≡ put_bytes count addr value (memory_of range pages) x
    at x = ⊎_elim (λ in'. ⊎_elim (same_page x in') (other_page x in') (cases_eq (x / 4096) (addr / 4096))) (outside x) (inside_or range x)

-- so memory after an access that stores
pub stored_in_page : (range : RamRange) (pages : List (List ℕ)) (addr : ℕ) (width : Width) (value : ℕ) (page : List ℕ) → page_of range addr < length pages → addr % width_bytes width ≡ 0 → IsInside range addr (width_bytes width)
    → bytes_of page ≡ put_bytes (width_bytes width) (addr % 4096) value (bytes_of (slice_index_or pages (page_of range addr) []))
    → memory_of range (set pages (page_of range addr) page) ≡ stored range (memory_of range pages) addr width value
stored_in_page range pages addr width value page within aligned inside same =
    rw (is_inside-true range addr (width_bytes width) inside) (memory_of-set range pages addr (width_bytes width) value page within (some_bytes width) inside (in_page addr width aligned) same)
  where
    some_bytes : (width : Width) → 0 < width_bytes width
    some_bytes Byte = omega arith
    some_bytes Half = omega arith
    some_bytes Word = omega arith

-- a byte put below others may be put after them
put_byte-put_bytes : (count a b byte value : ℕ) (m : ℕ → ℕ) → a < b → put_byte a byte (put_bytes count b value m) ≡ put_bytes count b value (put_byte a byte m)
put_byte-put_bytes zero a b byte value m below = refl
put_byte-put_bytes (suc count) a b byte value m below =
    let swap : (x : ℕ) → put_byte a byte (put_byte b (value % 256) m) x ≡ put_byte b (value % 256) (put_byte a byte m) x = λ x. grind (arith, nat_tests) in
    put_byte-put_bytes count a (b + 1) byte (value / 256) (put_byte b (value % 256) m) (omega arith)
    ∙ ap (put_bytes count (b + 1) (value / 256)) (λ i x. swap x i)

-- a byte put back
put_byte-back : (a byte : ℕ) (m : ℕ → ℕ) → put_byte a (m a) (put_byte a byte m) ≡ m
put_byte-back a byte m =
    let same : (x : ℕ) → put_byte a (m a) (put_byte a byte m) x ≡ m x = λ x. grind (arith, nat_tests) in
    λ i x. same x i

-- bytes put back restore memory
pub put_bytes-back : (count addr value : ℕ) (m : ℕ → ℕ) → ((k : ℕ) → k < count → m (addr + k) < 256) → put_bytes count addr (from_bytes count addr m) (put_bytes count addr value m) ≡ m
put_bytes-back zero addr value m fits = refl
put_bytes-back (suc count) addr value m fits =
    let rest = from_bytes count (addr + 1) m in
    let first : m addr < 256 = subst (λ (x : ℕ). m x < 256) (add-zero addr) (fits 0 (omega arith)) in
    let low : (m addr + 256 * rest) % 256 ≡ m addr = omega arith in
    let high : (m addr + 256 * rest) / 256 ≡ rest = omega arith in
    let back = put_bytes-back count (addr + 1) (value / 256) m (λ k below. subst (λ (x : ℕ). m x < 256) (omega arith) (fits (k + 1) (omega arith))) in
    let under = put_byte-put_bytes count addr (addr + 1) (m addr) (value / 256) (put_byte addr (value % 256) m) (omega arith)
    ∙ ap (put_bytes count (addr + 1) (value / 256)) (put_byte-back addr (value % 256) m) in
    (λ i. put_bytes count (addr + 1) (high i) (put_byte addr (low i) (put_bytes count (addr + 1) (value / 256) (put_byte addr (value % 256) m))))
    ∙ ap (put_bytes count (addr + 1) rest) under ∙ back

-- storing the value that was there restores memory
pub stored_back : (range : RamRange) (pages : List (List ℕ)) (addr : ℕ) (width : Width) (value : ℕ) → addr % width_bytes width ≡ 0 → IsInside range addr (width_bytes width)
    → ((i : ℕ) → slice_index (slice_index_or pages (page_of range addr) []) i < 256)
    → stored range (stored range (memory_of range pages) addr width value) addr width (from_bytes (width_bytes width) addr (memory_of range pages)) ≡ memory_of range pages
stored_back range pages addr width value aligned inside bytes =
    let count = width_bytes width in
    rw (is_inside-true range addr count inside)
    (put_bytes-back count addr value (memory_of range pages) (λ k below. rw (memory_of-page range pages addr count k inside (in_page addr width aligned) below) (bytes (addr % 4096 + k))))

-- a page is that of an address
pub record IsPage (range : RamRange) (pages : List (List ℕ)) (addr index : ℕ) (page : List ℕ) : Type 0 where
  pub place : index ≡ page_of range addr
  pub within : index < length pages
  pub there : page ≡ slice_index_or pages index []

pub page_is : (range : RamRange) (pages : List (List ℕ)) (addr index : ℕ) (page : List ℕ) → IsPage range pages addr index page → page ≡ slice_index_or pages (page_of range addr) []
page_is range pages addr index page h = h.there ∙ ap (λ i. slice_index_or pages i []) h.place

-- what an access inside RAM loads
pub loads : (range : RamRange) (pages : List (List ℕ)) (addr : ℕ) (width : Width) (index : ℕ) (page : List ℕ) (value : ℕ) → addr % width_bytes width ≡ 0 → IsInside range addr (width_bytes width) → IsPage range pages addr index page
    → value ≡ from_bytes (width_bytes width) (addr % 4096) (bytes_of page) → Some value ≡ loaded range (memory_of range pages) addr width
loads range pages addr width index page value aligned inside h e =
    ap Some (e ∙ ap (λ p. from_bytes (width_bytes width) (addr % 4096) (bytes_of p)) (page_is range pages addr index page h)) ∙ value_in_page range pages addr width aligned inside

-- what one stores
pub stores : (range : RamRange) (pages : List (List ℕ)) (addr : ℕ) (width : Width) (index : ℕ) (page new : List ℕ) (value : ℕ) → addr % width_bytes width ≡ 0 → IsInside range addr (width_bytes width) → IsPage range pages addr index page
    → bytes_of new ≡ put_bytes (width_bytes width) (addr % 4096) value (bytes_of page) → memory_of range (set pages index new) ≡ stored range (memory_of range pages) addr width value
stores range pages addr width index page new value aligned inside h e =
    let within : page_of range addr < length pages = omega (arith, h.place, h.within) in
    ap (λ i. memory_of range (set pages i new)) h.place
    ∙ stored_in_page range pages addr width value new within aligned inside (e ∙ ap (λ p. put_bytes (width_bytes width) (addr % 4096) value (bytes_of p)) (page_is range pages addr index page h))

-- and that storing what was there before restores memory
pub restores : (range : RamRange) (pages : List (List ℕ)) (addr : ℕ) (width : Width) (index : ℕ) (page new : List ℕ) (value old : ℕ) → addr % width_bytes width ≡ 0 → IsInside range addr (width_bytes width) → IsPage range pages addr index page
    → bytes_of new ≡ put_bytes (width_bytes width) (addr % 4096) value (bytes_of page) → old ≡ from_bytes (width_bytes width) (addr % 4096) (bytes_of page) → ((i : ℕ) → slice_index page i < 256)
    → stored range (memory_of range (set pages index new)) addr width old ≡ memory_of range pages
restores range pages addr width index page new value old aligned inside h e o bytes =
    let there = page_is range pages addr index page h in
    let count = width_bytes width in
    let was : old ≡ from_bytes count addr (memory_of range pages) =
    o ∙ ap (λ p. from_bytes count (addr % 4096) (bytes_of p)) there
    ∙ from_bytes-same count (addr % 4096) addr (bytes_of (slice_index_or pages (page_of range addr) [])) (memory_of range pages) (λ k below. sym (memory_of-page range pages addr count k inside (in_page addr width aligned) below)) in
    (λ i. stored range (stores range pages addr width index page new value aligned inside h e i) addr width (was i))
    ∙ stored_back range pages addr width value aligned inside (λ i. subst (λ (p : List ℕ). slice_index p i < 256) there (bytes i))

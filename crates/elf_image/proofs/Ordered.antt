-- The test of soundness, and what it says.
use Rattle.std.proofs.Common.{◌≡◌, ℕ, zero, suc, ◌+◌, ◌<◌, Bool, true, false, ◌&&◌, List, [], ◌∷◌, length, get_or, drop, refl, sym, ◌∙◌, arith, add-one}
use Rattle.std.specs.Prelude.{AllPairs, ◌↔◌, IsTrue, nat_le}
use Rattle.std.proofs.Math.Seq.{drop-cons}
use Rattle.std.proofs.lemmas.Bool.{and_from, and_parts}
use Rattle.std.proofs.lemmas.Bool.Decides.{nat_tests}
use Rattle.std.proofs.lemmas.List.Kept.{AllPairs-cons}
use Rattle.std.proofs.lemmas.List.Sums.{AllPass-from_list_all, list_all-from_AllPass}
use Rattle.std.specs.List.{list_all}
use Rattle.fsim_base.specs.declared.access.RamRange.{RamRange}
use Rattle.elf_image.specs.declared.segment.Segment.{Segment}
use Rattle.elf_image.specs.declared.image.Image.{Image}
use Rattle.elf_image.specs.Image.{share_a_byte}
use Rattle.elf_image.specs.Sound.{IsPlaced, IsSound, is_placed, is_before, are_ordered, is_sound}

-- the i-th segment comes before the rest, and the rest are in order
pub are_ordered-drop : (segments : List Segment) (i : ℕ) (d : Segment) → i < length segments
    → are_ordered (drop i segments) ≡ (list_all (is_before (get_or segments i d)) (drop (i + 1) segments) && are_ordered (drop (i + 1) segments))
are_ordered-drop segments i d h = rw (add-one, drop-cons segments i d) refl

pub ruleset ordered_steps = (are_ordered-drop)

-- what the test of one segment says
IsPlaced-from_test : (ram : RamRange) (s : Segment) → is_placed ram s ≡ true → IsPlaced ram s
IsPlaced-from_test ram s h = record { numbered = grind (arith, nat_tests); taken = grind (arith, nat_tests); filled = grind (arith, nat_tests); inside = (grind (arith, nat_tests), grind (arith, nat_tests)) }

test-from_IsPlaced : (ram : RamRange) (s : Segment) → IsPlaced ram s → is_placed ram s ≡ true
test-from_IsPlaced ram s h = grind (arith, nat_tests)

-- what the test of all pairs says
AllPairs-from_ordered : (segments : List Segment) → are_ordered segments ≡ true → AllPairs (λ a b. is_before a b ≡ true) segments
AllPairs-from_ordered [] h = λ i j d lt within. absurd (omega arith)
AllPairs-from_ordered (s ∷ rest) h =
    let parts = and_parts (list_all (is_before s) rest) (are_ordered rest) h in
    AllPairs-cons (λ a b. is_before a b ≡ true) s rest (AllPass-from_list_all (is_before s) rest parts.0) (AllPairs-from_ordered rest parts.1)

ordered-from_AllPairs : (segments : List Segment) → AllPairs (λ a b. is_before a b ≡ true) segments → are_ordered segments ≡ true
ordered-from_AllPairs [] h = refl
ordered-from_AllPairs (s ∷ rest) h =
    and_from (list_all (is_before s) rest) (are_ordered rest)
    (list_all-from_AllPass (is_before s) rest (λ k d within. h zero (suc k) d (omega arith) (omega arith)))
    (ordered-from_AllPairs rest (λ i j d lt within. h (suc i) (suc j) d (omega arith) (omega arith)))

-- what the test of a pair says
before_rises : (a b : Segment) → is_before a b ≡ true → a.index < b.index
before_rises a b h = grind (arith, nat_tests)

before_apart : (a b : Segment) → is_before a b ≡ true → share_a_byte a.addr a.size b.addr b.size ≡ false
before_apart a b h = grind (arith, nat_tests)

before_if : (a b : Segment) → a.index < b.index → share_a_byte a.addr a.size b.addr b.size ≡ false → is_before a b ≡ true
before_if a b rising apart = grind (arith, nat_tests)

-- an image passes the test exactly where it is sound
pub IsSound-from_test : (image : Image) (ram : RamRange) → IsTrue (is_sound image ram) → IsSound image ram
unfolding is_sound
IsSound-from_test image ram h =
    let segments = image.segments in
    let parts = and_parts (nat_le (length segments) 64 && list_all (is_placed ram) segments) (are_ordered segments) h in
    let front = and_parts (nat_le (length segments) 64) (list_all (is_placed ram) segments) parts.0 in
    let before = AllPairs-from_ordered segments parts.1 in
    let placed = AllPass-from_list_all (is_placed ram) segments front.1 in
    record {
      few = grind (arith, nat_tests, front.0);
      placed = λ k d within. IsPlaced-from_test ram (get_or segments k d) (placed k d within);
      rising = λ i j d lt within. before_rises (get_or segments i d) (get_or segments j d) (before i j d lt within);
      apart = λ i j d lt within. before_apart (get_or segments i d) (get_or segments j d) (before i j d lt within);
    }

pub test-from_IsSound : (image : Image) (ram : RamRange) → IsSound image ram → IsTrue (is_sound image ram)
unfolding is_sound
test-from_IsSound image ram h =
    let segments = image.segments in
    and_from (nat_le (length segments) 64 && list_all (is_placed ram) segments) (are_ordered segments)
    (and_from (nat_le (length segments) 64) (list_all (is_placed ram) segments) (grind (arith, nat_tests, h.few))
    (list_all-from_AllPass (is_placed ram) segments (λ k d within. test-from_IsPlaced ram (get_or segments k d) (h.placed k d within))))
    (ordered-from_AllPairs segments (λ i j d lt within. before_if (get_or segments i d) (get_or segments j d) (h.rising i j d lt within) (h.apart i j d lt within)))

-- a result that is the test's is true exactly where the image is sound
pub sound_says : (image : Image) (ram : RamRange) (result : Bool) → result ≡ is_sound image ram → IsTrue result ↔ IsSound image ram
sound_says image ram result e = (λ h. IsSound-from_test image ram (sym e ∙ h), λ h. e ∙ test-from_IsSound image ram h)

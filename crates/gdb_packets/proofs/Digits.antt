-- Digits as they are written.
use Rattle.std.proofs.Common.{◌≡◌, ℕ, zero, suc, ◌+◌, ◌/◌, ◌%◌, ◌^◌, ◌<◌, ◌≤◌, ◌==◌, ◌&&◌, inl, inr, Bool, true, false, if◌then◌else◌, List, [], ◌∷◌, ◌++◌, length, length-append, take, drop, get_or, slice_index, sum, refl, sym, ap, ◌∙◌, arith, append_assoc}
use Rattle.std.proofs.lemmas.Bool.{and_parts, cases_lt, eqb-true}
use Rattle.std.proofs.lemmas.Fmt.{hex_one_digit}
use Rattle.std.proofs.lemmas.Grind.{common_steps}
use Rattle.std.proofs.lemmas.List.{take_more}
use Rattle.std.proofs.Math.Nat.{pow-suc}
use Rattle.std.specs.Fmt.{digit_glyph, digits, digits_onto}
use Rattle.hex.specs.Hex.{encode_lower, encode_with, lower_digits}
use Rattle.gdb_packets.specs.Frame.{checksum, frame}

-- the two tables of digits are one
abbrev same_digit : ℕ → Bool
same_digit d = digit_glyph false d == slice_index lower_digits d

abbrev all_same : ℕ → Bool
all_same zero = true
all_same (suc n) = same_digit n && all_same n

all_same-at : (n d : ℕ) → all_same n ≡ true → d < n → same_digit d ≡ true
all_same-at zero d all lt = absurd (omega arith)
all_same-at (suc n) d all lt =
    let parts = and_parts (same_digit n) (all_same n) all in
    elim (cases_lt d n) [
      | inl below ↦ all_same-at n d parts.1 below
      | inr top ↦ let e : d ≡ n = omega arith in rw e parts.0
    ]

pub glyph-lower : (d : ℕ) → d < 16 → digit_glyph false d ≡ slice_index lower_digits d
glyph-lower d lt = eqb-true (digit_glyph false d) (slice_index lower_digits d) (all_same-at 16 d refl lt)

-- digits in front of others
onto-append : (k n : ℕ) (acc : List ℕ) → digits_onto k 16 false n acc ≡ digits_onto k 16 false n [] ++ acc
onto-append zero n acc = refl
onto-append (suc k) n acc = grind (arith, append_assoc, onto-append k (n / 16) (digit_glyph false (n % 16) ∷ acc), onto-append k (n / 16) (digit_glyph false (n % 16) ∷ []))

-- a digit in front of what was written, if more follow or none
abbrev glyph : ℕ → ℕ
glyph n = digit_glyph false (n % 16)

abbrev onto : ℕ → List ℕ → List ℕ → List ℕ
onto n acc more = if n / 16 == 0 then glyph n ∷ acc else more

-- room for more digits than there are says no more
onto-fuel : (k n : ℕ) (acc : List ℕ) → n < 16 ^ suc k → digits_onto (suc (suc k)) 16 false n acc ≡ digits_onto (suc k) 16 false n acc
onto-fuel zero n acc small =
    let test : (n / 16 == 0) ≡ true = grind (arith, common_steps, small) in
    rw test refl
onto-fuel (suc k) n acc small =
    let power = pow-suc 16 (suc k) in
    let smaller : n / 16 < 16 ^ suc k = omega (arith, small, power) in
    ap (onto n acc) (onto-fuel k (n / 16) (glyph n ∷ acc) smaller)

-- the first digits, and the last one
onto-more : (k n : ℕ) → 16 ≤ n → n / 16 < 16 ^ suc k → digits_onto (suc (suc k)) 16 false n [] ≡ digits_onto (suc (suc k)) 16 false (n / 16) [] ++ glyph n ∷ []
onto-more k n large small =
    let test : (n / 16 == 0) ≡ false = grind (arith, common_steps, large) in
    ap (λ (b : Bool). if b then glyph n ∷ [] else digits_onto (suc k) 16 false (n / 16) (glyph n ∷ [])) test
    ∙ onto-append (suc k) (n / 16) (glyph n ∷ [])
    ∙ ap (λ (front : List ℕ). front ++ glyph n ∷ []) (sym (onto-fuel k (n / 16) [] small))

either : (len m : ℕ) (one more : List ℕ) → length one ≤ suc m + len → length more ≤ suc m + len → (b : Bool) → length (if b then one else more) ≤ suc m + len
either len m one more first second true = first
either len m one more first second false = second

-- no more digits than that
length-onto : (m k n : ℕ) (acc : List ℕ) → n < 16 ^ suc m → length (digits_onto k 16 false n acc) ≤ suc m + length acc
length-onto m zero n acc small = omega arith
length-onto zero (suc k) n acc small =
    let test : (n / 16 == 0) ≡ true = grind (arith, common_steps, small) in
    rw test (omega arith)
length-onto (suc m) (suc k) n acc small =
    let power = pow-suc 16 (suc m) in
    let smaller : n / 16 < 16 ^ suc m = omega (arith, small, power) in
    let deeper : length (digits_onto k 16 false (n / 16) (glyph n ∷ acc)) ≤ suc m + length (glyph n ∷ acc) = length-onto m k (n / 16) (glyph n ∷ acc) smaller in
    let most : (b : Bool) → length (if b then glyph n ∷ acc else digits_onto k 16 false (n / 16) (glyph n ∷ acc)) ≤ suc (suc m) + length acc = either (length acc) (suc m) (glyph n ∷ acc) (digits_onto k 16 false (n / 16) (glyph n ∷ acc)) (omega arith) (omega (arith, deeper)) in
    most (n / 16 == 0)

pub digits-one : (n : ℕ) → n < 16 → digits 16 false n ≡ digit_glyph false n ∷ []
digits-one n small = hex_one_digit false n small

pub digits-more : (n : ℕ) → 16 ≤ n → n < 2 ^ 64 → digits 16 false n ≡ digits 16 false (n / 16) ++ digit_glyph false (n % 16) ∷ []
unfolding digits
digits-more n large small =
    let power : 16 ^ 63 ≡ 2 ^ 252 = refl in
    onto-more 62 n large (omega (arith, small, power))

pub length-digits : (n : ℕ) → n < 2 ^ 64 → length (digits 16 false n) ≤ 16
unfolding digits
length-digits n small =
    let power : 16 ^ 16 ≡ 2 ^ 64 = refl in
    let most = length-onto 15 64 n [] (omega (arith, small, power)) in
    omega (arith, most)

pub length-more : (n : ℕ) → 16 ≤ n → n < 2 ^ 64 → length (digits 16 false n) ≡ length (digits 16 false (n / 16)) + 1
length-more n large small =
    let parts = length-append (digits 16 false (n / 16)) (digit_glyph false (n % 16) ∷ []) in
    ap length (digits-more n large small) ∙ parts

-- the last digit after a text and the other digits
pub written-more : (text : List ℕ) (n digit : ℕ) → 16 ≤ n → n < 2 ^ 64 → digit ≡ digit_glyph false (n % 16) → (text ++ digits 16 false (n / 16)) ++ digit ∷ [] ≡ text ++ digits 16 false n
written-more text n digit large small is =
    append_assoc text (digits 16 false (n / 16)) (digit ∷ [])
    ∙ ap (λ (d : ℕ). text ++ (digits 16 false (n / 16) ++ d ∷ [])) is ∙ ap (λ (all : List ℕ). text ++ all) (sym (digits-more n large small))

pub written-one : (text : List ℕ) (n digit : ℕ) → n < 16 → digit ≡ digit_glyph false (n % 16) → text ++ digit ∷ [] ≡ text ++ digits 16 false n
written-one text n digit small is =
    let same : n % 16 ≡ n = omega (arith, small) in
    ap (λ (d : ℕ). text ++ d ∷ []) (is ∙ ap (digit_glyph false) same) ∙ ap (λ (all : List ℕ). text ++ all) (sym (digits-one n small))

-- bytes in digits, one by one
pub encode-append : (front back : List ℕ) → encode_lower (front ++ back) ≡ encode_lower front ++ encode_lower back
unfolding encode_with
encode-append [] back = refl
encode-append (byte ∷ front) back = ap (λ (rest : List ℕ). slice_index lower_digits (byte / 16) ∷ slice_index lower_digits (byte % 16) ∷ rest) (encode-append front back)

pub encode-byte : (byte : ℕ) → encode_lower (byte ∷ []) ≡ slice_index lower_digits (byte / 16) ∷ slice_index lower_digits (byte % 16) ∷ []
unfolding encode_with
encode-byte byte = refl

pub encode-more : (bytes : List ℕ) (place byte : ℕ) → place < length bytes → byte ≡ get_or bytes place 0 → encode_lower (take place bytes) ++ encode_lower (byte ∷ []) ≡ encode_lower (take (place + 1) bytes)
encode-more bytes place byte within is =
    sym (encode-append (take place bytes) (byte ∷ [])) ∙ ap (λ (b : ℕ). encode_lower (take place bytes ++ b ∷ [])) is
    ∙ ap encode_lower (sym (take_more bytes place 0 within))

-- an open frame, closed
pub closed : (text content : List ℕ) (sum high low : ℕ) → text ≡ 36 ∷ drop 1 text → drop 1 text ≡ content → sum ≡ checksum content
    → high ≡ slice_index lower_digits (sum / 16) → low ≡ slice_index lower_digits (sum % 16)
    → ((text ++ 35 ∷ []) ++ high ∷ []) ++ low ∷ [] ≡ frame content
closed text content sum high low first is sum_is high_is low_is =
    let whole : text ≡ 36 ∷ content = first ∙ ap (λ (rest : List ℕ). 36 ∷ rest) is in
    let digits_are : encode_lower (checksum content ∷ []) ≡ high ∷ low ∷ [] = encode-byte (checksum content) ∙ rw (high_is, low_is, sum_is) refl in
    rw (whole, digits_are) (simp append_assoc)

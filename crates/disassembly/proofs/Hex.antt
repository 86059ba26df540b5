-- Hexadecimal digits, the last one split off.
use Rattle.std.proofs.Common.{◌≡◌, refl, sym, ap, ◌∙◌, ℕ, zero, suc, ◌+◌, ◌-◌, ◌/◌, ◌%◌, ◌^◌, ◌≤◌, ◌<◌, ◌⊎◌, inl, inr, cond, false, List, [], ◌∷◌, ◌++◌, append_assoc, length, length-append, replicate, ⊎_elim, eq-eqb, ne_eqb, arith}
use Rattle.std.proofs.lemmas.List.{replicate_more}
use Rattle.std.specs.Fmt.{digit_glyph, digits_onto, digits}
use Rattle.std.proofs.lemmas.Bool.{cases_lt}
use Rattle.disassembly.specs.Number.{hex}

abbrev onto : ℕ → ℕ → List ℕ → List ℕ
onto k n acc = digits_onto k 16 false n acc

abbrev last : ℕ → ℕ
last n = digit_glyph false (n % 16)

onto_last : (k n : ℕ) (acc : List ℕ) → n < 16 → onto (suc k) n acc ≡ last n ∷ acc
onto_last k n acc h = ap (λ t. cond t (last n ∷ acc) (onto k (n / 16) (last n ∷ acc))) (eq-eqb (n / 16) 0 (omega arith))

onto_next : (k n : ℕ) (acc : List ℕ) → 16 ≤ n → onto (suc k) n acc ≡ onto k (n / 16) (last n ∷ acc)
onto_next k n acc h = ap (λ t. cond t (last n ∷ acc) (onto k (n / 16) (last n ∷ acc))) (ne_eqb (n / 16) 0 (λ e. omega arith))

onto-append : (k n : ℕ) (acc : List ℕ) → onto k n acc ≡ onto k n [] ++ acc
onto-append zero n acc = refl
onto-append (suc k) n acc = ⊎_elim
    (λ l. onto_last k n acc l ∙ ap (λ x. x ++ acc) (sym (onto_last k n [] l)))
    (λ l. onto_next k n acc l ∙ onto-append k (n / 16) (last n ∷ acc) ∙ sym (append_assoc (onto k (n / 16) []) (last n ∷ []) acc) ∙ ap (λ x. x ++ acc) (sym (onto_next k n [] l ∙ onto-append k (n / 16) (last n ∷ []))))
    (cases_lt n 16)

-- one step more changes nothing if the number has no digit left for it
onto_enough : (k n : ℕ) (acc : List ℕ) → n < 16 ^ suc k → onto (suc (suc k)) n acc ≡ onto (suc k) n acc
onto_enough zero n acc h = onto_last 1 n acc (omega arith) ∙ sym (onto_last 0 n acc (omega arith))
onto_enough (suc k) n acc h = ⊎_elim
    (λ l. onto_last (suc (suc k)) n acc l ∙ sym (onto_last (suc k) n acc l))
    (λ l. onto_next (suc (suc k)) n acc l ∙ onto_enough k (n / 16) (last n ∷ acc) (omega arith) ∙ sym (onto_next (suc k) n acc l))
    (cases_lt n 16)

digits_last : (n : ℕ) → n < 16 → digits 16 false n ≡ last n ∷ []
unfolding digits
digits_last n h = onto_last 63 n [] h

digits_next : (n : ℕ) → 16 ≤ n → n < 2 ^ 32 → digits 16 false n ≡ digits 16 false (n / 16) ++ last n ∷ []
unfolding digits
digits_next n h small =
    onto_next 63 n [] h ∙ onto-append 63 (n / 16) (last n ∷ [])
    ∙ ap (λ x. x ++ last n ∷ []) (sym (onto_enough 62 (n / 16) [] (omega arith)))

-- a number of one digit, with no zero before it
pub hex_last : (width n : ℕ) → n < 16 → width ≤ 1 → hex width n ≡ digit_glyph false (n % 16) ∷ []
unfolding hex
hex_last width n h narrow = rw (digits_last n h) (rw none refl)
  where
    none : width - 1 ≡ 0
    none = omega arith

zeros_more : (k : ℕ) (digits_after : List ℕ) → 0 < k → replicate k 48 ++ digits_after ≡ (replicate (k - 1) 48 ++ 48 ∷ []) ++ digits_after
zeros_more zero digits_after h = absurd (omega arith)
zeros_more (suc k) digits_after h =
    let before : suc k - 1 ≡ k = omega arith in
    let again : k + 1 ≡ suc k = omega arith in
    rw (before, replicate_more {X = ℕ} k 48, again) refl

-- all digits but the last are those of a sixteenth
pub hex_next : (width n : ℕ) → (16 ≤ n) ⊎ (1 < width) → n < 2 ^ 32 → hex width n ≡ hex (width - 1) (n / 16) ++ digit_glyph false (n % 16) ∷ []
unfolding hex
hex_next width n more small = ⊎_elim by_zeros by_digits (cases_lt n 16)
  where
    by_digits : 16 ≤ n → hex width n ≡ hex (width - 1) (n / 16) ++ last n ∷ []
    by_digits h =
        let e : digits 16 false n ≡ digits 16 false (n / 16) ++ last n ∷ [] = digits_next n h small in
        let same : width - length (digits 16 false (n / 16) ++ last n ∷ []) ≡ width - 1 - length (digits 16 false (n / 16)) = omega (arith, length-append (digits 16 false (n / 16)) (last n ∷ [])) in
        rw (e, same) (sym (append_assoc (replicate (width - 1 - length (digits 16 false (n / 16))) 48) (digits 16 false (n / 16)) (last n ∷ [])))

    by_zeros : n < 16 → hex width n ≡ hex (width - 1) (n / 16) ++ last n ∷ []
    by_zeros h =
        let zero_left : n / 16 ≡ 0 = omega arith in
        let e : digits 16 false n ≡ last n ∷ [] = digits_last n h in
        let front : digits 16 false (n / 16) ≡ 48 ∷ [] = ap (digits 16 false) zero_left ∙ digits_last 0 (omega arith) in
        let some : 0 < width - 1 = omega arith in
        rw (e, front) (zeros_more (width - 1) (last n ∷ []) some)

hex_longer : (width n : ℕ) → (16 ≤ n) ⊎ (1 < width) → n < 2 ^ 32 → length (hex width n) ≡ length (hex (width - 1) (n / 16)) + 1
hex_longer width n more small =
    ap length (hex_next width n more small) ∙ length-append (hex (width - 1) (n / 16)) (digit_glyph false (n % 16) ∷ [])

-- how many digits there are at most
pub length_hex : (k width n : ℕ) → n < 2 ^ 32 → n < 16 ^ suc k → width ≤ suc k → length (hex width n) ≤ suc k
length_hex zero width n small fits narrow = omega (arith, ap length (hex_last width n (omega arith) narrow))
length_hex (suc k) width n small fits narrow =
    let shorter : length (hex (width - 1) (n / 16)) ≤ suc k = length_hex k (width - 1) (n / 16) (omega arith) (omega arith) (omega arith) in
    ⊎_elim
    (λ h. ⊎_elim (λ w. let only : length (hex width n) ≡ 1 = ap length (hex_last width n h (omega arith)) in omega arith)
    (λ w. omega (arith, hex_longer width n (inr w) small)) (cases_lt width 2))
    (λ h. omega (arith, hex_longer width n (inl h) small)) (cases_lt n 16)

pub length_twenty_bits : (n : ℕ) → n < 2 ^ 20 → length (hex 1 n) ≤ 5
length_twenty_bits n h = length_hex 4 1 n (omega arith) (omega arith) (omega arith)

pub length_word : (n : ℕ) → n < 2 ^ 32 → length (hex 8 n) ≤ 8
length_word n h = length_hex 7 8 n h (omega arith) (omega arith)

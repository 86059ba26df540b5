-- No word has the fixed bits of two rows: any two rows want different values of the same bits.
use Rattle.std.proofs.Common.{◌≡◌, ◌≢◌, ◌↔◌, ◌∙◌, ap, sym, ℕ, ◌+◌, ◌-◌, ◌/◌, ◌%◌, ◌^◌, ◌≤◌, ◌==◌, nat_le, zero, suc, Some, None, slice_get, Bool, true, false, not, cond, ◌&&◌, ◌||◌, List, [], ◌∷◌, refl, arith, ⊎_elim}
use Rattle.std.specs.List.{list_all, list_any, count_by}
use Rattle.std.proofs.Math.Pow.{mod-mod-pow}
use Rattle.std.proofs.Math.Nat.{div-one}
use Rattle.std.proofs.lemmas.Nat.{mod-pow-add, div-mul-add, mod_below, pow_pos}
use Rattle.std.proofs.lemmas.Bool.{or_cases, and_parts, leb-true, eqb-true, eqb-false, not-true, cases_Bool, cond-true, cond-false}
use Rattle.std.proofs.lemmas.List.Recursion.{is_count_by}
use Rattle.fsim_base.specs.Number.{bits_of}
use Rattle.rv_decode.specs.Decode.{decode_of}
use Rattle.rv_decode.specs.Table.{Fixed, Row, has_bits, has_fixed, table}
use Rattle.rv_decode.proofs.Found.{found, found-here, found-past}

-- the bits of a whole word's bits are the word's
bits_of-whole : (word high low : ℕ) → low ≤ high → high ≤ 31 → bits_of (bits_of word 31 0) high low ≡ bits_of word high low
bits_of-whole word high low within below =
    let count : ℕ = high + 1 - low in
    let split : 32 ≡ 32 - low + low = omega arith in
    let wide : 32 - low ≡ 32 - low - count + count = omega arith in
    let whole : word / 1 % 2 ^ 32 ≡ word % 2 ^ (32 - low + low) = ap (λ n. n % 2 ^ 32) (div-one word) ∙ ap (λ n. word % 2 ^ n) split in
    let upper : word / 1 % 2 ^ 32 / 2 ^ low ≡ word / 2 ^ low % 2 ^ (32 - low) =
    ap (λ n. n / 2 ^ low) (whole ∙ mod-pow-add word (32 - low) low)
    ∙ div-mul-add (word / 2 ^ low % 2 ^ (32 - low)) (2 ^ low) (word % 2 ^ low) (mod_below word (2 ^ low) (pow_pos low)) in
    ap (λ n. n % 2 ^ count) (upper ∙ ap (λ n. word / 2 ^ low % 2 ^ n) wide)
    ∙ mod-mod-pow (word / 2 ^ low) (32 - low - count) count

-- two values of the same bits
abbrev differ : Fixed → Fixed → Bool
differ p q = (p.high == q.high) && (p.low == q.low) && not (p.value == q.value)

never_differ : (word : ℕ) (p q : Fixed) → differ p q ≡ true → has_bits word p ≡ true → has_bits word q ≡ true → ⊥
never_differ word p q d hp hq = grind arith

-- a whole word, and bits that it doesn't have
abbrev misses : Fixed → Fixed → Bool
misses p q =
    ((p.high == 31) && (p.low == 0)) && ((nat_le q.low q.high && nat_le q.high 31) && not (bits_of p.value q.high q.low == q.value))

misses_parts : (p q : Fixed) → misses p q ≡ true
    → ((p.high ≡ 31) × (p.low ≡ 0)) × (((q.low ≤ q.high) × (q.high ≤ 31)) × (bits_of p.value q.high q.low ≢ q.value))
misses_parts p q m =
    let halves = and_parts ((p.high == 31) && (p.low == 0)) ((nat_le q.low q.high && nat_le q.high 31) && not (bits_of p.value q.high q.low == q.value)) m in
    let ends = and_parts (p.high == 31) (p.low == 0) halves.0 in
    let rest = and_parts (nat_le q.low q.high && nat_le q.high 31) (not (bits_of p.value q.high q.low == q.value)) halves.1 in
    let inside = and_parts (nat_le q.low q.high) (nat_le q.high 31) rest.0 in (
      (eqb-true _ _ ends.0, eqb-true _ _ ends.1),
      ((leb-true _ _ inside.0, leb-true _ _ inside.1), eqb-false _ _ (not-true _ rest.1)),
    )

never_misses : (word : ℕ) (p q : Fixed) → misses p q ≡ true → has_bits word p ≡ true → has_bits word q ≡ true → ⊥
never_misses word p q m hp hq =
    let (whole, (inside, other)) = misses_parts p q m in
    let value : bits_of word 31 0 ≡ p.value =
    ap (λ n. bits_of word n 0) (sym whole.0) ∙ ap (λ n. bits_of word p.high n) (sym whole.1) ∙ eqb-true _ _ hp in
    other (ap (λ n. bits_of n q.high q.low) (sym value) ∙ bits_of-whole word q.high q.low inside.0 inside.1 ∙ eqb-true _ _ hq)

abbrev clash : Fixed → Fixed → Bool
clash p q = differ p q || misses p q || misses q p

never_clash : (word : ℕ) (p q : Fixed) → clash p q ≡ true → has_bits word p ≡ true → has_bits word q ≡ true → ⊥
never_clash word p q c hp hq =
    ⊎_elim
    (λ e. ⊎_elim (λ d. never_differ word p q d hp hq) (λ m. never_misses word p q m hp hq) (or_cases _ _ e))
    (λ m. never_misses word q p m hq hp) (or_cases _ _ c)

never_clash_any : (word : ℕ) (p : Fixed) (qs : List Fixed) → list_any (clash p) qs ≡ true → has_bits word p ≡ true → list_all (has_bits word) qs ≡ true → ⊥
never_clash_any word p [] c hp hq = cc
never_clash_any word p (q ∷ qs) c hp hq =
    let parts = and_parts (has_bits word q) (list_all (has_bits word) qs) hq in
    ⊎_elim (λ e. never_clash word p q e hp parts.0) (λ e. never_clash_any word p qs e hp parts.1) (or_cases (clash p q) (list_any (clash p) qs) c)

abbrev clashes : List Fixed → List Fixed → Bool
clashes ps qs = list_any (λ p. list_any (clash p) qs) ps

never_clashes : (word : ℕ) (ps qs : List Fixed) → clashes ps qs ≡ true → list_all (has_bits word) ps ≡ true → list_all (has_bits word) qs ≡ true → ⊥
never_clashes word [] qs c hp hq = cc
never_clashes word (p ∷ ps) qs c hp hq =
    let parts = and_parts (has_bits word p) (list_all (has_bits word) ps) hp in
    ⊎_elim (λ e. never_clash_any word p qs e parts.0 hq) (λ e. never_clashes word ps qs e parts.1 hq) (or_cases (list_any (clash p) qs) (clashes ps qs) c)

abbrev apart : Row → Row → Bool
apart r s = clashes r.fixed s.fixed

other_row : (word : ℕ) (r s : Row) → apart r s ≡ true → has_fixed word r ≡ true → has_fixed word s ≡ false
other_row word r s a h =
    ⊎_elim (λ e. absurd (never_clashes word r.fixed s.fixed a h e)) (λ e. e) (cases_Bool (has_fixed word s))

abbrev all_apart : List Row → Bool
all_apart [] = true
all_apart (r ∷ rs) = list_all (apart r) rs && all_apart rs

-- how many of the rows have the word, by recursion
abbrev amount : ℕ → List Row → ℕ
amount word [] = 0
amount word (r ∷ rs) = cond (has_fixed word r) (1 + amount word rs) (amount word rs)

amount_counts : (word : ℕ) (rs : List Row) → amount word rs ≡ count_by (has_fixed word) rs
amount_counts word rs = is_count_by (amount word) (has_fixed word) refl (λ r rs. refl) rs

none_more : (word : ℕ) (r : Row) (rs : List Row) → list_all (apart r) rs ≡ true → has_fixed word r ≡ true → amount word rs ≡ 0
none_more word r [] a h = refl
none_more word r (s ∷ rs) a h =
    let parts = and_parts (apart r s) (list_all (apart r) rs) a in
    cond-false (has_fixed word s) _ _ (other_row word r s parts.0 h) ∙ none_more word r rs parts.1 h

one_at_most : (word : ℕ) (rs : List Row) → all_apart rs ≡ true → amount word rs ≤ 1
one_at_most word [] a = omega arith
one_at_most word (r ∷ rs) a =
    let parts = and_parts (list_all (apart r) rs) (all_apart rs) a in
    ⊎_elim
    (λ e. let none : amount word rs ≡ 0 = none_more word r rs parts.0 e in
    let here : amount word (r ∷ rs) ≡ 1 + amount word rs = cond-true (has_fixed word r) _ _ e in
    omega arith)
    (λ e. let here : amount word (r ∷ rs) ≡ amount word rs = cond-false (has_fixed word r) _ _ e in
    let others : amount word rs ≤ 1 = one_at_most word rs parts.1 in
    omega arith)
    (cases_Bool (has_fixed word r))

table_apart : all_apart table ≡ true
unfolding table
table_apart = refl

pub one_at_most_of_table : (word : ℕ) → count_by (has_fixed word) table ≤ 1
one_at_most_of_table word =
    let same : amount word table ≡ count_by (has_fixed word) table = amount_counts word table in
    let most : amount word table ≤ 1 = one_at_most word table table_apart in
    omega arith

all_at : (r s : Row) (rs : List Row) (place : ℕ) → list_all (apart r) rs ≡ true → slice_get rs place ≡ Some s → apart r s ≡ true
all_at r s [] place a e = cc
all_at r s (q ∷ rs) zero a e =
    let same : q ≡ s = cc in
    ap (apart r) (sym same) ∙ (and_parts (apart r q) (list_all (apart r) rs) a).0
all_at r s (q ∷ rs) (suc place) a e = all_at r s rs place (and_parts (apart r q) (list_all (apart r) rs) a).1 e

-- a row that the word has is the one that is found
found_at : (word : ℕ) (rs : List Row) (place : ℕ) (r : Row) → all_apart rs ≡ true → slice_get rs place ≡ Some r → has_fixed word r ≡ true → found word rs ≡ Some (r.insn word)
found_at word [] place r a e h = cc
found_at word (s ∷ rs) zero r a e h =
    let same : s ≡ r = cc in
    found-here word s rs (ap (has_fixed word) same ∙ h) ∙ ap (λ q. Some (q.insn word)) same
found_at word (s ∷ rs) (suc place) r a e h =
    let parts = and_parts (list_all (apart s) rs) (all_apart rs) a in
    let other : has_fixed word s ≡ false =
    ⊎_elim (λ q. absurd (never_clashes word s.fixed r.fixed (all_at s r rs place parts.0 e) q h)) (λ q. q) (cases_Bool (has_fixed word s)) in
    found-past word s rs other ∙ found_at word rs place r parts.1 e h

found_none : (word : ℕ) (rs : List Row) → found word rs ≡ None → amount word rs ≡ 0
found_none word [] e = refl
found_none word (r ∷ rs) e =
    ⊎_elim
    (λ h. let here = found-here word r rs h in cc)
    (λ h. cond-false (has_fixed word r) _ _ h ∙ found_none word rs (sym (found-past word r rs h) ∙ e))
    (cases_Bool (has_fixed word r))

none_found : (word : ℕ) (rs : List Row) → amount word rs ≡ 0 → found word rs ≡ None
none_found word [] e = refl
none_found word (r ∷ rs) e =
    ⊎_elim
    (λ h. let here : amount word (r ∷ rs) ≡ 1 + amount word rs = cond-true (has_fixed word r) _ _ h in absurd (omega arith))
    (λ h. let past : amount word (r ∷ rs) ≡ amount word rs = cond-false (has_fixed word r) _ _ h in
    found-past word r rs h ∙ none_found word rs (sym past ∙ e))
    (cases_Bool (has_fixed word r))

pub decode_of-row : (word place : ℕ) (r : Row) → slice_get table place ≡ Some r → has_fixed word r ≡ true → decode_of word ≡ Some (r.insn word)
unfolding decode_of
decode_of-row word place r e h = found_at word table place r table_apart e h

pub decode_of_none : (word : ℕ) → (decode_of word ≡ None) ↔ (count_by (has_fixed word) table ≡ 0)
unfolding decode_of
decode_of_none word =
    (λ e. sym (amount_counts word table) ∙ found_none word table e, λ e. none_found word table (amount_counts word table ∙ e))

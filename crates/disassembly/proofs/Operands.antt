-- An operand's text has no comma, and tells the operand.
use Rattle.std.proofs.Common.{◌≡◌, refl, ap, sym, ◌∙◌, ℕ, zero, suc, ◌+◌, ◌-◌, ◌/◌, ◌%◌, ◌^◌, ◌≤◌, ◌<◌, ◌⊎◌, inl, inr, ⊎_elim, Bool, true, false, not, ◌&&◌, ◌==◌, List, [], ◌∷◌, ◌++◌, append_assoc, length, length-append, Option, None, Some, ℤ, pos, negsuc, bytes_eq, if◌then◌else◌, unwrap_or, eqb-true, arith}
use Rattle.std.proofs.lemmas.Bool.{cases_lt, and_parts}
use Rattle.std.proofs.lemmas.Fmt.{decimal_is_IsNumeral, decimal_injective, signed_decimal_injective}
use Rattle.std.proofs.lemmas.Str.Parse.{digit_from_value}
use Rattle.std.specs.Str.Parse.{AllDigits}
use Rattle.std.specs.Fmt.{decimal, signed_decimal, digit_glyph}
use Rattle.std.specs.Int.{w32, cast_signed}
use Rattle.machine_csr.specs.Csr.{Row, rows}
use lib.Signed.{mag}
use Rattle.disassembly.specs.Number.{Text, hex, prefixed, signed}
use Rattle.disassembly.specs.CsrName.{csr_names, name_in, name_at}
use Rattle.disassembly.specs.Text.{register, based, target, accesses, csr_text}
use Rattle.disassembly.proofs.Hex.{hex_last, hex_next}
use Rattle.disassembly.proofs.Names.{is_new, are_apart, differ}
use Rattle.disassembly.proofs.Split.{lacks, begins, lacks-append, parted, last_parted}

-- decimal digits

digits_lack : (c : ℕ) (ds : Text) → c < 48 → AllDigits 10 ds → lacks c ds ≡ true
digits_lack c [] h d = refl
digits_lack c (b ∷ ds) h d =
    let digit = digit_from_value b d.0 in
    let rest : lacks c ds ≡ true = digits_lack c ds h d.1 in
    grind arith

decimal_lacks : (c n : ℕ) → c < 48 → n < 2 ^ 64 → lacks c (decimal n) ≡ true
decimal_lacks c n h small = digits_lack c (decimal n) h (decimal_is_IsNumeral n small).0.1

pub register_lacks : (c n : ℕ) → c < 48 → n < 32 → lacks c (register n) ≡ true
register_lacks c n h small =
    let rest : lacks c (decimal n) ≡ true = decimal_lacks c n h (omega arith) in
    grind arith

pub register_tells : (n m : ℕ) → n < 32 → m < 32 → register n ≡ register m → n ≡ m
register_tells n m h k e =
    let same : decimal n ≡ decimal m = cc in
    decimal_injective n m (omega arith) (omega arith) same

signed_lacks_of : (c : ℕ) (z : ℤ) → c < 45 → mag z < 2 ^ 63 → lacks c (signed_decimal z) ≡ true
signed_lacks_of c (pos n) h small = decimal_lacks c n (omega arith) (omega arith)
signed_lacks_of c (negsuc n) h small =
    let rest : lacks c (decimal (suc n)) ≡ true = decimal_lacks c (suc n) (omega arith) (omega arith) in
    grind arith

small_signed : (imm : ℕ) → imm < 2 ^ 32 → mag (cast_signed w32 imm) < 2 ^ 63
small_signed imm h = grind arith

pub signed_lacks : (c imm : ℕ) → c < 45 → imm < 2 ^ 32 → lacks c (signed imm) ≡ true
signed_lacks c imm h small = signed_lacks_of c (cast_signed w32 imm) h (small_signed imm small)

cast_tells : (imm other : ℕ) → imm < 2 ^ 32 → other < 2 ^ 32 → cast_signed w32 imm ≡ cast_signed w32 other → imm ≡ other
cast_tells imm other h k e = grind arith

pub signed_tells : (imm other : ℕ) → imm < 2 ^ 32 → other < 2 ^ 32 → signed imm ≡ signed other → imm ≡ other
signed_tells imm other h k e =
    cast_tells imm other h k (signed_decimal_injective (cast_signed w32 imm) (cast_signed w32 other) (small_signed imm h) (small_signed other k) e)

pub based_lacks : (imm rs1 : ℕ) → imm < 2 ^ 32 → rs1 < 32 → lacks 44 (based imm rs1) ≡ true
based_lacks imm rs1 h k =
    lacks-append 44 (signed imm ++ 40 ∷ [] ++ register rs1) (41 ∷ [])
    (lacks-append 44 (signed imm ++ 40 ∷ []) (register rs1)
    (lacks-append 44 (signed imm) (40 ∷ []) (signed_lacks 44 imm (omega arith) h) refl)
    (register_lacks 44 rs1 (omega arith) k)) refl

pub based_tells : (imm rs1 imm' rs1' : ℕ) → imm < 2 ^ 32 → rs1 < 32 → imm' < 2 ^ 32 → rs1' < 32 → based imm rs1 ≡ based imm' rs1' → (imm ≡ imm') × (rs1 ≡ rs1')
based_tells imm rs1 imm' rs1' h k h' k' e =
    let left : based imm rs1 ≡ signed imm ++ (40 ∷ (register rs1 ++ 41 ∷ [])) = simp append_assoc in
    let right : based imm' rs1' ≡ signed imm' ++ (40 ∷ (register rs1' ++ 41 ∷ [])) = simp append_assoc in
    let (first, rest) = parted 40 (signed imm) (signed imm') (40 ∷ (register rs1 ++ 41 ∷ [])) (40 ∷ (register rs1' ++ 41 ∷ []))
    (signed_lacks 40 imm (omega arith) h) (signed_lacks 40 imm' (omega arith) h') refl refl (sym left ∙ e ∙ right) in
    let inner : register rs1 ++ 41 ∷ [] ≡ register rs1' ++ 41 ∷ [] = cc in
    (signed_tells imm imm' h h' first, register_tells rs1 rs1' k k' (last_parted (register rs1) (register rs1') 41 41 inner).0)

-- hexadecimal digits

pub glyph_tells : (n m : ℕ) → n < 16 → m < 16 → digit_glyph false n ≡ digit_glyph false m → n ≡ m
glyph_tells n m h k e = grind arith

abbrev IsLast : ℕ → ℕ → Type 0
IsLast width n = (n < 16) × (width ≤ 1)

-- a number of one digit, or one with digits before the last
last_or_next : (width n : ℕ) → IsLast width n ⊎ ((16 ≤ n) ⊎ (1 < width))
last_or_next width n =
    ⊎_elim (λ h. ⊎_elim (λ w. let narrow : width ≤ 1 = omega arith in inl (h, narrow)) (λ w. let wide : 1 < width = omega arith in inr (inr wide)) (cases_lt width 2))
    (λ h. inr (inl h)) (cases_lt n 16)

pub hex_some : (width n : ℕ) → n < 2 ^ 32 → 0 < length (hex width n)
hex_some width n h =
    ⊎_elim (λ l. omega (arith, ap length (hex_last width n l.0 l.1)))
    (λ m. omega (arith, ap length (hex_next width n m h), length-append (hex (width - 1) (n / 16)) (digit_glyph false (n % 16) ∷ []))) (last_or_next width n)

glyph_lacks : (c n : ℕ) → c < 48 → n < 16 → lacks c (digit_glyph false n ∷ []) ≡ true
glyph_lacks c n h k = grind arith

hex_lacks_in : (k c width n : ℕ) → c < 48 → n < 2 ^ 32 → n < 16 ^ suc k → width ≤ suc k → lacks c (hex width n) ≡ true
hex_lacks_in zero c width n h small fits narrow = rw (hex_last width n (omega arith) narrow) (glyph_lacks c (n % 16) h (omega arith))
hex_lacks_in (suc k) c width n h small fits narrow =
    let front : lacks c (hex (width - 1) (n / 16)) ≡ true = hex_lacks_in k c (width - 1) (n / 16) h (omega arith) (omega arith) (omega arith) in
    let digit : lacks c (digit_glyph false (n % 16) ∷ []) ≡ true = glyph_lacks c (n % 16) h (omega arith) in
    ⊎_elim (λ l. rw (hex_last width n l.0 l.1) digit)
    (λ m. rw (hex_next width n m small) (lacks-append c (hex (width - 1) (n / 16)) (digit_glyph false (n % 16) ∷ []) front digit))
    (last_or_next width n)

last_tells : (width n m : ℕ) → IsLast width n → IsLast width m → hex width n ≡ hex width m → n ≡ m
last_tells width n m l r e =
    let digits_same : digit_glyph false (n % 16) ∷ [] ≡ digit_glyph false (m % 16) ∷ [] = sym (hex_last width n l.0 l.1) ∙ e ∙ hex_last width m r.0 r.1 in
    let digit_same : digit_glyph false (n % 16) ≡ digit_glyph false (m % 16) = cc in
    let rest_same : n % 16 ≡ m % 16 = glyph_tells (n % 16) (m % 16) (omega arith) (omega arith) digit_same in
    omega arith

-- a number of one digit and one of more have texts of different lengths
last_not_next : (width n m : ℕ) → m < 2 ^ 32 → IsLast width n → (16 ≤ m) ⊎ (1 < width) → hex width n ≡ hex width m → ⊥
last_not_next width n m small l r e =
    omega (
      arith,
      ap length e,
      ap length (hex_last width n l.0 l.1),
      ap length (hex_next width m r small),
      length-append (hex (width - 1) (m / 16)) (digit_glyph false (m % 16) ∷ []),
      hex_some (width - 1) (m / 16) (omega arith),
    )

hex_tells_in : (k width n m : ℕ) → n < 2 ^ 32 → m < 2 ^ 32 → n < 16 ^ suc k → m < 16 ^ suc k → width ≤ suc k → hex width n ≡ hex width m → n ≡ m
hex_tells_in zero width n m small less fits fit narrow e =
    let one : n < 16 = omega arith in
    let other : m < 16 = omega arith in
    last_tells width n m (one, narrow) (other, narrow) e
hex_tells_in (suc k) width n m small less fits fit narrow e =
    let front : hex (width - 1) (n / 16) ≡ hex (width - 1) (m / 16) → n / 16 ≡ m / 16 =
    hex_tells_in k (width - 1) (n / 16) (m / 16) (omega arith) (omega arith) (omega arith) (omega arith) (omega arith) in
    ⊎_elim
    (λ l. ⊎_elim (λ r. last_tells width n m l r e) (λ r. absurd (last_not_next width n m less l r e)) (last_or_next width m))
    (λ l. ⊎_elim (λ r. absurd (last_not_next width m n small r l (sym e)))
    (λ r. both l r front) (last_or_next width m))
    (last_or_next width n)
  where
    both : (16 ≤ n) ⊎ (1 < width) → (16 ≤ m) ⊎ (1 < width) → (hex (width - 1) (n / 16) ≡ hex (width - 1) (m / 16) → n / 16 ≡ m / 16) → n ≡ m
    both l r front =
        let joined : hex (width - 1) (n / 16) ++ digit_glyph false (n % 16) ∷ [] ≡ hex (width - 1) (m / 16) ++ digit_glyph false (m % 16) ∷ [] = sym (hex_next width n l small) ∙ e ∙ hex_next width m r less in
        let (fronts, lasts) = last_parted (hex (width - 1) (n / 16)) (hex (width - 1) (m / 16)) (digit_glyph false (n % 16)) (digit_glyph false (m % 16)) joined in
        let high : n / 16 ≡ m / 16 = front fronts in
        let low : n % 16 ≡ m % 16 = glyph_tells (n % 16) (m % 16) (omega arith) (omega arith) lasts in
        omega arith

pub hex_lacks : (c width n : ℕ) → c < 48 → n < 2 ^ 32 → width ≤ 8 → lacks c (hex width n) ≡ true
hex_lacks c width n h small narrow = hex_lacks_in 7 c width n h small (omega arith) (omega arith)

pub hex_tells : (width n m : ℕ) → n < 2 ^ 32 → m < 2 ^ 32 → width ≤ 8 → hex width n ≡ hex width m → n ≡ m
hex_tells width n m h k narrow e = hex_tells_in 7 width n m h k (omega arith) (omega arith) (omega arith) e

pub prefixed_lacks : (n : ℕ) → n < 2 ^ 32 → lacks 44 (prefixed n) ≡ true
prefixed_lacks n h =
    let rest : lacks 44 (hex 1 n) ≡ true = hex_lacks 44 1 n (omega arith) h (omega arith) in
    grind arith

pub prefixed_tells : (n m : ℕ) → n < 2 ^ 32 → m < 2 ^ 32 → prefixed n ≡ prefixed m → n ≡ m
prefixed_tells n m h k e =
    let same : hex 1 n ≡ hex 1 m = cc in
    hex_tells 1 n m h k (omega arith) same

-- the address by which a jump goes on tells its offset
pub target_tells : (addr imm other : ℕ) → imm < 2 ^ 32 → other < 2 ^ 32 → target addr imm ≡ target addr other → imm ≡ other
target_tells addr imm other h k e =
    let same : (addr + imm) % 2 ^ 32 ≡ (addr + other) % 2 ^ 32 = hex_tells 8 ((addr + imm) % 2 ^ 32) ((addr + other) % 2 ^ 32) (omega arith) (omega arith) (omega arith) e in
    omega arith

-- what is found of sixteen sets by trying each

abbrev all_below : ℕ → (ℕ → Bool) → Bool
all_below zero test = true
all_below (suc k) test = test k && all_below k test

tried : (k : ℕ) (test : ℕ → Bool) (n : ℕ) → all_below k test ≡ true → n < k → test n ≡ true
tried zero test n h below = absurd (omega arith)
tried (suc k) test n h below =
    let (here, rest) = and_parts (test k) (all_below k test) h in
    ⊎_elim (λ l. tried k test n rest l) (λ m. let same : n ≡ k = omega arith in rw same here) (cases_lt n k)

-- the set that letters name
abbrev weight : ℕ → ℕ
weight c = if c == 105 then 8 else (if c == 111 then 4 else (if c == 114 then 2 else (if c == 119 then 1 else 0)))

abbrev set_of : Text → ℕ
set_of [] = 0
set_of (c ∷ cs) = weight c + set_of cs

pub accesses_lacks : (set : ℕ) → set < 16 → lacks 44 (accesses set) ≡ true
unfolding accesses
accesses_lacks set h = tried 16 (λ n. lacks 44 (accesses n)) set refl h

accesses_read : (set : ℕ) → set < 16 → (set_of (accesses set) == set) ≡ true
unfolding accesses
accesses_read set h = tried 16 (λ n. set_of (accesses n) == n) set refl h

pub accesses_tells : (set other : ℕ) → set < 16 → other < 16 → accesses set ≡ accesses other → set ≡ other
accesses_tells set other h k e =
    sym (eqb-true _ _ (accesses_read set h)) ∙ ap set_of e ∙ eqb-true _ _ (accesses_read other k)

-- names of CSRs

abbrev is_name : Text → Bool
is_name name = lacks 44 name && not (begins 48 name)

abbrev are_names : List Text → Bool
are_names [] = true
are_names (name ∷ names) = is_name name && are_names names

named_here : (found : Bool) (name other : Text) (o : Option Text) → (if found then Some name else o) ≡ Some other → (name ≡ other) ⊎ (o ≡ Some other)
named_here true name other o e = inl (cc)
named_here false name other o e = inr e

name_is_name : (rs : List Row) (names : List Text) (csr : ℕ) (name : Text) → are_names names ≡ true → name_in rs names csr ≡ Some name → is_name name ≡ true
name_is_name [] names csr name h e = absurd (cc)
name_is_name (r ∷ rs) [] csr name h e = absurd (cc)
name_is_name (r ∷ rs) (n ∷ names) csr name h e =
    let (here, rest) = and_parts (is_name n) (are_names names) h in
    ⊎_elim (λ (same : n ≡ name). rw (← same) here) (λ later. name_is_name rs names csr name rest later)
    (named_here (r.address == csr) n name (name_in rs names csr) e)

name_is_old : (rs : List Row) (names : List Text) (csr : ℕ) (name : Text) → is_new name names ≡ true → name_in rs names csr ≡ Some name → ⊥
name_is_old [] names csr name h e = cc
name_is_old (r ∷ rs) [] csr name h e = cc
name_is_old (r ∷ rs) (n ∷ names) csr name h e =
    let (here, rest) = and_parts (not (bytes_eq name n)) (is_new name names) h in
    ⊎_elim (λ same. differ name n here (sym same)) (λ later. name_is_old rs names csr name rest later)
    (named_here (r.address == csr) n name (name_in rs names csr) e)

name_tells : (rs : List Row) (names : List Text) (csr other : ℕ) (name : Text) → are_apart names ≡ true → name_in rs names csr ≡ Some name → name_in rs names other ≡ Some name → csr ≡ other
name_tells [] names csr other name h e f = absurd (cc)
name_tells (r ∷ rs) [] csr other name h e f = absurd (cc)
name_tells (r ∷ rs) (n ∷ names) csr other name h e f =
    let (here, rest) = and_parts (is_new n names) (are_apart names) h in
    by (r.address == csr) (r.address == other) refl refl here (name_tells rs names csr other name rest) e f
  where
    by : (a b : Bool) → (r.address == csr) ≡ a → (r.address == other) ≡ b → is_new n names ≡ true
        → (name_in rs names csr ≡ Some name → name_in rs names other ≡ Some name → csr ≡ other)
        → (if a then Some n else name_in rs names csr) ≡ Some name → (if b then Some n else name_in rs names other) ≡ Some name → csr ≡ other
    by true true p q new later e f = sym (eqb-true _ _ p) ∙ eqb-true _ _ q
    by true false p q new later e f = let same : n ≡ name = cc in absurd (name_is_old rs names other n new (rw same f))
    by false true p q new later e f = let same : n ≡ name = cc in absurd (name_is_old rs names csr n new (rw same e))
    by false false p q new later e f = later e f

csr_by_name : (csr : ℕ) (o : Option Text) → name_at csr ≡ o → csr_text csr ≡ unwrap_or o (prefixed csr)
csr_by_name csr o e = ap (λ t. unwrap_or t (prefixed csr)) e

name_at_is_name : (csr : ℕ) (name : Text) → name_at csr ≡ Some name → is_name name ≡ true
unfolding name_at
name_at_is_name csr name e = name_is_name rows csr_names csr name refl e

name_at_tells : (csr other : ℕ) (name : Text) → name_at csr ≡ Some name → name_at other ≡ Some name → csr ≡ other
unfolding name_at
name_at_tells csr other name e f = name_tells rows csr_names csr other name refl e f

csr_lacks_by : (csr : ℕ) → csr < 2 ^ 32 → (o : Option Text) → name_at csr ≡ o → lacks 44 (csr_text csr) ≡ true
csr_lacks_by csr h None e = rw (csr_by_name csr None e) (prefixed_lacks csr h)
csr_lacks_by csr h (Some name) e =
    rw (csr_by_name csr (Some name) e) (and_parts (lacks 44 name) (not (begins 48 name)) (name_at_is_name csr name e)).0

pub csr_lacks : (csr : ℕ) → csr < 2 ^ 32 → lacks 44 (csr_text csr) ≡ true
csr_lacks csr h = csr_lacks_by csr h (name_at csr) refl

-- no name begins as a number does
name_is_no_number : (csr other : ℕ) (name : Text) → name_at csr ≡ Some name → name ≡ prefixed other → ⊥
name_is_no_number csr other name e f =
    let proper = (and_parts (lacks 44 name) (not (begins 48 name)) (name_at_is_name csr name e)).1 in
    let digit : false ≡ true = sym (ap (λ t. not (begins 48 t)) f) ∙ proper in
    absurd (cc)

csr_tells_by : (csr other : ℕ) → csr < 2 ^ 32 → other < 2 ^ 32 → (o p : Option Text) → name_at csr ≡ o → name_at other ≡ p
    → unwrap_or o (prefixed csr) ≡ unwrap_or p (prefixed other) → csr ≡ other
csr_tells_by csr other h k None None e f same = prefixed_tells csr other h k same
csr_tells_by csr other h k None (Some name) e f same = absurd (name_is_no_number other csr name f (sym same))
csr_tells_by csr other h k (Some name) None e f same = absurd (name_is_no_number csr other name e same)
csr_tells_by csr other h k (Some name) (Some name') e f same =
    let again : name_at other ≡ Some name = f ∙ ap Some (sym same) in
    name_at_tells csr other name e again

pub csr_tells : (csr other : ℕ) → csr < 2 ^ 32 → other < 2 ^ 32 → csr_text csr ≡ csr_text other → csr ≡ other
csr_tells csr other h k e = csr_tells_by csr other h k (name_at csr) (name_at other) refl refl e

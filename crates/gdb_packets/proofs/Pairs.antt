-- Bytes that pairs of hexadecimal digits write, byte by byte.
use Rattle.std.proofs.Common.{◌≡◌, ℕ, zero, suc, ◌+◌, ◌*◌, ◌%◌, ◌<◌, ◌≢◌, ◌&&◌, true, false, List, [], ◌∷◌, length, get_or, Option, Some, None, Result, Ok, Err, unwrap_or, refl, ap, sym, ◌∙◌, arith}
use Rattle.std.specs.Prelude.{IsSome}
use Rattle.std.proofs.lemmas.Bool.{and_parts}
use Rattle.std.proofs.lemmas.List.Elements.{All-cons, All-head, All-nil, All-tail}
use Rattle.std.specs.List.{AllPass, list_all}
use Rattle.std.specs.Result.{result_ok, result_unwrap_or}
use Rattle.hex.specs.Hex.{decode_of, decode_pairs, digit_or_error, hex_digit_value, is_hex_digit, pair_value, value_at, ◌>>=◌}
use Rattle.hex.specs.declared.error.FromHexError.{FromHexError}
use Rattle.hex.proofs.HexLemmas.{decode_of-even, decode_of-ok, decode_pairs-digits}
use Rattle.gdb_packets.specs.Hexadecimal.{bytes_in}

-- the two digits of the byte at a place
pub record Spells (word bytes : List ℕ) (place : ℕ) : Type 0 where
  pub high : ℕ
  pub low : ℕ
  pub high_is : hex_digit_value (get_or word (2 * place) 0) ≡ Some high
  pub low_is : hex_digit_value (get_or word (2 * place + 1) 0) ≡ Some low
  pub high_small : high < 16
  pub low_small : low < 16
  pub byte_is : get_or bytes place 0 ≡ high * 16 + low

-- what an `Ok` after `>>=` shows
bind_ok : {A B : Type 0} (r : Result A FromHexError) (f : A → Result B FromHexError) (y : B)
    → (r >>= f) ≡ Ok y → (x : A) × (r ≡ Ok x) × (f x ≡ Ok y)
bind_ok (Ok x) f y h = (x, refl, h)
bind_ok (Err e) f y h = cc h

-- the value of a digit that reads
digit_read : (c i : ℕ) (o : Option ℕ) (v : ℕ) → digit_or_error c i o ≡ Ok v → o ≡ Some v
digit_read c i (Some w) v h = ap Some (ap (λ (r : Result ℕ FromHexError). result_unwrap_or r 0) h)
digit_read c i None v h = cc h

hex-small : (c v : ℕ) → hex_digit_value c ≡ Some v → v < 16
hex-small c v is = grind (arith)

pub pairs-at : (i : ℕ) (word bytes : List ℕ) (place : ℕ) → decode_pairs i word ≡ Ok bytes → place < length bytes → Spells word bytes place
unfolding decode_pairs
pairs-at i [] bytes place h within =
    let e : [] ≡ bytes = ap (λ (r : Result (List ℕ) FromHexError). result_unwrap_or r []) h in
    absurd (omega (arith, ap length e, within))
pairs-at i (a ∷ []) bytes place h within = cc h
pairs-at i (a ∷ b ∷ rest) bytes zero h within =
    let p0 = bind_ok (pair_value a b i) _ bytes h in
    let p1 = bind_ok (value_at a i) _ p0.0 p0.1 in
    let p2 = bind_ok (value_at b (i + 1)) _ p0.0 p1.2 in
    let p3 = bind_ok (decode_pairs (i + 2) rest) _ bytes p0.2 in
    let e : p0.0 ∷ p3.0 ≡ bytes = ap (λ (r : Result (List ℕ) FromHexError). result_unwrap_or r []) p3.2 in
    let high = digit_read a i (hex_digit_value a) p1.0 p1.1 in
    let low = digit_read b (i + 1) (hex_digit_value b) p2.0 p2.1 in
    let byte : p1.0 * 16 + p2.0 ≡ p0.0 = ap (λ (r : Result ℕ FromHexError). result_unwrap_or r 0) p2.2 in
    record {
      high = p1.0;
      low = p2.0;
      high_is = high;
      low_is = low;
      high_small = hex-small a p1.0 high;
      low_small = hex-small b p2.0 low;
      byte_is = ap (λ (found : List ℕ). get_or found 0 0) (sym e) ∙ sym byte;
    }
pairs-at i (a ∷ b ∷ rest) bytes (suc place) h within =
    let p0 = bind_ok (pair_value a b i) _ bytes h in
    let p3 = bind_ok (decode_pairs (i + 2) rest) _ bytes p0.2 in
    let e : p0.0 ∷ p3.0 ≡ bytes = ap (λ (r : Result (List ℕ) FromHexError). result_unwrap_or r []) p3.2 in
    let deeper : place < length p3.0 = omega (arith, ap length e, within) in
    let behind = pairs-at (i + 2) rest p3.0 place p3.1 deeper in
    let first : 2 * suc place ≡ suc (suc (2 * place)) = omega arith in
    let second : 2 * suc place + 1 ≡ suc (suc (2 * place + 1)) = omega arith in
    record {
      high = behind.high;
      low = behind.low;
      high_is = rw first behind.high_is;
      low_is = rw second behind.low_is;
      high_small = behind.high_small;
      low_small = behind.low_small;
      byte_is = ap (λ (found : List ℕ). get_or found (suc place) 0) (sym e) ∙ behind.byte_is;
    }

-- all are digits, by a test and by a fact
all-pass : (word : List ℕ) → list_all is_hex_digit word ≡ true → AllPass is_hex_digit word
all-pass [] all = All-nil (λ c. is_hex_digit c ≡ true)
all-pass (c ∷ word) all =
    let parts = and_parts (is_hex_digit c) (list_all is_hex_digit word) all in
    All-cons (λ d. is_hex_digit d ≡ true) c word parts.0 (all-pass word parts.1)

pass-all : (word : List ℕ) → AllPass is_hex_digit word → list_all is_hex_digit word ≡ true
pass-all [] pass = refl
pass-all (c ∷ word) pass =
    ap (λ b. b && list_all is_hex_digit word) (All-head (λ d. is_hex_digit d ≡ true) c word pass)
    ∙ pass-all word (All-tail (λ d. is_hex_digit d ≡ true) c word pass)

ok-some : (r : Result (List ℕ) FromHexError) → IsSome (result_ok r) → r ≡ Ok (unwrap_or (result_ok r) [])
ok-some (Ok bytes) some = refl
ok-some (Err e) some = cc some

some-ok : (r : Result (List ℕ) FromHexError) (bytes : List ℕ) → r ≡ Ok bytes → IsSome (result_ok r)
some-ok (Ok x) bytes is = refl
some-ok (Err e) bytes is = cc is

none-not : (r : Result (List ℕ) FromHexError) → ((bytes : List ℕ) → r ≡ Ok bytes → ⊥) → result_ok r ≡ None
none-not (Ok bytes) not = absurd (not bytes refl)
none-not (Err e) not = refl

-- an even number of digits write bytes
pub bytes-some : (word : List ℕ) → length word % 2 ≡ 0 → list_all is_hex_digit word ≡ true → IsSome (bytes_in word)
bytes-some word even all =
    let pairs = decode_pairs-digits 0 word even (all-pass word all) in
    some-ok (decode_of word) pairs.0 (decode_of-even word even ∙ pairs.1)

pub some-unwrapped : (o : Option (List ℕ)) → IsSome o → Some (unwrap_or o []) ≡ o
some-unwrapped (Some bytes) some = refl
some-unwrapped None some = cc some

-- anything else writes none
pub bytes-odd : (word : List ℕ) → length word % 2 ≢ 0 → None ≡ bytes_in word
bytes-odd word odd = sym (none-not (decode_of word) (λ bytes is. odd (decode_of-ok word bytes is).0))

pub bytes-other : (word : List ℕ) → list_all is_hex_digit word ≡ false → None ≡ bytes_in word
bytes-other word other =
    sym (none-not (decode_of word) (λ bytes is. let all = pass-all word (decode_of-ok word bytes is).1 in cc (other, all)))

-- two digits for each byte
pub bytes-len : (word : List ℕ) → IsSome (bytes_in word) → length word ≡ 2 * length (unwrap_or (bytes_in word) [])
bytes-len word some = (decode_of-ok word (unwrap_or (bytes_in word) []) (ok-some (decode_of word) some)).2

pub bytes-at : (word : List ℕ) (place : ℕ) → IsSome (bytes_in word) → place < length (unwrap_or (bytes_in word) []) → Spells word (unwrap_or (bytes_in word) []) place
bytes-at word place some within =
    let ok = ok-some (decode_of word) some in
    let even = (decode_of-ok word (unwrap_or (bytes_in word) []) ok).0 in
    pairs-at 0 word (unwrap_or (bytes_in word) []) place (sym (decode_of-even word even) ∙ ok) within

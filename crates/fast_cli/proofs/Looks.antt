-- What clap's lexer sees in a word, by how the word looks.
use Rattle.std.proofs.Common.{◌≡◌, ◌∙◌, ◌<◌, ◌==◌, ℕ, suc, Bool, cond, true, false, List, [], ◌∷◌, refl, sym, ap, arith, length}
use Rattle.std.specs.Prelude.{Some, None, slice_get}
use Rattle.std.specs.Str.{IsUtf8, bytes_eq, chars, encode_utf8_all, all_scalars}
use Rattle.std.proofs.lemmas.Bool.Decides.{nat_tests}
use Rattle.std.proofs.lemmas.Str.{IsCharBoundary-after_ascii, IsUtf8-drop, chars-encodes}
use Rattle.clap.specs.Lexer.{long_of, short_of}
use Rattle.fast_cli.specs.Words.{Look, Text, dashes, long, look_behind_dashes, look_of, plain, short}

-- the words of options that begin with one dash
pub record HasFlags (word : Text) : Type 0 where
  pub flags : Text
  pub count : ℕ
  pub first : ℕ
  pub behind : short_of word ≡ Some flags
  pub long : length flags ≡ suc count
  pub begins : slice_get (chars flags) 0 ≡ Some first

abbrev pub Sees : Text → Look → Type 0
Sees word plain = (bytes_eq word (45 ∷ 45 ∷ []) ≡ false) × (long_of word ≡ None) × (short_of word ≡ None)
Sees word dashes = bytes_eq word (45 ∷ 45 ∷ []) ≡ true
Sees word (long name value) = (bytes_eq word (45 ∷ 45 ∷ []) ≡ false) × (long_of word ≡ Some (name, value))
Sees word short = (bytes_eq word (45 ∷ 45 ∷ []) ≡ false) × (long_of word ≡ None) × HasFlags word

chars_first : (first : ℕ) (bytes : Text) (cs : List ℕ) → all_scalars cs ≡ true → encode_utf8_all cs ≡ first ∷ bytes
    → (x : ℕ) × (slice_get (chars (first ∷ bytes)) 0 ≡ Some x)
chars_first first bytes [] scalars spells = cc
chars_first first bytes (x ∷ xs) scalars spells =
    (x, ap (λ text. slice_get (chars text) 0) (sym spells) ∙ ap (λ cs. slice_get cs 0) (chars-encodes (x ∷ xs) scalars))

one_dash : (first second : ℕ) (bytes : Text) → IsUtf8 (first ∷ second ∷ bytes) → (first == 45) ≡ true → (second == 45) ≡ false → HasFlags (first ∷ second ∷ bytes)
one_dash first second bytes text e f =
    let dash : first < 128 = grind (arith, nat_tests) in
    let rest : IsUtf8 (second ∷ bytes) = IsUtf8-drop (first ∷ second ∷ bytes) 1 text (IsCharBoundary-after_ascii (first ∷ second ∷ bytes) 0 text (omega arith) dash) in
    let begins = chars_first second bytes rest.0 rest.1.0 rest.1.1 in
    record { flags = second ∷ bytes; count = length bytes; first = begins.0; behind = rw (e, f) refl; long = refl; begins = begins.1 }

pub sees : (word : Text) → IsUtf8 word → Sees word (look_of word)
sees [] text = (refl, refl, refl)
sees (first ∷ []) text = go (first == 45) refl
  where
    go : (a : Bool) → (first == 45) ≡ a → Sees (first ∷ []) plain
    go true e = rw e (refl, refl, refl)
    go false e = rw e (refl, refl, refl)
sees (first ∷ second ∷ bytes) text = go (first == 45) (second == 45) bytes text refl refl
  where
    go : (a b : Bool) (bs : Text) → IsUtf8 (first ∷ second ∷ bs) → (first == 45) ≡ a → (second == 45) ≡ b
        → Sees (first ∷ second ∷ bs) (cond a (cond b (look_behind_dashes bs) short) plain)
    go false b bs text e f = rw e (refl, refl, refl)
    go true false bs text e f = (rw (e, f) refl, rw (e, f) refl, one_dash first second bs text e f)
    go true true [] text e f = rw (e, f) refl
    go true true (x ∷ xs) text e f = (rw (e, f) refl, rw (e, f) refl)

-- What is answered of memory.
use Rattle.std.proofs.Common.{◌≡◌, ◌≢◌, ℕ, ◌+◌, ◌<◌, ◌≤◌, eqb, ◌==◌, not, Bool, true, false, List, [], ◌∷◌, ◌++◌, length, get_or, Option, Some, None, refl, ap, sym, ◌∙◌, subst, append_assoc, arith}
use Rattle.std.specs.Option.{option_eq}
use Rattle.std.proofs.lemmas.Bool.{eqb-false, eqb-true}
use Rattle.std.proofs.lemmas.Grind.{common_steps}
use Rattle.std.proofs.lemmas.List.{append-nil, length_push}
use Rattle.std.proofs.lemmas.Option.{none-some, same_Some}
use Rattle.std.proofs.lemmas.Slice.Eq.{bytes_eq-Decides}
use Rattle.std.specs.Str.{bytes_eq}
use Rattle.hex.specs.Hex.{encode_lower, encode_with}
use Rattle.gdb_packets.proofs.Digits.{encode-append}
use Rattle.mono_model.specs.declared.setup.Setup.{Setup}
use Rattle.func_model.specs.declared.trail.Trail.{Trail}
use Rattle.func_model.specs.Position.{byte_at}
use Rattle.func_model.specs.Trail.{TrailStandsFor}
use Rattle.gdb_model.specs.Talk.{bad, bytes_from, has_memory, hex_or_bad}
use Rattle.gdb_session.proofs.Looked.{bytes_all, bytes_end, bytes_more, bytes_there}

-- what holds once so many bytes from an address on are put behind a text
pub record Putting (s : Setup) (at addr count : ℕ) (old new : List ℕ) : Type 0 where
  pub full : length (bytes_from s at addr count) ≡ count
  pub text : new ≡ old ++ encode_lower (bytes_from s at addr count)

pub putting_start : (s : Setup) (at addr : ℕ) (text : List ℕ) → Putting s at addr 0 text text
unfolding encode_with
putting_start s at addr text = record { full = refl; text = sym (append-nil text) }

pub putting_more : (s : Setup) (at addr count byte : ℕ) (old mid new : List ℕ) → Putting s at addr count old mid → byte_at s at (addr + count) ≡ Some byte → new ≡ mid ++ encode_lower (byte ∷ []) →
    Putting s at addr (count + 1) old new
putting_more s at addr count byte old mid new so is told =
    let more : bytes_from s at addr (count + 1) ≡ bytes_from s at addr count ++ byte ∷ [] = bytes_more s at addr count byte so.full is in
    record {
      full = ap length more ∙ length_push (bytes_from s at addr count) byte ∙ ap (λ (n : ℕ). n + 1) so.full;
      text = told ∙ ap (λ (t : List ℕ). t ++ encode_lower (byte ∷ [])) so.text
          ∙ append_assoc old (encode_lower (bytes_from s at addr count)) (encode_lower (byte ∷ []))
          ∙ ap (λ (t : List ℕ). old ++ t) (sym (encode-append (bytes_from s at addr count) (byte ∷ [])) ∙ ap encode_lower (sym more));
    }

-- they end where nothing is
pub putting_end : (s : Setup) (at addr count most : ℕ) (old new : List ℕ) → Putting s at addr count old new → byte_at s at (addr + count) ≡ None → count ≤ most →
    (new ≡ old ++ encode_lower (bytes_from s at addr most)) × (count ≡ length (bytes_from s at addr most))
putting_end s at addr count most old new so none within =
    let same : bytes_from s at addr most ≡ bytes_from s at addr count = bytes_end s at addr count most so.full none within in
    (so.text ∙ ap (λ (bytes : List ℕ). old ++ encode_lower bytes) (sym same), sym (ap length same ∙ so.full))

-- the answer
pub none_bad : (bytes text : List ℕ) → length bytes ≡ 0 → text ≡ [] ++ encode_lower bytes → text ++ bad ≡ hex_or_bad bytes
unfolding encode_with
none_bad [] text none is = ap (λ (t : List ℕ). t ++ bad) is
none_bad (byte ∷ bytes) text none is = absurd (omega (arith, none))

pub some_hex : (bytes text : List ℕ) → length bytes ≢ 0 → text ≡ [] ++ encode_lower bytes → text ≡ hex_or_bad bytes
some_hex [] text some is = absurd (some refl)
some_hex (byte ∷ bytes) text some is = is

-- memory has some bytes, or others
never : {P : Type 0} → true ≡ false → P
never e = cc

pub memory_short : (s : Setup) (at addr count : ℕ) (bytes : List ℕ) → length bytes ≢ count → has_memory s at addr count bytes ≡ false
memory_short s at addr count bytes other =
    let first : (length bytes == count) ≡ false = grind (arith, common_steps, other) in
    rw first refl

pub memory_other : (s : Setup) (at addr count place : ℕ) (bytes : List ℕ) → length bytes ≡ count → place < length bytes → byte_at s at (addr + place) ≢ Some (get_or bytes place 0) →
    has_memory s at addr count bytes ≡ false
memory_other s at addr count place bytes all within other =
    let first : (length bytes == count) ≡ true = grind (arith, common_steps, all) in
    rw first (by (bytes_eq (bytes_from s at addr count) bytes) refl)
  where
    by : (same : Bool) → bytes_eq (bytes_from s at addr count) bytes ≡ same → same ≡ false
    by false is = refl
    by true is =
        let equal : bytes_from s at addr count ≡ bytes = (bytes_eq-Decides (bytes_from s at addr count) bytes).0 is in
        let inside : place < length (bytes_from s at addr count) = omega (arith, within, ap length equal) in
        absurd (other (bytes_there s at addr count place inside ∙ ap (λ (b : List ℕ). Some (get_or b place 0)) equal))

pub memory_same : (s : Setup) (at addr count : ℕ) (bytes : List ℕ) → length bytes ≡ count → ((k : ℕ) → k < length bytes → byte_at s at (addr + k) ≡ Some (get_or bytes k 0)) →
    has_memory s at addr count bytes ≡ true
memory_same s at addr count bytes all each =
    let first : (length bytes == count) ≡ true = grind (arith, common_steps, all) in
    let equal : bytes_from s at addr count ≡ bytes = ap (bytes_from s at addr) (sym all) ∙ bytes_all s at addr bytes each in
    rw first ((bytes_eq-Decides (bytes_from s at addr count) bytes).1 equal)

-- a byte that was compared with one that is wanted
is_byte : (found byte : ℕ) (b : Bool) → (found == byte) ≡ b → false ≡ not b → found ≡ byte
is_byte found byte true equal same = eqb-true found byte equal
is_byte found byte false equal same = never (sym same)

pub same_byte : (o : Option ℕ) (byte : ℕ) → false ≡ not (option_eq eqb o (Some byte)) → o ≡ Some byte
same_byte None byte same = never (sym same)
same_byte (Some found) byte same = ap Some (is_byte found byte (found == byte) refl same)

is_other : (found byte : ℕ) (b : Bool) → (found == byte) ≡ b → true ≡ not b → found ≢ byte
is_other found byte true equal other = λ same. never other
is_other found byte false equal other = eqb-false found byte equal

pub other_byte : (o : Option ℕ) (byte : ℕ) → true ≡ not (option_eq eqb o (Some byte)) → o ≢ Some byte
other_byte None byte other = λ same. none-some byte same
other_byte (Some found) byte other = λ same. is_other found byte (found == byte) refl other (same_Some found byte same)

-- what a debugger finds that stands where another stood
pub seen : {D : Type 0} (s : Setup) (opened now : Trail D) (o : Option ℕ) (addr : ℕ) → now ≡ opened → ((t : Setup) → TrailStandsFor t now → o ≡ byte_at t now.at addr) → TrailStandsFor s opened →
    byte_at s opened.at addr ≡ o
seen {D} s opened now o addr same told h =
    ap (λ (t : Trail D). byte_at s t.at addr) (sym same) ∙ sym (told s (subst (TrailStandsFor s) (sym same) h))

pub putting_done : (s : Setup) (at addr count most : ℕ) (old new : List ℕ) → Putting s at addr count old new → count ≡ most →
    (new ≡ old ++ encode_lower (bytes_from s at addr most)) × (most ≡ length (bytes_from s at addr most))
putting_done s at addr count most old new so all =
    (so.text ∙ ap (λ (n : ℕ). old ++ encode_lower (bytes_from s at addr n)) all, sym all ∙ sym so.full ∙ ap (λ (n : ℕ). length (bytes_from s at addr n)) all)

-- A frame is received whole.
use Rattle.std.proofs.Common.{◌≡◌, ℕ, zero, suc, ◌/◌, ◌%◌, ◌<◌, ◌==◌, ◌&&◌, inl, inr, Bool, true, List, [], ◌∷◌, ◌++◌, Option, Some, None, slice_index, unwrap_or, append_assoc, refl, ap, sym, ◌∙◌, arith}
use Rattle.std.proofs.lemmas.Bool.{and_parts, cases_lt, eqb-true}
use Rattle.std.proofs.lemmas.Grind.{common_steps}
use Rattle.std.proofs.lemmas.List.{append-nil}
use Rattle.std.specs.List.{list_all}
use Rattle.hex.specs.Hex.{lower_digits}
use Rattle.gdb_packets.specs.Frame.{checksum, frame}
use Rattle.gdb_packets.specs.Hexadecimal.{number_in}
use Rattle.gdb_packets.specs.Stream.{IsReceived, Stream, after, arrivals, is_plain, is_sum, next, started}
use Rattle.gdb_packets.specs.declared.arrival.Arrival.TheVariants.{Whole}
use Rattle.gdb_packets.specs.declared.place.Place.{Place}
use Rattle.gdb_packets.specs.declared.place.Place.TheVariants.{Outside, Content}
use Rattle.gdb_packets.proofs.Digits.{encode-byte}

-- the two digits of a byte
abbrev high : ℕ → ℕ
high byte = slice_index lower_digits (byte / 16)

abbrev low : ℕ → ℕ
low byte = slice_index lower_digits (byte % 16)

-- they write the byte: tried for each
abbrev reads_back : ℕ → Bool
reads_back byte = unwrap_or (number_in (high byte ∷ low byte ∷ [])) 256 == byte

abbrev all_read_back : ℕ → Bool
all_read_back zero = true
all_read_back (suc n) = reads_back n && all_read_back n

all_read_back-at : (n byte : ℕ) → all_read_back n ≡ true → byte < n → reads_back byte ≡ true
all_read_back-at zero byte all less = absurd (omega arith)
all_read_back-at (suc n) byte all less =
    let parts = and_parts (reads_back n) (all_read_back n) all in
    elim (cases_lt byte n) [
      | inl below ↦ all_read_back-at n byte parts.1 below
      | inr top ↦ let e : byte ≡ n = omega arith in rw e parts.0
    ]

some_from : (o : Option ℕ) (byte : ℕ) → byte < 256 → unwrap_or o 256 ≡ byte → o ≡ Some byte
some_from (Some n) byte less is = ap Some is
some_from None byte less is = absurd (omega arith)

number-byte : (byte : ℕ) → byte < 256 → number_in (high byte ∷ low byte ∷ []) ≡ Some byte
number-byte byte less =
    some_from (number_in (high byte ∷ low byte ∷ [])) byte less
    (eqb-true (unwrap_or (number_in (high byte ∷ low byte ∷ [])) 256) byte (all_read_back-at 256 byte refl less))

-- within a packet, with some content
abbrev within : List ℕ → Stream
within content = record { place = Content; content = content }

next-plain : (content : List ℕ) (byte : ℕ) → is_plain byte ≡ true → next (within content) byte ≡ within (content ++ byte ∷ [])
next-plain content byte plain = grind (arith, common_steps, plain)

after-plain : (front content rest : List ℕ) → list_all is_plain content ≡ true → after (within front) (content ++ rest) ≡ after (within (front ++ content)) rest
unfolding after
after-plain front [] rest plain = ap (λ (content : List ℕ). after (within content) rest) (sym (append-nil front))
after-plain front (byte ∷ content) rest plain =
    let parts = and_parts (is_plain byte) (list_all is_plain content) plain in
    ap (λ (s : Stream). after s (content ++ rest)) (next-plain front byte parts.0)
    ∙ after-plain (front ++ byte ∷ []) content rest parts.1
    ∙ ap (λ (all : List ℕ). after (within all) rest) (append_assoc front (byte ∷ []) content)

arrivals-plain : (front content rest : List ℕ) → list_all is_plain content ≡ true → arrivals (within front) (content ++ rest) ≡ arrivals (within (front ++ content)) rest
unfolding arrivals
arrivals-plain front [] rest plain = ap (λ (content : List ℕ). arrivals (within content) rest) (sym (append-nil front))
arrivals-plain front (byte ∷ content) rest plain =
    let parts = and_parts (is_plain byte) (list_all is_plain content) plain in
    ap (λ (s : Stream). arrivals s (content ++ rest)) (next-plain front byte parts.0)
    ∙ arrivals-plain (front ++ byte ∷ []) content rest parts.1
    ∙ ap (λ (all : List ℕ). arrivals (within all) rest) (append_assoc front (byte ∷ []) content)

-- a frame byte by byte
spelled : (content : List ℕ) → frame content ≡ 36 ∷ (content ++ 35 ∷ high (checksum content) ∷ low (checksum content) ∷ [])
spelled content = ap (λ (digits : List ℕ). 36 ∷ (content ++ 35 ∷ digits)) (encode-byte (checksum content))

is_sum-own : (content : List ℕ) → is_sum (high (checksum content)) (low (checksum content)) content ≡ true
is_sum-own content =
    let less : checksum content < 256 = omega arith in
    rw (number-byte (checksum content) less) (grind (arith, common_steps))

-- its end
arrivals-end : (content : List ℕ) → arrivals (within content) (35 ∷ high (checksum content) ∷ low (checksum content) ∷ []) ≡ Whole ∷ []
unfolding arrivals
arrivals-end content = rw (is_sum-own content) refl

after-end : (content : List ℕ) → after (within content) (35 ∷ high (checksum content) ∷ low (checksum content) ∷ []) ≡ record { place = Outside; content = content }
unfolding after
after-end content = refl

from_outside : (s : Stream) → s.place ≡ Outside → s ≡ record { place = Outside; content = s.content }
from_outside s outside = ap (λ (place : Place). let t : Stream = record { place = place; content = s.content } in t) outside

arrivals-begun : (content rest : List ℕ) → arrivals (record { place = Outside; content = content }) (36 ∷ rest) ≡ arrivals started rest
unfolding arrivals
arrivals-begun content rest = refl

after-begun : (content rest : List ℕ) → after (record { place = Outside; content = content }) (36 ∷ rest) ≡ after started rest
unfolding after
after-begun content rest = refl

pub received : (s : Stream) (content : List ℕ) → s.place ≡ Outside → list_all is_plain content ≡ true → IsReceived s content
received s content outside plain =
    let tail : List ℕ = 35 ∷ high (checksum content) ∷ low (checksum content) ∷ [] in
    record {
      one =
          ap (λ (t : Stream). arrivals t (frame content)) (from_outside s outside)
          ∙ ap (arrivals (record { place = Outside; content = s.content })) (spelled content)
          ∙ arrivals-begun s.content (content ++ tail) ∙ arrivals-plain [] content tail plain ∙ arrivals-end content;
      stream =
          ap (λ (t : Stream). after t (frame content)) (from_outside s outside)
          ∙ ap (after (record { place = Outside; content = s.content })) (spelled content)
          ∙ after-begun s.content (content ++ tail) ∙ after-plain [] content tail plain ∙ after-end content;
    }

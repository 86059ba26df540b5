-- A text that GDB shows, piece by piece.
use Rattle.std.proofs.Common.{◌≡◌, ℕ, zero, suc, ◌+◌, ◌-◌, ◌*◌, ◌/◌, ◌<◌, ◌≤◌, min, List, [], ◌∷◌, ◌++◌, codes, length, map, take, drop, Option, Some, None, refl, ap, sym, ◌∙◌, subst, append_assoc, append-nil, length-append, length-drop, arith, inl, inr}
use Rattle.std.proofs.lemmas.Bool.{cases_lt}
use Rattle.std.proofs.lemmas.List.{drop-drop, drop_at, nil_from_length, take_all, take_at}
use Rattle.std.specs.Fork.{slice_chunk}
use Rattle.std.specs.List.{flat_map, range_with_len}
use Rattle.hex.specs.Hex.{encode_lower}
use Rattle.fsim_ports.specs.Sink.{Breaks, grown}
use Rattle.fsim_ports.proofs.Writing.{breaks_first, breaks_second, grown_twice}
use Rattle.gdb_packets.specs.Frame.{frame}
use Rattle.gdb_model.specs.Answer.{pieces, shown_text}

-- pieces of what is left are those of the whole, one further
map_further : (f g : ℕ → List ℕ) → ((k : ℕ) → f (k + 1) ≡ g k) → (at count : ℕ) → map f (range_with_len (at + 1) count) ≡ map g (range_with_len at count)
map_further f g same at zero = refl
map_further f g same at (suc count) =
    ap (λ (x : List ℕ). x ∷ map f (range_with_len (at + 1 + 1) count)) (same at) ∙ ap (λ (xs : List (List ℕ)). g at ∷ xs) (map_further f g same (at + 1) count)

chunk_further : (text : List ℕ) (k : ℕ) → slice_chunk text 2047 (k + 1) ≡ slice_chunk (drop 2047 text) 2047 k
chunk_further text k =
    let further : (k + 1) * 2047 ≡ 2047 + k * 2047 = omega arith in
    ap (λ (n : ℕ). take 2047 (drop n text)) further ∙ ap (take 2047) (sym (drop-drop (k * 2047) 2047 text))

count_more : (n left : ℕ) → 0 < n → left ≡ n - 2047 → (n + 2046) / 2047 ≡ suc ((left + 2046) / 2047)
count_more n left some is = omega (arith, some, is)

pieces_more : (text : List ℕ) → 0 < length text → pieces text ≡ take 2047 text ∷ pieces (drop 2047 text)
pieces_more text some =
    let left : ℕ = (length (drop 2047 text) + 2046) / 2047 in
    ap (λ (n : ℕ). map (slice_chunk text 2047) (range_with_len 0 n)) (count_more (length text) (length (drop 2047 text)) some (length-drop 2047 text))
    ∙ ap (λ (xs : List (List ℕ)). take 2047 text ∷ xs) (map_further (slice_chunk text 2047) (slice_chunk (drop 2047 text) 2047) (chunk_further text) 0 left)

-- a packet that GDB shows
abbrev pub shown_piece : List ℕ → List ℕ
shown_piece piece = frame (codes "O" ++ encode_lower piece)

-- the first piece of a text, and the rest
is_first : (all piece rest : List ℕ) → all ≡ piece ++ rest → length piece ≡ min 2047 (length all) → (take 2047 all ≡ piece) × (drop 2047 all ≡ rest)
is_first all piece rest parts size = elim (cases_lt (length all) 2047) [
  | inl short ↦
      let sum = ap (length {A = ℕ}) parts ∙ length-append piece rest in
      let none : rest ≡ [] = nil_from_length rest (omega (arith, sum, size, short)) in
      let whole : all ≡ piece = parts ∙ ap (λ (xs : List ℕ). piece ++ xs) none ∙ append-nil piece in
      let gone : drop 2047 all ≡ [] = nil_from_length (drop 2047 all) (omega (arith, length-drop 2047 all, short)) in
      (take_all 2047 all (omega (arith, short)) ∙ whole, gone ∙ sym none)
  | inr long ↦
      let full : length piece ≡ 2047 = omega (arith, size, long) in
      (ap (take 2047) parts ∙ take_at piece rest 2047 full, ap (drop 2047) parts ∙ drop_at piece rest 2047 full)
]

pub shown_more : (all piece rest : List ℕ) → all ≡ piece ++ rest → length piece ≡ min 2047 (length all) → 0 < length all → shown_text all ≡ shown_piece piece ++ shown_text rest
shown_more all piece rest parts size some =
    let first = is_first all piece rest parts size in
    ap (flat_map shown_piece) (pieces_more all some)
    ∙ ap (λ (p : List ℕ). shown_piece p ++ shown_text (drop 2047 all)) first.0
    ∙ ap (λ (r : List ℕ). shown_piece piece ++ shown_text r) first.1

-- so much of a text was shown, and this is left
pub record Showing (text left : List ℕ) (before now : ℕ) (old new : Option (List ℕ)) : Type 0 where
  pub count : before ≤ now
  pub done : List ℕ
  pub parts : shown_text text ≡ done ++ shown_text left
  pub written : new ≡ grown old done

grown_none : (old : Option (List ℕ)) → old ≡ grown old []
grown_none None = refl
grown_none (Some written) = ap Some (sym (append-nil written))

pub showing_start : (text left : List ℕ) (faults : ℕ) (old : Option (List ℕ)) → left ≡ text → Showing text left faults faults old old
showing_start text left faults old same = record {
  count = omega arith;
  done = [];
  parts = ap shown_text (sym same);
  written = grown_none old;
}

pub showing_more : (text all piece rest : List ℕ) {before now later : ℕ} {old mid new : Option (List ℕ)} → Showing text all before now old mid → all ≡ piece ++ rest → length piece ≡ min 2047 (length all) → 0 < length all →
    now ≤ later → new ≡ grown mid (shown_piece piece) → Showing text rest before later old new
showing_more text all piece rest {before} {now} {later} {old} {mid} {new} at parts size some rose put = record {
  count = omega (arith, at.count, rose);
  done = at.done ++ shown_piece piece;
  parts = at.parts ∙ ap (λ (t : List ℕ). at.done ++ t) (shown_more all piece rest parts size some) ∙ sym (append_assoc at.done (shown_piece piece) (shown_text rest));
  written = put ∙ ap (λ (w : Option (List ℕ)). grown w (shown_piece piece)) at.written ∙ grown_twice old at.done (shown_piece piece);
}

pub showing_breaks : (text all piece rest : List ℕ) {before now later : ℕ} {old mid new : Option (List ℕ)} → Showing text all before now old mid → all ≡ piece ++ rest → length piece ≡ min 2047 (length all) → 0 < length all →
    Breaks (shown_piece piece) now later mid new → Breaks (shown_text text) before later old new
showing_breaks text all piece rest {before} {now} {later} {old} {mid} {new} at parts size some broken =
    let P : List ℕ → Type 0 = λ t. Breaks t before later old new in
    let whole : Breaks (at.done ++ (shown_piece piece ++ shown_text rest)) before later old new =
    breaks_second at.done at.written at.count (breaks_first (shown_text rest) (omega arith) broken) in
    subst P (ap (λ (t : List ℕ). at.done ++ t) (sym (shown_more all piece rest parts size some)) ∙ sym at.parts) whole

pub showing_done : (text left : List ℕ) {before now : ℕ} {old new : Option (List ℕ)} → Showing text left before now old new → length left ≡ 0 → new ≡ grown old (shown_text text)
showing_done text left {before} {now} {old} {new} at none =
    let over : shown_text text ≡ at.done = at.parts ∙ ap (λ (r : List ℕ). at.done ++ shown_text r) (nil_from_length left none) ∙ append-nil at.done in
    at.written ∙ ap (grown old) (sym over)

-- The lines of a stack, one by one and together.
use Rattle.std.proofs.Common.{◌≡◌, ◌∙◌, ◌<◌, ◌+◌, ℕ, zero, suc, List, ◌++◌, codes, length, map, take, get_or, Option, refl, ap, sym, arith}
use Rattle.std.specs.Prelude.{decimal, zip}
use Rattle.std.specs.List.{range_with_len}
use Rattle.std.proofs.lemmas.List.{get_or-map, get_or-take, get_or_default, length-map}
use Rattle.std.proofs.lemmas.Slice.Zip.{get_or-zip, length-zip}
use Rattle.fsim_ports.specs.Sink.{Breaks, grown}
use Rattle.fsim_ports.proofs.Writing.{breaks_first, grown_twice}
use Rattle.mono_model.specs.Report.{Text, count_line, joined}
use Rattle.report_text.specs.declared.stack.StackCounts.{StackCounts}
use Rattle.report_text.specs.StackText.{left_lines_of}
use Rattle.report_text.proofs.Lines.{joined-append}

-- the text of the pair at an index
module _ {A : Type 0} (text : A × ℕ → Text) (names : List A) (numbers : List ℕ) (i : ℕ) (in_names : i < length names) (in_numbers : i < length numbers) where
  pub pair_within : i < length (map text (zip names numbers))
  pair_within = omega (arith, in_names, in_numbers, length-map (zip names numbers) text, length-zip names numbers)

  pub pair_text : (name : A) (number : ℕ) → ((d : A) → name ≡ get_or names i d) → ((d : ℕ) → number ≡ get_or numbers i d) → text (name, number) ≡ get_or (map text (zip names numbers)) i (text (name, number))
  pair_text name number name_is number_is =
      let zipped : i < length (zip names numbers) = omega (arith, in_names, in_numbers, length-zip names numbers) in
      let here : get_or (zip names numbers) i (name, number) ≡ (get_or names i name, get_or numbers i number) = get_or-zip names numbers i (name, number) in_names in_numbers in
      sym (get_or-map text (zip names numbers) i (name, number) (text (name, number)) zipped ∙ ap text here ∙ (λ j. text (sym (name_is name) j, sym (number_is number) j)))

-- the numbers from one on
pub length-range : (from count : ℕ) → length (range_with_len from count) ≡ count
length-range from zero = refl
length-range from (suc count) = ap suc (length-range (from + 1) count)

pub get_or-range : (from count i d : ℕ) → i < count → get_or (range_with_len from count) i d ≡ from + i
get_or-range from zero i d within = absurd (omega (arith, within))
get_or-range from (suc count) zero d within = omega arith
get_or-range from (suc count) (suc i) d within = let next : from + 1 + i ≡ from + suc i = omega arith in get_or-range (from + 1) count i d (omega (arith, within)) ∙ next

-- the lines of how many left
module _ (width : ℕ) (counts : StackCounts) (width_below : width < length counts.left) where
  abbrev left_text : ℕ × ℕ → Text
  left_text = λ k. count_line (codes "left." ++ decimal k.0 ++ codes ": ") k.1

  pub left_many : length (left_lines_of width counts) ≡ width + 1
  left_many =
      omega (arith, width_below, length-map (zip (range_with_len 0 (width + 1)) counts.left) left_text, length-zip (range_with_len 0 (width + 1)) counts.left, length-range 0 (width + 1))

  pub left_within : (i : ℕ) → i < width + 1 → i < length (left_lines_of width counts)
  left_within i within = omega (arith, within, left_many)

  pub left_at : (i : ℕ) → i < width + 1 → let number = get_or (take (width + 1) counts.left) i 0 in left_text (i, number) ≡ get_or (left_lines_of width counts) i (left_text (i, number))
  left_at i within =
      pair_text left_text (range_with_len 0 (width + 1)) counts.left i (omega (arith, within, length-range 0 (width + 1))) (omega (arith, within, width_below)) i (get_or (take (width + 1) counts.left) i 0)
      (λ d. let here : 0 + i ≡ i = omega arith in sym (get_or-range 0 (width + 1) i d within ∙ here))
      (λ d. get_or-take (width + 1) counts.left i 0 within ∙ get_or_default counts.left i 0 d (omega (arith, within, width_below)))

-- all lines
pub four_joined : (a b c d : List Text) → joined a ++ joined b ++ joined c ++ joined d ≡ joined (a ++ b ++ c ++ d)
four_joined a b c d =
    sym (joined-append (a ++ b ++ c) d ∙ ap (λ t. t ++ joined d) (joined-append (a ++ b) c ∙ ap (λ t. t ++ joined c) (joined-append a b)))

-- what the first two write together; where the first breaks off, so do both
pub two_written : (a b : Text) (old one : Option (List ℕ)) {two : Option (List ℕ)} → one ≡ grown old a → two ≡ grown one b → two ≡ grown old (a ++ b)
two_written a b old one first second = second ∙ ap (λ w. grown w b) first ∙ grown_twice old a b

pub breaks_before : (a b : Text) {before after : ℕ} {old new : Option (List ℕ)} → Breaks a before after old new → Breaks (a ++ b) before after old new
breaks_before a b {after = after} broken = breaks_first {middle = after} b (omega arith) broken

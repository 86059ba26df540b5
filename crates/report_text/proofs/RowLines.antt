-- The lines of some rows, of those that are listed, as they are written one after the other.
use Rattle.std.proofs.Common.{◌≡◌, ◌∙◌, ℕ, ◌+◌, ◌≤◌, ◌<◌, Bool, true, false, List, [], ◌∷◌, ◌++◌, length, map, take, drop, get_or, Option, Some, None, refl, sym, ap, subst, arith, add-one}
use Rattle.std.specs.Prelude.{filter, if◌then◌else◌, unwrap_or}
use Rattle.std.proofs.Math.Seq.{take-suc}
use Rattle.std.proofs.lemmas.List.{append-nil, map-append, take-append-drop}
use Rattle.std.proofs.lemmas.List.Elements.{filter-append}
use Rattle.fsim_ports.specs.Sink.{Breaks, grown}
use Rattle.fsim_ports.proofs.Writing.{breaks_first, breaks_second}
use Rattle.mono_model.specs.Report.{Text, joined}
use Rattle.insight_model.specs.Profile.{other_row}
use Rattle.report_text.specs.RowText.{row_number}
use Rattle.report_text.proofs.Lines.{joined-append}

-- nothing more was written
pub grown_nothing : (old : Option Text) → old ≡ grown old []
grown_nothing None = refl
grown_nothing (Some text) = ap Some (sym (append-nil text))

pub number_is : (addr : Option ℕ) → row_number addr ≡ unwrap_or addr other_row
number_is None = refl
number_is (Some addr) = refl

abbrev pub one_text : Bool → Text → Text
one_text b text = if b then text else []

-- by the line of each row, and by whether it is listed
module _ (line : ℕ → Text) (is_listed : ℕ → Bool) where
  abbrev pub text_of : List ℕ → Text
  text_of rows = joined (map line (filter is_listed rows))

  text-append : (xs ys : List ℕ) → text_of (xs ++ ys) ≡ text_of xs ++ text_of ys
  text-append xs ys =
      ap joined (ap (map line) (filter-append is_listed xs ys) ∙ map-append line (filter is_listed xs) (filter is_listed ys))
      ∙ joined-append (map line (filter is_listed xs)) (map line (filter is_listed ys))

  one_of : (row : ℕ) (b : Bool) → is_listed row ≡ b → text_of (row ∷ []) ≡ one_text b (line row)
  one_of row true is = ap (λ (b : Bool). joined (map line (if b then row ∷ [] else []))) is ∙ append-nil (line row)
  one_of row false is = ap (λ (b : Bool). joined (map line (if b then row ∷ [] else []))) is

  -- one more row
  module _ (rows : List ℕ) (place d : ℕ) (text : Text) (within : place < length rows) (here : text ≡ one_text (is_listed (get_or rows place d)) (line (get_or rows place d))) where
    pub row_next : text_of (take (place + 1) rows) ≡ text_of (take place rows) ++ text
    row_next =
        rw add-one
        (ap text_of (take-suc rows place d within)
        ∙ text-append (take place rows) (get_or rows place d ∷ [])
        ∙ ap (λ (t : Text). text_of (take place rows) ++ t) (one_of (get_or rows place d) (is_listed (get_or rows place d)) refl ∙ sym here))

    -- a row that breaks off
    pub row_breaks : {before middle after : ℕ} {old mid new : Option Text} → before ≤ middle → mid ≡ grown old (text_of (take place rows)) → Breaks text middle after mid new →
        Breaks (text_of rows) before after old new
    row_breaks {before} {middle} {after} {old} {mid} {new} later written broken =
        let P : Text → Type 0 = λ t. Breaks t before after old new in
        let there : P (text_of (take place rows) ++ text) = breaks_second (text_of (take place rows)) written later broken in
        let front : P (text_of (take (place + 1) rows)) = subst P (sym row_next) there in
        let whole : P (text_of (take (place + 1) rows) ++ text_of (drop (place + 1) rows)) = breaks_first (text_of (drop (place + 1) rows)) (omega arith) front in
        subst P (sym (text-append (take (place + 1) rows) (drop (place + 1) rows)) ∙ ap text_of (take-append-drop (place + 1) rows)) whole

-- The rows of a count, as they are written one after the other.
use Rattle.std.proofs.Common.{◌≡◌, ◌∙◌, ℕ, ◌+◌, ◌≤◌, ◌<◌, nat_lt, List, [], ◌∷◌, length, map, take, get_or, Option, Some, refl, sym, ap, subst, arith}
use Rattle.std.specs.Prelude.{◌||◌, if◌then◌else◌, slice_get, unwrap_or}
use Rattle.std.proofs.lemmas.Option.{slice_get_within, unwrap_or-slice_get}
use Rattle.fsim_ports.specs.Sink.{grown}
use Rattle.mono_model.specs.Report.{Text, joined}
use Rattle.elf_image.specs.declared.image.Image.{Image}
use Rattle.text_rows.specs.Rows.{AreRowsOf}
use Rattle.insight_model.specs.Count.{Executed, count_row, count_rows}
use Rattle.insight_model.specs.Profile.{numbers_line, other_row}
use Rattle.insight_laws.proofs.Listed.{has_row, rows_listed}
use Rattle.insight_laws.proofs.TextRows.{address_at, addresses, addresses_length, addresses_rise}
use Rattle.report_text.specs.RowText.{row_number}
use Rattle.report_text.proofs.RowLines.{number_is, one_text, text_of}
use Rattle.instruction_count.specs.declared.counts.InstructionCounts.{InstructionCounts}
use Rattle.instruction_count.specs.declared.row.CountRow.{CountRow}
use Rattle.instruction_count.specs.Counted.{AreCountsOf, IsCountRow, has_some, row_address, row_text, run_events}
use Rattle.instruction_count.proofs.Addresses.{all_stand}
use Rattle.instruction_count.proofs.Counted.{has_counted}

-- the lines of some rows: of those in which something was counted
abbrev pub lines_to : Image → List Executed → List ℕ → Text
lines_to image run rows = text_of (count_row image run (run_events image run)) (λ row. has_row row (run_events image run)) rows

-- all rows
pub text_all : (image : Image) (run : List Executed) (rows : List ℕ) → AreRowsOf image rows → joined (count_rows image run (run_events image run)) ≡ lines_to image run (addresses rows)
text_all image run rows are =
    ap (λ (rs : List ℕ). joined (map (count_row image run (run_events image run)) rs))
    (rows_listed (addresses rows) (run_events image run) (addresses_rise rows are.rising are.fit) (all_stand image rows are run))

-- the line that is written of a row
pub line_is : (image : Image) (run : List Executed) (row : ℕ) (counted : CountRow) → IsCountRow image run row counted →
    numbers_line row counted.word (counted.retired ∷ counted.trapped ∷ counted.taken ∷ []) ≡ count_row image run (run_events image run) row
line_is image run row counted is =
    λ i. numbers_line row (is.word i) (is.retired i ∷ is.trapped i ∷ is.taken i ∷ [])

-- whether it is written
pub counted_is : (image : Image) (run : List Executed) (row : ℕ) (counted : CountRow) → IsCountRow image run row counted →
    has_row row (run_events image run) ≡ (nat_lt 0 counted.retired || nat_lt 0 counted.trapped)
counted_is image run row counted is = has_counted image run row ∙ sym (λ i. nat_lt 0 (is.retired i) || nat_lt 0 (is.trapped i))

module _ (image : Image) (run : List Executed) (counts : InstructionCounts) (place : ℕ) (counted : CountRow) (are : AreCountsOf image run counts) (there : slice_get counts.counts.items place ≡ Some counted) where
  abbrev own : ℕ
  own = get_or (addresses counts.rows) place other_row

  own_is : own ≡ row_address counts.rows place
  own_is = address_at counts.rows place

  own_row : IsCountRow image run own counted
  own_row = let P : ℕ → Type 0 = λ row. IsCountRow image run row counted in subst P (sym own_is) (are.counted place counted there)

  pub within : place < length (addresses counts.rows)
  within = omega (arith, slice_get_within counts.counts.items place counted there, are.each, addresses_length counts.rows)

  named : row_number (slice_get counts.rows place) ≡ own
  named = number_is (slice_get counts.rows place) ∙ unwrap_or-slice_get counts.rows place other_row ∙ sym own_is

  pub some_is : has_row own (run_events image run) ≡ has_some counted
  some_is = counted_is image run own counted own_row

  abbrev line : Text
  line = numbers_line (row_number (slice_get counts.rows place)) counted.word (counted.retired ∷ counted.trapped ∷ counted.taken ∷ [])

  line_here : line ≡ count_row image run (run_events image run) own
  line_here = ap (λ (row : ℕ). numbers_line row counted.word (counted.retired ∷ counted.trapped ∷ counted.taken ∷ [])) named ∙ line_is image run own counted own_row

  -- what is written of it
  pub text_is : row_text (slice_get counts.rows place) counted ≡ one_text (has_row own (run_events image run)) (count_row image run (run_events image run) own)
  text_is = λ i. if sym some_is i then line_here i else []

-- the first rows were written
pub record WritesRows (counts : InstructionCounts) (done before now : ℕ) (old new : Option Text) : Type 0 where
  pub count : before ≤ now
  pub written : (image : Image) (run : List Executed) → AreCountsOf image run counts → new ≡ grown old (lines_to image run (take done (addresses counts.rows)))

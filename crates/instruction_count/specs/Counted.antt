-- What was counted of a run's instructions.
use Rattle.std.specs.Prelude.{◌≡◌, ℕ, ◌+◌, ◌≤◌, ◌||◌, nat_lt, if◌then◌else◌, Bool, false, Option, Some, List, [], ◌∷◌, length, slice_get, slice_index_or, flat_map, sum_by}
use Rattle.elf_image.specs.declared.image.Image.{Image}
use Rattle.func_model.specs.declared.told.Executed.{Executed as ToldExecuted}
use Rattle.mono_model.specs.declared.setup.Setup.{Setup}
use Rattle.mono_model.specs.Alone.{alone_start}
use Rattle.mono_model.specs.Report.{Text}
use Rattle.text_rows.specs.Rows.{AreRowsOf}
use Rattle.report_text.specs.RowText.{row_number}
use Rattle.insight_model.specs.Count.{Executed, executed_events, executed_from, executed_word}
use Rattle.insight_model.specs.Profile.{Column, Event, amount_in, numbers_line, other_row, own_events, retired, rows_of, taken, trapped}
use Rattle.instruction_count.specs.declared.counts.InstructionCounts.{InstructionCounts}
use Rattle.instruction_count.specs.declared.row.CountRow.{CountRow}

-- what is told of an instruction is this instruction; where one that traps leads to isn't counted
pub record Tells (told : ToldExecuted) (x : Executed) : Type 0 where
  pub addr : told.addr ≡ x.addr
  pub word : told.word ≡ x.word
  pub trap : told.has_trapped ≡ x.has_trapped
  pub next : x.has_trapped ≡ false → told.next ≡ x.next

-- the events of a run's instructions
abbrev pub run_events : Image → List Executed → List Event
run_events image run = flat_map (executed_events image) run

-- the address that a row has in the definition: that of its word, and another one after all of them
abbrev pub row_address : List ℕ → ℕ → ℕ
row_address rows place = slice_index_or rows place other_row

-- a row has its counts among some events, and the word of the last instruction
pub record IsCountRow (image : Image) (run : List Executed) (row : ℕ) (counted : CountRow) : Type 0 where
  pub word : counted.word ≡ executed_word image row run
  pub retired : counted.retired ≡ amount_in retired (own_events row (run_events image run))
  pub trapped : counted.trapped ≡ amount_in trapped (own_events row (run_events image run))
  pub taken : counted.taken ≡ amount_in taken (own_events row (run_events image run))
  pub few : counted.retired + counted.trapped ≤ length run
  pub fewer : counted.taken ≤ counted.retired

-- something was counted in a row
abbrev pub has_some : CountRow → Bool
has_some counted = nat_lt 0 counted.retired || nat_lt 0 counted.trapped

-- the line of a row, if something was counted in it
abbrev pub row_text : Option ℕ → CountRow → Text
row_text addr counted =
    if has_some counted then numbers_line (row_number addr) counted.word (counted.retired ∷ counted.trapped ∷ counted.taken ∷ []) else []

-- the counts are those of a run
pub record AreCountsOf (image : Image) (run : List Executed) (counts : InstructionCounts) : Type 0 where
  pub rows : AreRowsOf image counts.rows
  pub each : length counts.counts.items ≡ length counts.rows + 1
  pub counted : (place : ℕ) (row : CountRow) → slice_get counts.counts.items place ≡ Some row
      → IsCountRow image run (row_address counts.rows place) row

-- what a column of a whole run adds up to, over its rows
abbrev pub column_total : Column → Setup → ℕ
column_total column s =
    let all = run_events s.image (executed_from s s.cycles (alone_start s)) in
    sum_by (λ row. amount_in column (own_events row all)) (rows_of all)

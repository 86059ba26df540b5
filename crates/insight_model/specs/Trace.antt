-- The pipeline trace: the text that the viewer Konata reads (Kanata log format, version 0004). A record of the window is
-- introduced by a line `I`, and later lines name it by its number in the file; `R` is its last one. `C` lines tell of time.
use Rattle.std.specs.Prelude.{ℕ, ◌+◌, ◌-◌, ◌==◌, ◌&&◌, not, min, max, nat_lt, if◌then◌else◌, Bool, true, false, is_some, Option, Some, None, unwrap_or, option_and_then, List, [], ◌∷◌, ◌++◌, codes, decimal, drop, take, length, map, reverse, zip}
use Rattle.std.specs.List.{join_with_byte}
use Rattle.std.specs.Option.{option_map_or}
use Rattle.fsim_base.specs.Cause.{cause_number}
use Rattle.fsim_base.specs.declared.access.Access.{Access}
use Rattle.fsim_base.specs.declared.access.Access.TheVariants as access
use Rattle.fsim_base.specs.declared.access.Spot.{Spot}
use Rattle.fsim_base.specs.declared.access.Spot.TheVariants.{Ram, Device, Nowhere}
use Rattle.disassembly.specs.Text.{word_text}
use Rattle.mono_model.specs.declared.params.Params.{Params}
use Rattle.mono_model.specs.declared.setup.Setup.{Setup}
use Rattle.mono_model.specs.Report.{Text, hex, joined, line_feed}
use Rattle.insight_model.specs.declared.pipeline.Pipeline.{Pipeline}
use Rattle.insight_model.specs.Cause.{cause_name}
use Rattle.insight_model.specs.Sight.{Outcome, Shown, Sight, outcome_shown, access_shown, first_source_shown, second_source_shown, writes_shown, gives_value}
use Rattle.insight_model.specs.OfState.{sights}
use Rattle.insight_model.specs.Facts.{Facts, Kept, departed, facts_between}
use Rattle.insight_model.specs.Accesses.{has_begun, load_made, miss_after}
use Rattle.insight_model.specs.Cell.{Cell, cell, cell_letter, is_cell}

-- What the file has told of a record of the window: its number there, how many cycles its miss adds, and its newest cell.
pub record Mark : Type 0 where
  pub number : ℕ
  pub added : ℕ
  pub shown : Cell

pub record Tracing : Type 0 where
  pub marks : List Mark
  -- how many records were introduced, and the cycle of the line before
  pub introduced : ℕ
  pub at : ℕ

-- The lines: fields with tabs between them.
abbrev pub tabbed : List Text → Text
tabbed fields = join_with_byte 9 fields ++ line_feed

abbrev pub cycles_line : ℕ → Text
cycles_line count = tabbed (codes "C" ∷ decimal count ∷ [])

abbrev pub label_line : ℕ → Text → Text → Text
label_line number pane told = tabbed (codes "L" ∷ decimal number ∷ pane ∷ told ∷ [])

abbrev pub cell_line : ℕ → Cell → Text
cell_line number now = tabbed (codes "S" ∷ decimal number ∷ codes "0" ∷ cell_letter now ∷ [])

-- the last line of a record: it left, or it was squashed
abbrev pub last_line : ℕ → ℕ → Text → Text
last_line number place kind = tabbed (codes "R" ∷ decimal number ∷ decimal place ∷ kind ∷ [])

abbrev pub producer_line : ℕ → ℕ → Text
producer_line number producer = tabbed (codes "W" ∷ decimal number ∷ decimal producer ∷ codes "0" ∷ [])

abbrev pub note_line : ℕ → Text → Text
note_line number note = label_line number (codes "1") (note ++ codes "; ")

abbrev pub lines_if : Bool → List Text → List Text
lines_if true lines = lines
lines_if false lines = []

-- A record is introduced: by its number in the file and its place in the run, by address, word and text, and by its cell.
abbrev pub shown_text : Shown → Text
shown_text rec =
    hex 8 rec.addr ++ codes ": " ++ hex 8 (unwrap_or rec.word 0) ++ codes " "
    ++ option_map_or (word_text rec.addr) rec.word (codes "not fetched")

abbrev pub introduction : ℕ → ℕ → Cell → Shown → List Text
introduction number place now rec =
    tabbed (codes "I" ∷ decimal number ∷ decimal place ∷ codes "0" ∷ [])
    ∷ label_line number (codes "0") (shown_text rec)
    ∷ cell_line number now
    ∷ []

-- First those that left; the last of them may have trapped.
abbrev pub trap_note : ℕ → Outcome → List Text
trap_note number o = option_map_or (λ cause. note_line number (codes "trap " ++ decimal (cause_number cause)) ∷ []) o.cause []

abbrev pub trap_notes : Bool → List Shown → Shown → ℕ → List Text
trap_notes true [] rec number = option_map_or (trap_note number) (outcome_shown rec) []
trap_notes trapped others rec number = []

abbrev pub left_lines : Bool → ℕ → List Shown → List Mark → List Text
left_lines trapped place [] marks = []
left_lines trapped place (rec ∷ rest) [] = []
left_lines trapped place (rec ∷ rest) (mark ∷ marks) =
    trap_notes trapped rest rec mark.number
    ++ last_line mark.number place (codes "0") ∷ left_lines trapped (place + 1) rest marks

-- Then those that were squashed, and by what. One may have been mispredicted.
abbrev pub is_place : ℕ → Option ℕ → Bool
is_place place found = option_map_or (λ wrong. wrong == place) found false

abbrev pub wrong_note : ℕ → Shown → Outcome → Text
wrong_note number rec o =
    note_line number (codes "mispredicted: to " ++ hex 8 o.next ++ codes ", predicted " ++ hex 8 rec.predicted)

abbrev pub wrong_notes : Bool → ℕ → Shown → List Text
wrong_notes wrong number rec = lines_if wrong (option_map_or (λ o. wrong_note number rec o ∷ []) (outcome_shown rec) [])

abbrev pub flush_name : Facts → Text
flush_name f = option_map_or (λ flush. cause_name flush.cause) f.flush []

abbrev pub squashed_lines : Facts → ℕ → List Shown → List Mark → List Text
squashed_lines f place [] marks = []
squashed_lines f place (rec ∷ rest) [] = []
squashed_lines f place (rec ∷ rest) (mark ∷ marks) =
    wrong_notes (is_place place f.mispredicted) mark.number rec
    ++ note_line mark.number (codes "squashed: " ++ flush_name f)
    ∷ last_line mark.number (f.number + length f.left + place) (codes "1")
    ∷ squashed_lines f (place + 1) rest marks

-- Then those that stayed: the access of one that began, its miss, that it was mispredicted, and its cell if that is new.
abbrev pub spot_text : Spot → Text
spot_text Ram = []
spot_text Device = codes " device"
spot_text Nowhere = codes " nowhere"

abbrev pub access_notes : ℕ → Access → List Text
access_notes number access.Nothing = []
access_notes number (access.Load addr width spot) = note_line number (codes "load " ++ hex 8 addr ++ spot_text spot) ∷ []
access_notes number (access.Store addr width spot) = note_line number (codes "store " ++ hex 8 addr ++ spot_text spot) ∷ []

abbrev pub marked_after : Pipeline → Params → Facts → Kept → Mark → Mark
marked_after pipeline p f k mark =
    let added = miss_after pipeline p f.cycle k mark.added in
    record { number = mark.number; added = added; shown = cell pipeline p f.cycle added k.after }

abbrev pub kept_text : Pipeline → Facts → ℕ → Kept → Mark → Mark → List Text
kept_text pipeline f place k before after =
    lines_if (has_begun k) (access_notes before.number (access_shown k.after))
    ++ lines_if (is_some (load_made pipeline k) && nat_lt 0 after.added) (note_line before.number (codes "dcache miss " ++ decimal after.added) ∷ [])
    ++ wrong_notes (is_place place f.mispredicted) before.number k.before
    ++ lines_if (not (is_cell before.shown after.shown)) (cell_line before.number after.shown ∷ [])

abbrev pub kept_lines : Pipeline → Params → Facts → ℕ → List Kept → List Mark → List Text
kept_lines pipeline p f place [] marks = []
kept_lines pipeline p f place (k ∷ rest) [] = []
kept_lines pipeline p f place (k ∷ rest) (mark ∷ marks) =
    kept_text pipeline f place k mark (marked_after pipeline p f k mark)
    ++ kept_lines pipeline p f (place + 1) rest marks

abbrev pub kept_marks : Pipeline → Params → Facts → List Kept → List Mark → List Mark
kept_marks pipeline p f [] marks = []
kept_marks pipeline p f (k ∷ rest) [] = []
kept_marks pipeline p f (k ∷ rest) (mark ∷ marks) = marked_after pipeline p f k mark ∷ kept_marks pipeline p f rest marks

-- Last those that were appended: introduced, with the note of a miss that was waited for, and with an arrow from the
-- youngest older record that writes a source, if it gives no value yet. The older ones stand youngest first.
abbrev pub producer : List (ℕ × Shown) → ℕ → Option ℕ
producer [] register = None
producer (older ∷ rest) register =
    if writes_shown register older.1 then (if gives_value older.1 then None else Some older.0) else producer rest register

abbrev pub arrow_from : ℕ → Option ℕ → List Text
arrow_from number from = option_map_or (λ found. producer_line number found ∷ []) from []

abbrev pub second_arrow : ℕ → Option ℕ → Option ℕ → List Text
second_arrow number None second = arrow_from number second
second_arrow number (Some first) second = lines_if (not (is_place first second)) (arrow_from number second)

abbrev pub arrows : ℕ → List (ℕ × Shown) → Shown → List Text
arrows number older rec =
    let first = option_and_then (producer older) (first_source_shown rec) in
    arrow_from number first ++ second_arrow number first (option_and_then (producer older) (second_source_shown rec))

abbrev pub appended_lines : Pipeline → Params → ℕ → Bool → ℕ → ℕ → List (ℕ × Shown) → List Shown → List Text
appended_lines pipeline p cycle paid number place older [] = []
appended_lines pipeline p cycle paid number place older (rec ∷ rest) =
    introduction number place (cell pipeline p cycle 0 rec) rec
    ++ lines_if paid (note_line number (codes "icache miss") ∷ [])
    ++ arrows number older rec
    ++ appended_lines pipeline p cycle false (number + 1) (place + 1) ((number, rec) ∷ older) rest

abbrev pub appended_marks : Pipeline → Params → ℕ → ℕ → List Shown → List Mark
appended_marks pipeline p cycle number [] = []
appended_marks pipeline p cycle number (rec ∷ rest) =
    record { number = number; added = 0; shown = cell pipeline p cycle 0 rec } ∷ appended_marks pipeline p cycle (number + 1) rest

-- the records that stayed, by their numbers in the file, the youngest first
abbrev pub older_kept : Facts → List Mark → List (ℕ × Shown)
older_kept f marks = reverse (zip (map (λ mark. mark.number) marks) (map (λ k. k.after) f.kept))

abbrev pub lines_by : Pipeline → Params → Facts → ℕ → List Mark → List Mark → List Text
lines_by pipeline p f introduced all others =
    left_lines f.trapped f.number f.left all
    ++ squashed_lines f (length f.kept) f.squashed (drop (length f.kept) others)
    ++ kept_lines pipeline p f 0 f.kept others
    ++ appended_lines pipeline p f.cycle f.paid introduced (f.number + length f.left + length f.kept) (older_kept f others) f.appended

-- the lines of a cycle, but for that of its time
unfoldable pub lines_in : Pipeline → Params → Facts → Tracing → List Text
lines_in pipeline p f t = lines_by pipeline p f t.introduced t.marks (drop (length f.left) t.marks)

-- the time stands before the first line of a cycle, if it isn't that of the line before
abbrev pub time_lines : ℕ → ℕ → List Text
time_lines before now = if now == before then [] else cycles_line (now - before) ∷ []

abbrev pub dated : ℕ → ℕ → List Text → List Text
dated before now [] = []
dated before now (first ∷ rest) = time_lines before now ++ first ∷ rest

abbrev pub newest_time : ℕ → ℕ → List Text → ℕ
newest_time before now [] = before
newest_time before now (first ∷ rest) = now

abbrev pub tracing_after : Pipeline → Params → Facts → List Text → Tracing → Tracing
tracing_after pipeline p f lines t = record {
  marks = kept_marks pipeline p f f.kept (drop (length f.left) t.marks) ++ appended_marks pipeline p f.cycle t.introduced f.appended;
  introduced = t.introduced + length f.appended;
  at = newest_time t.at f.cycle lines;
}

-- the lines of some cycles, and the time of their end
unfoldable pub traced : Pipeline → Params → ℕ → List Facts → Tracing → List Text
traced pipeline p end [] t = time_lines t.at end
traced pipeline p end (f ∷ rest) t =
    let lines = lines_in pipeline p f t in
    dated t.at f.cycle lines ++ traced pipeline p end rest (tracing_after pipeline p f lines t)

-- The records that stand in the window as the first of these cycles begins are introduced in the cycle before.
abbrev pub opening_lines : Pipeline → Params → ℕ → ℕ → ℕ → List Shown → List Text
opening_lines pipeline p cycle number place [] = []
opening_lines pipeline p cycle number place (rec ∷ rest) =
    introduction number place (cell pipeline p cycle 0 rec) rec ++ opening_lines pipeline p cycle (number + 1) (place + 1) rest

abbrev pub head_lines : ℕ → List Text
head_lines cycle = tabbed (codes "Kanata" ∷ codes "0004" ∷ []) ∷ tabbed (codes "C=" ∷ decimal cycle ∷ []) ∷ []

abbrev pub opened : Pipeline → Params → ℕ → List Shown → Tracing
opened pipeline p cycle shown =
    record { marks = appended_marks pipeline p cycle 0 shown; introduced = length shown; at = cycle }

unfoldable pub trace_lines : Pipeline → Params → ℕ → List Sight → List Text
trace_lines pipeline p end [] = []
trace_lines pipeline p end (first ∷ rest) =
    let before = first.cycle - 1 in
    head_lines before
    ++ opening_lines pipeline p before 0 (departed first) first.window
    ++ traced pipeline p end (facts_between (first ∷ rest)) (opened pipeline p before first.window)

-- The cycles from one to another, as far as the run has them.
abbrev pub first_cycle : ℕ → ℕ → ℕ
first_cycle count from = min from count

abbrev pub last_cycle : ℕ → ℕ → ℕ → ℕ
last_cycle count from to = min count (max to (first_cycle count from))

abbrev pub trace_of : Pipeline → Params → ℕ → ℕ → List Sight → Text
trace_of pipeline p from to run =
    let count = length run - 1 in
    let end = last_cycle count from to in
    joined (trace_lines pipeline p end (drop (first_cycle count from) (take (end + 1) run)))

-- the trace of a run over at most so many cycles
unfoldable pub trace_text : Pipeline → Setup → ℕ → ℕ → ℕ → Text
trace_text pipeline s most from to = trace_of pipeline s.params from to (sights pipeline s most)

-- What the trace of some cycles has told, as the code has it.
use Rattle.std.specs.Prelude.{◌≡◌, ℕ, ◌+◌, ◌-◌, ◌*◌, ◌^◌, ◌≤◌, ◌<◌, Bool, codes, max, min, false, Option, option_and_then, List, [], ◌∷◌, ◌++◌, length, map, reverse, zip}
use Rattle.rv_decode.specs.Class.{dest_of}
use Rattle.mono_model.specs.declared.params.Params.{Params}
use Rattle.mono_model.specs.Report.{Text}
use Rattle.insight_model.specs.declared.pipeline.Pipeline.{Pipeline}
use Rattle.insight_model.specs.Sight.{Shown, Sight, insn_in}
use Rattle.insight_model.specs.Facts.{Facts, departed, has_stopped}
use Rattle.insight_model.specs.Cell.{cell}
use Rattle.insight_model.specs.Trace.{Mark, Tracing, appended_marks, arrows, dated, head_lines, introduction, lines_if, lines_in, note_line, opening_lines, tracing_after}
use Rattle.cycle_watch.specs.declared.facts.Facts.{Facts as FactsInCode}
use Rattle.cycle_watch.specs.declared.last.LastSight.{LastSight}
use Rattle.cycle_watch.specs.declared.trace.Tracing.{Tracing as TracingInCode}
use Rattle.cycle_watch.specs.declared.trace_mark.TraceMark.{TraceMark}
use Rattle.cycle_watch.specs.Cells.{cell_in}
use Rattle.cycle_watch.specs.Facts.{Follows, HasRoom, IsTold, Keeps, at_cycle, window_in}
use Rattle.cycle_watch.specs.Known.{Watches}
use Rattle.cycle_watch.specs.Passing.{WentBy, facts_since}
use Rattle.cycle_watch.specs.Writing.{IsReady}

abbrev pub mark_in : TraceMark → Mark
mark_in mark = record { number = mark.number; added = mark.miss; shown = cell_in mark.cell }

abbrev pub marks_in : List TraceMark → List Mark
marks_in marks = map mark_in marks

-- the register that an instruction writes
abbrev pub dest_shown : Shown → Option ℕ
dest_shown shown = option_and_then dest_of (insn_in shown)

-- these instructions have these marks
abbrev pub AreMarked : List Shown → List TraceMark → Type 0
AreMarked shown marks = map (λ mark. mark.writes) marks ≡ map dest_shown shown

-- the instructions by their numbers in the file, the youngest first
abbrev pub older_in : List Mark → List Shown → List (ℕ × Shown)
older_in marks shown = reverse (zip (map (λ mark. mark.number) marks) shown)

-- the mark of an instruction that is introduced in a cycle
abbrev pub introduced_mark : Pipeline → Params → ℕ → ℕ → Shown → Mark
introduced_mark pipeline p cycle number shown =
    record { number = number; added = 0; shown = cell pipeline p cycle 0 shown }

-- what is told of one that was appended
abbrev pub appended_text : Pipeline → Params → ℕ → Bool → ℕ → ℕ → List (ℕ × Shown) → Shown → List Text
appended_text pipeline p cycle paid number place older shown =
    introduction number place (cell pipeline p cycle 0 shown) shown
    ++ lines_if paid (note_line number (codes "icache miss") ∷ [])
    ++ arrows number older shown

-- These instructions were introduced in a cycle.
pub record HasIntroduced (before : TracingInCode) (cycle : ℕ) (shown : List Shown) (after : TracingInCode) : Type 0 where
  pub marks : marks_in after.told.marks.items
      ≡ marks_in before.told.marks.items ++ appended_marks before.last.pipeline before.last.params cycle before.introduced shown
  pub writes : map (λ mark. mark.writes) after.told.marks.items
      ≡ map (λ mark. mark.writes) before.told.marks.items ++ map dest_shown shown
  pub room : after.told.marks.capacity ≡ before.told.marks.capacity
  pub introduced : after.introduced ≡ before.introduced + length shown

-- The same, and they are under way.
pub record HasTakenIn (before : TracingInCode) (cycle : ℕ) (shown : List Shown) (after : TracingInCode) : Type 0 where
  pub introduced : HasIntroduced before cycle shown after
  pub window : window_in after.last.marks.items ≡ window_in before.last.marks.items ++ shown
  pub rest : after.last ≡ record before.last { marks = record before.last.marks { items = after.last.marks.items } }

-- there is room for what a window can hold
pub record HasTraceRoom (tracing : TracingInCode) : Type 0 where
  pub last : tracing.last.marks.capacity ≡ 256
  pub told : tracing.told.marks.capacity ≡ 256

-- The tracer stands where this is seen, and has told this. In each cycle at most 256 instructions are introduced.
pub record TracesAt (kind : Pipeline) (p : Params) (s : Sight) (t : Tracing) (tracing : TracingInCode) : Type 0 where
  pub watches : Watches kind p tracing.last
  pub keeps : Keeps s tracing.last
  pub marks : marks_in tracing.told.marks.items ≡ t.marks
  pub writes : AreMarked s.window tracing.told.marks.items
  pub room : tracing.told.marks.capacity ≡ 256
  pub introduced : tracing.introduced ≡ t.introduced
  pub few : tracing.introduced ≤ 256 * (s.cycle + 1)
  pub at : tracing.text.at ≡ t.at
  pub ready : IsReady s.cycle tracing.text

-- something was seen last, and few left before
pub record HasSeen (last : LastSight) : Type 0 where
  pub sight : Sight
  pub keeps : Keeps sight last
  pub small : departed sight < 2 ^ 63
  pub within : length sight.window ≤ 256

-- it has told nothing yet
pub record IsFresh (tracing : TracingInCode) : Type 0 where
  pub last : HasRoom tracing.last
  pub marks : tracing.told.marks.items ≡ []
  pub room : tracing.told.marks.capacity ≡ 256
  pub introduced : tracing.introduced ≡ 0
  pub ready : IsReady 0 tracing.text
  pub held : tracing.text.buffer.bytes.items ≡ []

-- the lines of some cycles, and what is told after them
abbrev pub lines_later : Pipeline → Params → List Facts → Tracing → List Text
lines_later pipeline p [] t = []
lines_later pipeline p (f ∷ rest) t =
    let lines = lines_in pipeline p f t in
    dated t.at f.cycle lines ++ lines_later pipeline p rest (tracing_after pipeline p f lines t)

abbrev pub tracing_later : Pipeline → Params → List Facts → Tracing → Tracing
tracing_later pipeline p [] t = t
tracing_later pipeline p (f ∷ rest) t =
    tracing_later pipeline p rest (tracing_after pipeline p f (lines_in pipeline p f t) t)

-- the first lines of a trace, by what is seen as its first cycle begins
abbrev pub first_lines : Pipeline → Params → Sight → List Text
first_lines pipeline p first =
    head_lines (first.cycle - 1) ++ opening_lines pipeline p (first.cycle - 1) 0 (departed first) first.window

-- the tracer may tell the cycle that led to this sight
pub record MayTell (tracing : TracingInCode) (after : Sight) (f : FactsInCode) : Type 0 where
  pub pipeline : Pipeline
  pub params : Params
  pub before : Sight
  pub so_far : Tracing
  pub traces : TracesAt pipeline params before so_far tracing
  pub follows : Follows before after
  pub told : IsTold before after f
  pub small : before.cycle < 2 ^ 48

-- it has told the cycles up to one, and others went by since
pub record IsTracing (tracing : TracingInCode) (after : Sight) : Type 0 where
  pub pipeline : Pipeline
  pub params : Params
  pub before : Sight
  pub so_far : Tracing
  pub more : ℕ
  pub traces : TracesAt pipeline params before so_far tracing
  pub went : WentBy pipeline more before after

-- It stands between two cycles in which nothing happens, and has told those before.
pub record IsTracingBetween (tracing : TracingInCode) (after : Sight) : Type 0 where
  pub pipeline : Pipeline
  pub params : Params
  pub so_far : Tracing
  pub traces : TracesAt pipeline params (at_cycle tracing.last.cycle after) so_far tracing
  pub small : after.cycle < 2 ^ 48
  pub goes : has_stopped after.end ≡ false
  pub within : length after.window ≤ 256
  pub few : departed after < 2 ^ 63

-- Up to which cycle is told that begins later than this one, and that is seen at another at the latest.
abbrev pub told_to : ℕ → ℕ → ℕ → ℕ
told_to from to seen = max from (min to seen)

-- the cycles that are told of those that went by: the first, and others up to this one
abbrev pub facts_to : ℕ → Sight → Sight → List Facts
facts_to to before after = facts_since (told_to (before.cycle + 1) to after.cycle - (before.cycle + 1)) before after

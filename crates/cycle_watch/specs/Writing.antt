-- A text on its way to a sink: lines of a trace, each in its cycle.
use Rattle.std.specs.Prelude.{◌≡◌, ℕ, ◌≤◌, List, ◌++◌, length, Option, Result, Ok, Err, vec_capacity}
use Rattle.fsim_ports.specs.Sink.{Breaks}
use Rattle.report_text.specs.Buffered.{IsGathered}
use Rattle.mono_model.specs.Report.{Text, joined}
use Rattle.insight_model.specs.Trace.{dated, newest_time}
use Rattle.cycle_watch.specs.declared.timed_text.TimedText.{TimedText}

-- how far it has come: the cycle of its last line, what of it isn't written yet, the faults of the sink, and what that was given
pub record Stand : Type 0 where
  pub at : ℕ
  pub held : Text
  pub faults : ℕ
  pub written : Option Text

abbrev pub stand : TimedText → ℕ → Option Text → Stand
stand text faults written = record { at = text.at; held = text.buffer.bytes.items; faults = faults; written = written }

-- a line of this cycle can be written: there is room for it, and the line before isn't of a later one
pub record IsReady (cycle : ℕ) (text : TimedText) : Type 0 where
  pub room : 8192 ≤ vec_capacity text.buffer.bytes
  pub few : length text.buffer.bytes.items ≤ 8192
  pub order : text.at ≤ cycle

-- a text was written or is held, or it broke off: a proper prefix was written
pub record HasPut (text : Text) (before after : Stand) : Type 0 where
  pub count : before.faults ≤ after.faults
  pub gathered : IsGathered (before.held ++ text) after.held before.written after.written

pub record HasBroken (text : Text) (before after : Stand) : Type 0 where
  pub count : before.faults ≤ after.faults
  pub broke : Breaks (before.held ++ text) before.faults after.faults before.written after.written

abbrev pub PutsText : {E : Type 0} → Text → Stand → Stand → Result (Unit {0}) E → Type 0
PutsText text before after (Ok done) = HasPut text before after
PutsText text before after (Err fault) = HasBroken text before after

-- The lines of a cycle were written, and the time before the first of them.
pub record HasTold (cycle : ℕ) (lines : List Text) (before after : Stand) : Type 0 where
  pub put : HasPut (joined (dated before.at cycle lines)) before after
  pub at : after.at ≡ newest_time before.at cycle lines

abbrev pub Tells : {E : Type 0} → ℕ → List Text → Stand → Stand → Result (Unit {0}) E → Type 0
Tells cycle lines before after (Ok done) = HasTold cycle lines before after
Tells cycle lines before after (Err fault) = HasBroken (joined (dated before.at cycle lines)) before after

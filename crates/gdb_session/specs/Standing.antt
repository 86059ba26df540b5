-- What a session in code stands for.
use Rattle.std.specs.Prelude.{◌≡◌, ℕ, Bool}
use Rattle.mono_model.specs.declared.setup.Setup.{Setup}
use Rattle.func_model.specs.declared.trail.Trail.{Trail}
use Rattle.func_model.specs.Trail.{TrailStandsFor}
use Rattle.gdb_model.specs.Session.{Session}
use Rattle.gdb_model.specs.Stops.{Range, Reason, all, begin, ended, none, stop, watch, within}
use Rattle.gdb_session.specs.declared.range.Range.{Range as CodeRange}
use Rattle.gdb_session.specs.declared.range.Range.TheVariants as range
use Rattle.gdb_session.specs.declared.runs.Reason.{Reason as CodeReason}
use Rattle.gdb_session.specs.declared.runs.Reason.TheVariants as reason
use Rattle.gdb_session.specs.declared.session.Session.{Session as CodeSession}
use Rattle.gdb_session.specs.declared.stops.Stops.{Stops}

-- a session as the definition has it, by where a debugger stands and what runs stop at
abbrev pub session_at : {D : Type 0} → Trail D → Stops → ℕ → Bool → Session
session_at trail stops shown quiet = record {
  at = trail.at;
  floor = trail.floor;
  points = stops.points;
  mark = stops.mark;
  shown = shown;
  quiet = quiet;
}

abbrev pub session_in : {D : Type 0} → CodeSession D → Session
session_in held = session_at held.debugger held.stops held.shown held.quiet

-- it is this session over the run of a setup, which can go back so many steps
pub record SessionStandsFor {D : Type 0} (s : Setup) (history : ℕ) (session : Session)
    (held : CodeSession D) : Type 0 where
  pub trail : TrailStandsFor s held.debugger
  pub history_is : held.debugger.steps.capacity ≡ history
  pub session_is : session_in held ≡ session

abbrev pub range_in : CodeRange → Range
range_in range.All = all
range_in range.None = none
range_in (range.Within start end) = within start end

abbrev pub reason_in : CodeReason → Reason
reason_in reason.Stop = stop
reason_in (reason.Ended end) = ended end
reason_in reason.Begin = begin
reason_in (reason.Watch byte) = watch byte

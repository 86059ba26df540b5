-- Where a run stops, forwards and backwards.
use Rattle.std.specs.Prelude.{ℕ, zero, suc, ◌+◌, ◌-◌, ◌==◌, nat_le, nat_lt, ◌&&◌, ◌||◌, not, max}
use Rattle.std.specs.Prelude.{if◌then◌else◌, Bool, true, false, length, option_map, Option, Some}
use Rattle.std.specs.Prelude.{None}
use Rattle.std.specs.Option.{option_or}
use Rattle.mono_model.specs.declared.final_state.End.{End}
use Rattle.mono_model.specs.declared.setup.Setup.{Setup}
use Rattle.func_model.specs.History.{end_at, walk}
use Rattle.back_debug.specs.Debugger.{floors}
use Rattle.func_model.specs.Position.{next_address}
use Rattle.gdb_model.specs.Session.{Session, halts, watched}

-- the addresses within which a run goes on: all, none, or those from one to below another
abbrev pub Range : Type 0
Range = ℕ → Bool

abbrev pub all : Range
all addr = true

abbrev pub none : Range
none addr = false

abbrev pub within : ℕ → ℕ → Range
within start end addr = nat_le start addr && nat_lt addr end

-- why a run stops
pub data Reason : Type 0 where
  -- at a breakpoint or the mark, or outside its addresses
  stop : Reason
  -- at the end of the run
  ended : End → Reason
  -- at the oldest position
  begin : Reason
  -- before an access of a watched byte, or after it if the run goes backwards
  watch : ℕ → Reason

abbrev pub stop_if : Bool → Reason → Option Reason
stop_if holds reason = if holds then Some reason else None

-- it halts there, or its addresses end
abbrev pub is_stop : Setup → Session → Range → ℕ → Bool
is_stop s session range at = halts s session at || not (range (next_address s at))

-- the first reason for which a run forwards stops at a position, if there is one
abbrev pub forth_reason : Setup → Session → Range → ℕ → Option Reason
forth_reason s session range at =
    option_or (stop_if (nat_lt session.at at && is_stop s session range at) stop)
    (option_or (option_map ended (end_at s at)) (option_map watch (watched s session at)))

-- the same of a run backwards
abbrev pub back_reason : Setup → Session → Range → ℕ → Option Reason
back_reason s session range at =
    option_or (stop_if (nat_lt at session.at && is_stop s session range at) stop)
    (option_or (stop_if (at == session.floor) begin)
    (option_map watch (watched s session (at - 1))))

-- where a run stops, and why
pub record Stopped : Type 0 where
  pub at : ℕ
  pub reason : Reason

abbrev pub stopped_or : Option Reason → ℕ → Stopped → Stopped
stopped_or None at on = on
stopped_or (Some reason) at on = record { at = at; reason = reason }

-- the first of so many positions from `at` on at which a run forwards stops
unfoldable pub first_stop : Setup → Session → Range → ℕ → ℕ → Stopped
first_stop s session range zero at = record { at = at; reason = stop }
first_stop s session range (suc more) at =
    stopped_or (forth_reason s session range at) at (first_stop s session range more (at + 1))

-- the last position up to `at` at which a run backwards stops
unfoldable pub last_stop : Setup → Session → Range → ℕ → Stopped
last_stop s session range zero =
    stopped_or (back_reason s session range zero) zero (record { at = zero; reason = begin })
last_stop s session range (suc at) =
    stopped_or (back_reason s session range (suc at)) (suc at) (last_stop s session range at)

-- a run has at most `cycles` steps, and at its end it stops
abbrev pub forth : Setup → Range → Session → Stopped
forth s range session = first_stop s session range (s.cycles + 1 - session.at) session.at

abbrev pub back : Setup → Range → Session → Stopped
back s range session = last_stop s session range session.at

-- the session once it went forwards to a position
abbrev pub moved_to : ℕ → Setup → ℕ → Session → Session
moved_to history s at session = record session {
  at = at;
  floor = floors history s session.at session.floor (at - session.at);
  shown = max session.shown (length (walk s at).output);
}

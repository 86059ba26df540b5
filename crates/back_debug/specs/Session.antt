-- What the commands of a script make of a debugger's position, and what is written of each.
use Rattle.std.specs.Prelude.{◌≡◌, ℕ, zero, suc, ◌+◌, ◌-◌, ◌==◌, if◌then◌else◌, List, [], ◌∷◌, ◌++◌}
use Rattle.std.specs.Prelude.{length, Option, Some, None}
use Rattle.mono_model.specs.declared.final_state.End.{End}
use Rattle.mono_model.specs.declared.setup.Setup.{Setup}
use Rattle.func_model.specs.declared.trail.Trail.{Trail}
use Rattle.func_model.specs.History.{walk, end_at, floor}
use Rattle.func_model.specs.Side.{registers_at}
use Rattle.func_model.specs.Trail.{TrailStandsFor}
use Rattle.report_text.specs.declared.debugging.Arrival.{Arrival}
use Rattle.report_text.specs.declared.debugging.Arrival.TheVariants.{Moved, Oldest, Reached, Ended}
use Rattle.report_text.specs.DebugText.{machine_text, position_text}
use Rattle.back_debug.specs.declared.script.Command.{Command}
use Rattle.back_debug.specs.declared.script.Command.TheVariants.{Step, Back, To, Show}

-- how many steps are made, and the oldest position that can be gone back to
pub record Position : Type 0 where
  pub at : ℕ
  pub floor : ℕ

-- where a command leads, and how it comes there
pub record Arrived : Type 0 where
  pub position : Position
  pub arrival : Arrival

abbrev pub next : ℕ → Setup → Position → Position
next history s p = record { at = p.at + 1; floor = floor history s p.at p.floor }

-- the run may have ended; else it goes on
abbrev pub unless_ended : Option End → Position → Arrived → Arrived
unless_ended None p on = on
unless_ended (Some end) p on = record { position = p; arrival = Ended end }

-- up to so many steps
unfoldable pub forth : ℕ → Setup → ℕ → Position → Arrived
forth history s zero p = record { position = p; arrival = Moved }
forth history s (suc steps) p =
    unless_ended (end_at s p.at) p (forth history s steps (next history s p))

-- up to so many steps back
unfoldable pub back : ℕ → Position → Arrived
back zero p = record { position = p; arrival = Moved }
back (suc steps) p =
    if p.at == p.floor then record { position = p; arrival = Oldest }
    else back steps (record p { at = p.at - 1 })

-- one step at least, up to the first that leaves the next address at `addr`, and no more than so
-- many
unfoldable pub to : ℕ → Setup → ℕ → ℕ → Position → Arrived
to history s addr zero p = record { position = p; arrival = Moved }
to history s addr (suc steps) p =
    unless_ended (end_at s p.at) p
    (if (walk s (p.at + 1)).pc == addr
    then record { position = next history s p; arrival = Reached }
    else to history s addr steps (next history s p))

-- where a command leads; no run has more steps than its limit, so one more than that says no less
abbrev pub arrived : ℕ → Setup → Command → Position → Arrived
arrived history s (Step steps) p = forth history s steps p
arrived history s (Back steps) p = back steps p
arrived history s (To addr) p = to history s addr (s.cycles + 1) p
arrived history s Show p = record { position = p; arrival = Moved }

abbrev pub arrival_line : Setup → Arrived → List ℕ
arrival_line s a = position_text a.position.at (walk s a.position.at).pc a.arrival

-- the machine after so many steps
abbrev pub machine_at : Setup → ℕ → List ℕ
machine_at s made =
    machine_text (length (walk s made).output) (registers_at (walk s made)).regs
    (registers_at (walk s made)).csrs (registers_at (walk s made)).cmp

-- what is written of a command
abbrev pub command_text : Setup → Command → Arrived → List ℕ
command_text s Show a = machine_at s a.position.at
command_text s command a = arrival_line s a

-- what is written of commands, one after the other
unfoldable pub session_text : ℕ → Setup → List Command → Position → List ℕ
session_text history s [] p = []
session_text history s (command ∷ commands) p =
    let a = arrived history s command p in
    command_text s command a ++ session_text history s commands a.position

abbrev pub start_position : Position
start_position = record { at = 0; floor = 0 }

abbrev pub position_of : {D : Type 0} → Trail D → Position
position_of trail = record { at = trail.at; floor = trail.floor }

-- a debugger stands at a position, with the history that it had
pub record IsAt {D : Type 0} (s : Setup) (p : Position) (old new : Trail D) : Type 0 where
  pub stands : TrailStandsFor s new
  pub position_is : position_of new ≡ p
  pub history_is : new.steps.capacity ≡ old.steps.capacity

-- it came there
pub record Comes {D : Type 0} (s : Setup) (a : Arrived) (old new : Trail D)
    (arrival : Arrival) : Type 0 where
  pub position : IsAt s a.position old new
  pub arrival_is : arrival ≡ a.arrival

-- What a debugger's script shows from the start of a run.
use Rattle.std.proofs.Common.{◌≡◌, ℕ, List, sym}
use Rattle.mono_model.specs.declared.setup.Setup.{Setup}
use Rattle.func_model.specs.declared.trail.Trail.{Trail}
use Rattle.func_model.specs.Trail.{IsOpening}
use Rattle.back_debug.specs.declared.script.Command.{Command}
use Rattle.back_debug.specs.Session.{position_of, session_text, start_position}

pub opening-text : {D : Type 0} (history : ℕ) (s : Setup) (script : List Command) (trail : Trail D) → IsOpening history trail
    → session_text history s script start_position ≡ session_text trail.steps.capacity s script (position_of trail)
opening-text history s script trail opening =
    λ i. session_text (sym opening.history_is i) s script (record { at = sym opening.at i; floor = sym opening.floor_is i })

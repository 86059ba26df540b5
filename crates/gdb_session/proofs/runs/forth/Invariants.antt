use Rattle.std.proofs.Common.{ℕ, ◌-◌, Bool}
use Rattle.mono_model.specs.declared.setup.Setup.{Setup}
use Rattle.func_model.specs.Trail.{TrailStandsFor}
use Rattle.gdb_session.specs.Standing.{range_in, session_at}
use Rattle.gdb_session.proofs.Forwards.{GoingForth}
use Rattle.gdb_session.proofs.runs.forth.Given as goal

abbrev pub invariant-loop-byte : goal.invariant-loop-byte
invariant-loop-byte g l = (s : Setup) (shown : ℕ) (quiet : Bool) → TrailStandsFor s l.fn.debugger → GoingForth s (session_at l.fn.debugger l.stops shown quiet) (range_in l.range) l.fn.debugger l.debugger

-- how many steps the run may still make
abbrev pub decreases-loop-byte : goal.decreases-loop-byte
decreases-loop-byte g l = l.debugger.cycles - l.debugger.at

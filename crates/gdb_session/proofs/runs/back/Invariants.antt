use Rattle.std.proofs.Common.{ℕ, Bool}
use Rattle.mono_model.specs.declared.setup.Setup.{Setup}
use Rattle.func_model.specs.Trail.{TrailStandsFor}
use Rattle.gdb_session.specs.Standing.{range_in, session_at}
use Rattle.gdb_session.proofs.Backwards.{GoingBack}
use Rattle.gdb_session.proofs.runs.back.Given as goal

abbrev pub invariant-loop : goal.invariant-loop
invariant-loop g l = (s : Setup) (shown : ℕ) (quiet : Bool) → TrailStandsFor s l.fn.debugger → GoingBack s (session_at l.fn.debugger l.stops shown quiet) (range_in l.range) l.fn.debugger l.debugger l.counter

use Rattle.std.proofs.Common.{◌≡◌, ◌+◌, ◌<◌, ℕ, get_or, Some}
use Rattle.mono_model.specs.declared.setup.Setup.{Setup}
use Rattle.func_model.specs.Position.{byte_at}
use Rattle.func_model.specs.Trail.{TrailStandsFor}
use Rattle.gdb_session.proofs.memory.has_memory.Given as goal

-- the bytes so far are there
abbrev pub invariant-loop-place : goal.invariant-loop-place
invariant-loop-place g l = record {
  same : l.debugger ≡ l.fn.debugger;
  each : (s : Setup) → TrailStandsFor s l.fn.debugger → (k : ℕ) → k < l.place → byte_at s l.fn.debugger.at (l.address + k) ≡ Some (get_or l.bytes k 0);
}

use Rattle.std.proofs.Common.{◌≡◌, ◌+◌, ◌*◌, length}
use Rattle.mono_model.specs.declared.setup.Setup.{Setup}
use Rattle.func_model.specs.Trail.{TrailStandsFor}
use Rattle.gdb_session.proofs.Asked.{Putting}
use Rattle.gdb_session.proofs.memory.put_bytes.Given as goal

abbrev pub invariant-loop-place : goal.invariant-loop-place
invariant-loop-place g l = record {
  same : l.debugger ≡ l.fn.debugger;
  put : (s : Setup) → TrailStandsFor s l.fn.debugger → Putting s l.fn.debugger.at l.address l.place l.fn.reply l.reply;
  len : length l.reply ≡ length l.fn.reply + 2 * l.place;
}

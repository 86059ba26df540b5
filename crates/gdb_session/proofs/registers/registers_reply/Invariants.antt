use Rattle.std.proofs.Common.{◌≡◌, ◌*◌, length}
use Rattle.mono_model.specs.declared.setup.Setup.{Setup}
use Rattle.func_model.specs.Trail.{TrailStandsFor}
use Rattle.gdb_session.proofs.Numbered.{registers_upto}
use Rattle.gdb_session.proofs.registers.registers_reply.Given as goal

-- the registers so far
abbrev pub invariant-loop-value : goal.invariant-loop-value
invariant-loop-value g l = record {
  text : (s : Setup) → TrailStandsFor s l.debugger → l.reply ≡ registers_upto s l.debugger.at l.value-index;
  len : length l.reply ≡ 8 * l.value-index;
}

use Rattle.std.proofs.Common.{◌≡◌, length, take}
use Rattle.gdb_session.proofs.monitor.command_in.Given as goal

-- the bytes so far
abbrev pub invariant-loop-place : goal.invariant-loop-place
invariant-loop-place l = record {
  word : l.word.items ≡ take l.place l.bytes;
  len : length l.word.items ≡ l.place;
}

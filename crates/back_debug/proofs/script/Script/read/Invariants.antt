use Rattle.std.proofs.Common.{◌≡◌, ◌+◌, ◌++◌, length}
use Rattle.std.specs.List.{filter_map, position_from}
use Rattle.back_debug.specs.Script.{command_in, is_bad, lines}
use Rattle.back_debug.proofs.script.Script.read.Given as goal

-- the commands so far with those of the lines that are left are all, and the first bad line is the first of those
abbrev pub invariant-loop-place : goal.invariant-loop-place
invariant-loop-place l = record {
  commands : l.commands.items ++ filter_map command_in l.place-iterator.iter ≡ filter_map command_in (lines l.fn.bytes);
  bad : position_from is_bad (l.place-iterator.count + 1) l.place-iterator.iter ≡ position_from is_bad 1 (lines l.fn.bytes);
  few : l.place-iterator.count + length l.place-iterator.iter ≡ length (lines l.fn.bytes);
}

use Rattle.std.proofs.Common.{◌≡◌, take}
use Rattle.std.specs.Str.Parse.{AllDigits, digits_value}
use Rattle.gdb_session.proofs.monitor.position_in.Given as goal

-- the value of the bytes so far, all of which are digits
abbrev pub invariant-loop-byte : goal.invariant-loop-byte
invariant-loop-byte l = record {
  value_is : l.position ≡ digits_value 10 (take l.byte-index l.digits);
  digits : AllDigits 10 (take l.byte-index l.digits);
}

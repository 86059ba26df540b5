use Rattle.std.proofs.Common.{◌≡◌, take}
use Rattle.std.specs.Str.Parse.{AllDigits, digits_value}
use Rattle.gdb_packets.proofs.number.number_in.Given as goal

-- the value of the bytes so far, all of which are digits
abbrev pub invariant-loop-byte : goal.invariant-loop-byte
invariant-loop-byte l = record {
  value_is : l.number ≡ digits_value 16 (take l.byte-index l.word);
  digits : AllDigits 16 (take l.byte-index l.word);
}

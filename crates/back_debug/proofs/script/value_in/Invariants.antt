use Rattle.std.proofs.Common.{◌≡◌, take}
use Rattle.std.specs.Str.Parse.{AllDigits, digits_value}
use Rattle.back_debug.proofs.script.value_in.Given as goal

-- the value of the bytes so far, all of which are digits
abbrev pub invariant-loop-byte : goal.invariant-loop-byte
invariant-loop-byte l = record {
  value_is : l.value ≡ digits_value l.radix (take l.byte-index l.word);
  digits : AllDigits l.radix (take l.byte-index l.word);
}

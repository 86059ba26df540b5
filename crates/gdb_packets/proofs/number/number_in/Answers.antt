use Rattle.std.proofs.Common.{◌≡◌, ◌<◌, ◌*◌, ◌+◌, ◌^◌, Some, take, arith, ap, ◌∙◌, subst, rules}
use Rattle.std.proofs.lemmas.List.{take_all}
use Rattle.std.specs.Str.Parse.{AllDigits, digits_value}
use Rattle.gdb_packets.proofs.Values.{one_more, more_value, more_digits, number-some}
use Rattle.gdb_packets.proofs.number.number_in.Goals as goal

pub overflow_mul-number : goal.overflow_mul-number
overflow_mul-number c =
    let more : c.loop-byte.number * 16 + 15 < 2 ^ 64 = one_more c.loop-byte.number c.loop-byte.byte-index c.args.word.now c.loop-byte-test.true c.if-word-gt-DIGITS.false c.loop-byte.invariant.value_is c.loop-byte.invariant.digits in
    omega (arith, more)

pub overflow_add-number : goal.overflow_add-number
overflow_add-number c =
    let more : c.loop-byte.number * 16 + 15 < 2 ^ 64 = one_more c.loop-byte.number c.loop-byte.byte-index c.args.word.now c.loop-byte-test.true c.if-word-gt-DIGITS.false c.loop-byte.invariant.value_is c.loop-byte.invariant.digits in
    let told = c.in_ok-digit.ensures.value in
    let digit : c.in_ok-digit.digit < 16 = rw told.1 told.0 in
    rw c.from-in-loop-byte.ensures (omega (arith, more, digit))

pub loop-byte-preserved : goal.loop-byte-preserved
loop-byte-preserved c =
    let told = c.in_ok-digit.ensures.value in
    record {
      value_is = rw c.from-in-loop-byte.ensures (more_value c.loop-byte.number c.loop-byte.byte-index c.in_ok-digit.digit c.from.result c.args.word.now c.loop-byte-test.true c.loop-byte.invariant.value_is c.from.ensures told.1);
      digits = more_digits c.loop-byte.byte-index c.from.result c.args.word.now c.loop-byte-test.true c.loop-byte.invariant.digits c.from.ensures told.0;
    }

pub returns : goal.returns
returns c =
    let all : take c.loop-byte.byte-index c.args.word.now ≡ c.args.word.now = take_all c.loop-byte.byte-index c.args.word.now c.loop-byte-test.false in
    let digits : AllDigits 16 c.args.word.now = subst (AllDigits 16) all c.loop-byte.invariant.digits in
    record { number = ap Some (c.loop-byte.invariant.value_is ∙ ap (digits_value 16) all) ∙ number-some c.args.word.now (search rules) c.if-word-gt-DIGITS.false digits }

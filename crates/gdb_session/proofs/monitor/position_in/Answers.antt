use Rattle.std.proofs.Common.{◌≡◌, ◌<◌, ◌*◌, ◌^◌, take, arith, ap, ◌∙◌, subst, rules}
use Rattle.std.proofs.lemmas.List.{take_all}
use Rattle.std.specs.Str.Parse.{AllDigits, digits_value}
use Rattle.back_debug.proofs.Values.{one_more, more_value, more_digits}
use Rattle.gdb_session.proofs.Words.{position_read}
use Rattle.gdb_session.proofs.monitor.position_in.Goals as goal

pub overflow_mul-position : goal.overflow_mul-position
overflow_mul-position c =
    let more : c.loop-byte.position * 10 < 2 ^ 84 = one_more 10 c.loop-byte.position c.loop-byte.byte-index c.args.digits.now (omega arith) (omega arith) c.loop-byte.invariant.value_is c.loop-byte.invariant.digits in
    omega (arith, more)

pub overflow_add-position : goal.overflow_add-position
overflow_add-position c =
    let more : c.loop-byte.position * 10 < 2 ^ 84 = one_more 10 c.loop-byte.position c.loop-byte.byte-index c.args.digits.now (omega arith) (omega arith) c.loop-byte.invariant.value_is c.loop-byte.invariant.digits in
    let told = c.in_ok-digit.ensures.value in
    let digit : c.in_ok-digit.digit < 10 = rw told.1 told.0 in
    rw c.from-in-loop-byte.ensures (omega (arith, more, digit))

pub loop-byte-preserved : goal.loop-byte-preserved
loop-byte-preserved c =
    let told = c.in_ok-digit.ensures.value in
    record {
      value_is = rw c.from-in-loop-byte.ensures (more_value 10 c.loop-byte.position c.loop-byte.byte-index c.in_ok-digit.digit c.from.result c.args.digits.now c.loop-byte-test.true c.loop-byte.invariant.value_is c.from.ensures told.1);
      digits = more_digits 10 c.loop-byte.byte-index c.from.result c.args.digits.now c.loop-byte-test.true c.loop-byte.invariant.digits c.from.ensures told.0;
    }

pub returns : goal.returns
returns c =
    let all : take c.loop-byte.byte-index c.args.digits.now ≡ c.args.digits.now = take_all c.loop-byte.byte-index c.args.digits.now c.loop-byte-test.false in
    let digits : AllDigits 10 c.args.digits.now = subst (AllDigits 10) all c.loop-byte.invariant.digits in
    let value : c.loop-byte.position ≡ digits_value 10 c.args.digits.now = c.loop-byte.invariant.value_is ∙ ap (digits_value 10) all in
    record { position = c.ok.ensures.value ∙ position_read c.args.digits.now c.try_from.result c.loop-byte.position (search rules) c.if-digits-gt20.false digits value c.try_from.ensures }

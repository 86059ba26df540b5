use Rattle.std.proofs.Common.{◌≡◌, ◌<◌, ◌*◌, ◌^◌, ℕ, Some, take, arith, ap, sym, ◌∙◌, subst, length}
use Rattle.std.proofs.lemmas.List.{take_all}
use Rattle.std.specs.Str.Parse.{AllDigits, digits_value}
use Rattle.std.proofs.lemmas.Int.Digits.{digits_value-lt}
use Rattle.back_debug.proofs.Values.{one_more, more_value, more_digits, value-some}
use Rattle.back_debug.proofs.script.value_in.Goals as goal

pub overflow_mul-value : goal.overflow_mul-value
overflow_mul-value c =
    let more : c.loop-byte.value * c.args.radix < 2 ^ 84 = one_more c.args.radix c.loop-byte.value c.loop-byte.byte-index c.args.word.now c.requires.radix.1 c.requires.len c.loop-byte.invariant.value_is c.loop-byte.invariant.digits in
    rw c.from-in-loop-byte.ensures (omega (arith, more))

pub overflow_add-value : goal.overflow_add-value
overflow_add-value c =
    let more : c.loop-byte.value * c.args.radix < 2 ^ 84 = one_more c.args.radix c.loop-byte.value c.loop-byte.byte-index c.args.word.now c.requires.radix.1 c.requires.len c.loop-byte.invariant.value_is c.loop-byte.invariant.digits in
    let told = c.in_ok-digit.ensures.value in
    let digit : c.in_ok-digit.digit < c.args.radix = rw told.1 told.0 in
    rw (c.from-in-loop-byte.ensures, c.from-in-loop-byte-2.ensures) (omega (arith, more, digit, c.requires.radix.1))

pub loop-byte-preserved : goal.loop-byte-preserved
loop-byte-preserved c =
    let told = c.in_ok-digit.ensures.value in
    record {
      value_is = rw (c.from-in-loop-byte.ensures, c.from-in-loop-byte-2.ensures) (more_value c.args.radix c.loop-byte.value c.loop-byte.byte-index c.in_ok-digit.digit c.from.result c.args.word.now c.loop-byte-test.true c.loop-byte.invariant.value_is c.from.ensures told.1);
      digits = more_digits c.args.radix c.loop-byte.byte-index c.from.result c.args.word.now c.loop-byte-test.true c.loop-byte.invariant.digits c.from.ensures told.0;
    }

pub returns-clause-value : goal.returns-clause-value
returns-clause-value c =
    let all : take c.loop-byte.byte-index c.args.word.now ≡ c.args.word.now = take_all c.loop-byte.byte-index c.args.word.now c.loop-byte-test.false in
    let digits : AllDigits c.args.radix c.args.word.now = subst (AllDigits c.args.radix) all c.loop-byte.invariant.digits in
    ap Some (c.loop-byte.invariant.value_is ∙ ap (digits_value c.args.radix) all) ∙ value-some c.args.radix c.args.word.now digits

pub returns-clause-bound : goal.returns-clause-bound
returns-clause-bound c =
    let all : take c.loop-byte.byte-index c.args.word.now ≡ c.args.word.now = take_all c.loop-byte.byte-index c.args.word.now c.loop-byte-test.false in
    let digits : AllDigits c.args.radix c.args.word.now = subst (AllDigits c.args.radix) all c.loop-byte.invariant.digits in
    let is : c.loop-byte.value ≡ digits_value c.args.radix c.args.word.now = c.loop-byte.invariant.value_is ∙ ap (digits_value c.args.radix) all in
    subst (λ (n : ℕ). n < c.args.radix ^ length c.args.word.now) (sym is) (digits_value-lt c.args.radix c.args.word.now digits)

use Rattle.std.proofs.Common.{◌∙◌, sym}
use Rattle.fast_cli.proofs.Digits.{number_in-none}
use Rattle.fast_cli.proofs.number.number_in.Goals as goal

pub returns-in_default-clause-value : goal.returns-in_default-clause-value
returns-in_default-clause-value c =
    number_in-none c.args.least c.args.most c.args.text.now c.in_default.field-0 (sym c.is_numeral.ensures ∙ c.if-not-is_numeral.false)
    c.ranges.most.fits c.in_default.ensures.value.0

use Rattle.std.proofs.Common.{◌<◌, length, arith}
use Rattle.report_text.proofs.Lines.{ends_open_at}
use Rattle.report_text.proofs.untimed.ends_open.Goals as goal

pub returns-then-not-is_empty : goal.returns-then-not-is_empty
returns-then-not-is_empty c =
    let some : 0 < length c.args.output.now = grind (arith, c.is_empty.ensures, c.if-not-is_empty.true) in
    record { «open» = ends_open_at c.args.output.now some }

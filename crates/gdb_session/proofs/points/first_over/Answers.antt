use Rattle.std.proofs.Common.{◌+◌, sym, ◌∙◌, arith}
use Rattle.gdb_model.specs.Session.{is_over}
use Rattle.gdb_session.proofs.Watching.{find_on}
use Rattle.gdb_session.proofs.points.first_over.Goals as goal

pub loop-place-preserved : goal.loop-place-preserved
loop-place-preserved c =
    find_on (is_over c.args.point.now) c.args.addr c.loop-place.place c.args.count (c.from.result + c.loop-place.place) (omega (arith, c.loop-place-test.true, c.from-place-end.ensures)) (omega (arith, c.from.ensures))
    (sym c.is_over.ensures.over ∙ c.if-is_over.false)
    ∙ c.loop-place.invariant

use Rattle.std.proofs.Common.{Option, ℕ, ap, sym, ◌∙◌}
use Rattle.gdb_session.specs.Points.{greater}
use Rattle.gdb_session.proofs.Watching.{watched_done, watched_more}
use Rattle.gdb_session.proofs.points.Points.watched.Goals as goal

pub loop-point-preserved : goal.loop-point-preserved
loop-point-preserved c =
    c.greater-greatest.ensures.greater
    ∙ ap (λ (most : Option ℕ). greater most c.watched_byte.result) c.loop-point.invariant
    ∙ sym (watched_more c.args.access c.loop-point.point-index c.as_slice-point-items.result.now _ c.watched_byte.result c.loop-point-test.true c.watched_byte.ensures.byte)

pub returns : goal.returns
returns c = record {
  byte =
      c.loop-point.invariant
      ∙ watched_done c.args.access c.loop-point.point-index c.as_slice-point-items.result.now c.args.self.now (c.as_slice-point-items.ensures.value ∙ c.self.view_is) c.loop-point-test.false;
}

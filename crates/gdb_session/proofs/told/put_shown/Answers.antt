use Rattle.std.proofs.Common.{◌∙◌, arith, rules}
use Rattle.std.proofs.lemmas.Result.{err_from_is_err_and}
use Rattle.std.specs.Slice.Iter.{chunks_rest}
use Rattle.gdb_session.proofs.Telling.{showing_breaks, showing_done, showing_more, showing_start}
use Rattle.gdb_session.proofs.told.put_shown.Goals as goal

pub loop-piece-init : goal.loop-piece-init
loop-piece-init g c = (search rules, tt, search rules, showing_start c.args.text.now _ (g.K.Sink.faults c.args.sink.now) (g.K.Sink.written c.args.sink.now) (search rules))

pub returns-in_err-put_piece-clause-count : goal.returns-in_err-put_piece-clause-count
returns-in_err-put_piece-clause-count g c = omega (arith, c.loop-piece.invariant.3.count, c.in_err-put_piece.ensures.count)

pub returns-in_err-put_piece-clause-written : goal.returns-in_err-put_piece-clause-written
returns-in_err-put_piece-clause-written g c =
    let left = err_from_is_err_and c.from_residual.result c.from_residual.ensures.1 in
    let steps = c.in-Some.ensures.steps in
    let size = c.loop-piece.invariant.2 in
    rw (left.1)
    (showing_breaks c.args.text.now (chunks_rest c.loop-piece.piece-iterator) c.in-Some.piece.now (chunks_rest c.next.new.self) c.loop-piece.invariant.3 steps.1.0 (rw size at steps.1.1) steps.1.2
    c.in_err-put_piece.ensures.written)

pub loop-piece-preserved : goal.loop-piece-preserved
loop-piece-preserved g c =
    let steps = c.in-Some.ensures.steps in
    let size = c.loop-piece.invariant.2 in (
      search rules,
      tt,
      steps.0 ∙ size,
      showing_more c.args.text.now (chunks_rest c.loop-piece.piece-iterator) c.in-Some.piece.now (chunks_rest c.next.new.self) c.loop-piece.invariant.3 steps.1.0 (rw size at steps.1.1) steps.1.2
          c.in_ok-put_piece.ensures.count c.in_ok-put_piece.ensures.written,
    )

pub returns-clause-count : goal.returns-clause-count
returns-clause-count g c = c.loop-piece.invariant.3.count

pub returns-clause-written : goal.returns-clause-written
returns-clause-written g c = showing_done c.args.text.now (chunks_rest c.loop-piece.piece-iterator) c.loop-piece.invariant.3 c.in-None.ensures.steps.1.0

use Rattle.std.proofs.Common.{◌∙◌, ◌++◌, take, arith, List, ℕ}
use Rattle.std.proofs.lemmas.Result.{err_from_is_err_and}
use Rattle.gdb_session.proofs.Served.{prompt_stays, served_more, serving_breaks, serving_heard, serving_more, serving_start}
use Rattle.gdb_session.proofs.serving.serve.Goals as goal

pub loop-init : goal.loop-init
loop-init g c = record {
  reads = omega arith;
  writes = omega arith;
  prompt = c.requires.prompt;
  served = c.requires.served;
  serving = serving_start c.args.stub.now (g.S.Source.heard c.args.source.now) (g.K.Sink.written c.args.sink.now);
}

pub returns-in_err-take_all-in-Bytes-clause-talked : goal.returns-in_err-take_all-in-Bytes-clause-talked
returns-in_err-take_all-in-Bytes-clause-talked g c = λ s history talk h.
    let left = err_from_is_err_and c.from_residual.result c.from_residual.ensures.1 in
    let so = c.loop.invariant.serving in
    let piece : List ℕ = take c.in-Bytes.count c.read.new.buf in
    rw (left.1, left.2) (
      so.bytes ++ piece,
      record {
        heard =
            serving_heard c.args.stub.now c.loop.stub (g.S.Source.heard c.args.source.now) (g.S.Source.heard c.loop.source) (g.S.Source.heard c.read.new.self)
            (g.K.Sink.written c.args.sink.now) (g.K.Sink.written c.loop.sink) piece so c.in-Bytes.ensures.heard.heard;
        breaks =
            serving_breaks s history talk c.args.stub.now c.loop.stub (g.S.Source.heard c.args.source.now) (g.S.Source.heard c.loop.source)
            (g.K.Sink.written c.args.sink.now) (g.K.Sink.written c.loop.sink) (g.K.Sink.written c.take_all.new.sink) piece
            (g.K.Sink.faults c.args.sink.now) (g.K.Sink.faults c.loop.sink) (g.K.Sink.faults c.take_all.new.sink) so h c.loop.invariant.writes c.in_err-take_all-in-Bytes.ensures.written;
      },
    )

pub returns-in-End-clause-talked : goal.returns-in-End-clause-talked
returns-in-End-clause-talked g c = λ s history talk h.
    let so = c.loop.invariant.serving in
    (so.bytes, record { heard = c.in-End.ensures.heard ∙ so.heard; written = so.written s history talk h })

pub returns-in-Failed-clause-talked : goal.returns-in-Failed-clause-talked
returns-in-Failed-clause-talked g c = λ s history talk h.
    let so = c.loop.invariant.serving in (
      so.bytes,
      record {
        answered = record { heard = c.in-Failed.ensures.heard.same ∙ so.heard; written = so.written s history talk h };
        rose = omega (arith, c.loop.invariant.reads, c.in-Failed.ensures.heard.rose);
      },
    )

pub loop-preserved : goal.loop-preserved
loop-preserved g c =
    let so = c.loop.invariant in
    let piece : List ℕ = take c.in-Bytes.count c.read.new.buf in
    record {
      reads = omega (arith, so.reads, c.in-Bytes.ensures.count);
      writes = omega (arith, so.writes, c.in_ok-take_all-in-Bytes.ensures.count);
      prompt =
          prompt_stays g.U.Due.due (g.S.Source.heard c.loop.source) (g.S.Source.heard c.read.new.self) (g.K.Sink.written c.loop.sink) (g.K.Sink.written c.take_all.new.sink)
          c.loop.stub piece so.served so.prompt c.in-Bytes.ensures.heard.heard c.in_ok-take_all-in-Bytes.ensures.written;
      served =
          served_more g.U.Due.due (g.S.Source.heard c.loop.source) (g.S.Source.heard c.read.new.self) c.loop.stub c.take_all.new.self piece so.served
          c.in-Bytes.ensures.heard.heard c.in_ok-take_all-in-Bytes.ensures.stands;
      serving =
          serving_more c.args.stub.now c.loop.stub c.take_all.new.self (g.S.Source.heard c.args.source.now) (g.S.Source.heard c.loop.source) (g.S.Source.heard c.read.new.self)
          (g.K.Sink.written c.args.sink.now) (g.K.Sink.written c.loop.sink) (g.K.Sink.written c.take_all.new.sink) piece so.serving
          c.in-Bytes.ensures.heard.heard c.in_ok-take_all-in-Bytes.ensures.stands c.in_ok-take_all-in-Bytes.ensures.written;
    }

pub returns-clause-talked : goal.returns-clause-talked
returns-clause-talked g c = λ s history talk h.
    let so = c.loop.invariant.serving in
    (so.bytes, record { heard = so.heard; written = so.written s history talk h })

use Rattle.std.proofs.Common.{ℕ, take, get_or, refl, arith}
use Rattle.std.proofs.lemmas.Result.{err_from_is_err_and}
use Rattle.gdb_model.specs.Talk.{Talk, after_bytes}
use Rattle.gdb_session.proofs.Talks.{taking_all, taking_breaks, taking_more, taking_start}
use Rattle.gdb_session.proofs.stub.Stub.take_all.Goals as goal

pub loop-byte-init : goal.loop-byte-init
loop-byte-init g c = record {
  count = omega arith;
  taking = λ s history talk h. taking_start history s talk c.args.bytes.now (g.K.Sink.written c.args.sink.now) c.args.self.now h;
}

pub returns-in_err-take-clause-count : goal.returns-in_err-take-clause-count
returns-in_err-take-clause-count g c = omega (arith, c.loop-byte.invariant.count, c.in_err-take.ensures.count)

pub returns-in_err-take-clause-written : goal.returns-in_err-take-clause-written
returns-in_err-take-clause-written g c = λ s history talk h.
    let left = err_from_is_err_and c.from_residual.result c.from_residual.ensures.1 in
    let so = c.loop-byte.invariant.taking s history talk h in
    let byte : ℕ = get_or c.args.bytes.now c.loop-byte.byte-index 0 in
    let further : Talk = after_bytes history s talk (take c.loop-byte.byte-index c.args.bytes.now) in
    rw (left.1) (taking_breaks history s talk c.args.bytes.now c.loop-byte.byte-index byte
    (g.K.Sink.faults c.args.sink.now) (g.K.Sink.faults c.loop-byte.sink) (g.K.Sink.faults c.take.new.sink)
    (g.K.Sink.written c.args.sink.now) (g.K.Sink.written c.loop-byte.sink) (g.K.Sink.written c.take.new.sink)
    c.loop-byte.self c.loop-byte-test.true refl so c.loop-byte.invariant.count (c.in_err-take.ensures.written s history further so.stands))

pub loop-byte-preserved : goal.loop-byte-preserved
loop-byte-preserved g c = record {
  count = omega (arith, c.loop-byte.invariant.count, c.in_ok-take.ensures.count);
  taking = λ s history talk h.
      let so = c.loop-byte.invariant.taking s history talk h in
      let byte : ℕ = get_or c.args.bytes.now c.loop-byte.byte-index 0 in
      let further : Talk = after_bytes history s talk (take c.loop-byte.byte-index c.args.bytes.now) in
      taking_more history s talk c.args.bytes.now c.loop-byte.byte-index byte
      (g.K.Sink.written c.args.sink.now) (g.K.Sink.written c.loop-byte.sink) (g.K.Sink.written c.take.new.sink)
      c.loop-byte.self c.take.new.self c.loop-byte-test.true refl so
      (c.in_ok-take.ensures.stands s history further so.stands) (c.in_ok-take.ensures.written s history further so.stands);
}

pub returns : goal.returns
returns g c = record {
  stands = λ s history talk h.
      (taking_all history s talk c.args.bytes.now c.loop-byte.byte-index (g.K.Sink.written c.args.sink.now) (g.K.Sink.written c.loop-byte.sink) c.loop-byte.self
      c.loop-byte-test.false (c.loop-byte.invariant.taking s history talk h)).0;
  count = c.loop-byte.invariant.count;
  written = λ s history talk h.
      (taking_all history s talk c.args.bytes.now c.loop-byte.byte-index (g.K.Sink.written c.args.sink.now) (g.K.Sink.written c.loop-byte.sink) c.loop-byte.self
      c.loop-byte-test.false (c.loop-byte.invariant.taking s history talk h)).1;
}

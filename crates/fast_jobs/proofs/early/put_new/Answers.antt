use Rattle.std.proofs.Common.{ap, ◌∙◌, drop, length, take, ◌-◌, subst, List, ℕ, arith}
use Rattle.std.proofs.lemmas.List.{take_rest}
use Rattle.std.proofs.lemmas.Result.{err_from_is_err_and}
use Rattle.fsim_ports.specs.Sink.{Breaks, grown}
use Rattle.fast_jobs.proofs.Putting.{none_new, piece_breaks, piece_put}
use Rattle.fast_jobs.proofs.early.put_new.Goals as goal

pub returns-then-output-put-clause-put : goal.returns-then-output-put-clause-put
returns-then-output-put-clause-put g c = λ whole grows. (omega arith, none_new whole c.args.put (g.K.Sink.written c.args.sink.now))

pub returns-clause-put : goal.returns-clause-put
returns-clause-put g c = λ whole grows.
    let output : List ℕ = c.args.output.now in (
      omega (arith, c.if-output-put.false),
      piece_put whole output c.args.put (g.K.Sink.written c.args.sink.now) (g.K.Sink.written c.put_all.new.sink) (omega (arith, c.if-output-put.false)) grows
          (c.in_ok-put_all.ensures.written ∙ ap (grown (g.K.Sink.written c.args.sink.now)) (take_rest output c.args.put)),
    )

pub returns-in_err-put_all-clause-put : goal.returns-in_err-put_all-clause-put
returns-in_err-put_all-clause-put g c = λ whole grows.
    let left = err_from_is_err_and c.from_residual.result c.from_residual.ensures.1 in
    let output : List ℕ = c.args.output.now in
    let P : List ℕ → Type 0 = λ text. Breaks text (g.K.Sink.faults c.args.sink.now) (g.K.Sink.faults c.put_all.new.sink) (g.K.Sink.written c.args.sink.now) (g.K.Sink.written c.put_all.new.sink) in
    rw (left.1) (piece_breaks whole output c.args.put (g.K.Sink.faults c.args.sink.now) (g.K.Sink.faults c.put_all.new.sink) (g.K.Sink.written c.args.sink.now) (g.K.Sink.written c.put_all.new.sink)
    (omega (arith, c.if-output-put.false)) grows (subst P (take_rest output c.args.put) c.in_err-put_all.ensures.written))

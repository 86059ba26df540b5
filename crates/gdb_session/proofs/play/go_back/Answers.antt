use Rattle.std.proofs.Common.{ℕ, List, subst, refl}
use Rattle.fsim_ports.specs.Sink.{Puts}
use Rattle.gdb_session.specs.Standing.{range_in}
use Rattle.gdb_session.proofs.Sessions.{back_stands, back_text_is}
use Rattle.gdb_session.proofs.play.go_back.Goals as goal

pub returns-clause-stands : goal.returns-clause-stands
returns-clause-stands g c = λ s history held h.
    let session = c.args.session.now in
    let gone = c.back-reason.ensures.back s session.shown session.quiet h.trail in
    back_stands s history held (range_in c.args.range) session _ c.back-reason.result h gone refl refl refl

pub returns-clause-written : goal.returns-clause-written
returns-clause-written g c = λ s history held h.
    let session = c.args.session.now in
    let gone = c.back-reason.ensures.back s session.shown session.quiet h.trail in
    subst (λ (t : List ℕ). Puts t (g.K.Sink.faults c.args.sink.now) (g.K.Sink.faults c.put_stop.new.sink) (g.K.Sink.written c.args.sink.now) (g.K.Sink.written c.put_stop.new.sink) c.put_stop.result)
    (back_text_is s history held (range_in c.args.range) session c.back-reason.new.debugger c.back-reason.result h gone)
    c.put_stop.ensures.written

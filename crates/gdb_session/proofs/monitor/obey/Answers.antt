use Rattle.std.proofs.Common.{ℕ, List, ap, sym, ◌∙◌, subst}
use Rattle.fsim_ports.specs.Sink.{Puts}
use Rattle.func_model.specs.History.{walk}
use Rattle.gdb_model.specs.Answer.{shown_text}
use Rattle.gdb_model.specs.Session.{Session}
use Rattle.gdb_session.proofs.Playing.{with_mark}
use Rattle.gdb_session.proofs.Talks.{grown_none}
use Rattle.gdb_session.proofs.monitor.obey.Goals as goal

pub returns-in-Output-clause-written : goal.returns-in-Output-clause-written
returns-in-Output-clause-written g c = λ s history held h.
    rw c.in-Output.is (subst (λ (t : List ℕ). Puts (shown_text t) (g.K.Sink.faults c.args.sink.now) (g.K.Sink.faults c.put_shown.new.sink) (g.K.Sink.written c.args.sink.now) (g.K.Sink.written c.put_shown.new.sink) c.put_shown.result)
    (c.output.ensures.output s h.trail ∙ ap (λ (o : Session). (walk s o.at).output) h.session_is) c.put_shown.ensures.written)

pub returns-in-Stop-clause-stands : goal.returns-in-Stop-clause-stands
returns-in-Stop-clause-stands g c = λ s history held h. rw c.in-Stop.is (with_mark s history held c.args.session.now c.in-Stop.mark h)

pub returns-in-Stop-clause-written : goal.returns-in-Stop-clause-written
returns-in-Stop-clause-written g c = λ s history held h. rw c.in-Stop.is (sym (grown_none (g.K.Sink.written c.args.sink.now)))

pub returns-in-Where-clause-stands : goal.returns-in-Where-clause-stands
returns-in-Where-clause-stands g c = λ s history held h. rw c.in-Where.is (c.show_where.ensures.stands s history held h)

pub returns-in-Unknown-clause-written : goal.returns-in-Unknown-clause-written
returns-in-Unknown-clause-written g c = λ s history held h. rw c.in-Unknown.is c.put_shown-in-Unknown.ensures.written

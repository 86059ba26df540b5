use Rattle.std.proofs.Common.{Bool, List, ℕ, [], ◌++◌, codes, drop, if◌then◌else◌, ap, ◌∙◌, subst}
use Rattle.fsim_ports.specs.Sink.{Puts, grown}
use Rattle.fsim_ports.proofs.Writing.{puts_second}
use Rattle.mono_model.specs.Report.{line_feed, status_text}
use Rattle.gdb_model.specs.Answer.{end_text, shown_text}
use Rattle.gdb_model.specs.Stops.{ended}
use Rattle.gdb_session.proofs.Sessions.{rest_is}
use Rattle.gdb_session.proofs.play.put_output.Goals as goal

pub returns-in-Ended-clause-written : goal.returns-in-Ended-clause-written
returns-in-Ended-clause-written g c =
    let output : List ℕ = c.args.output.now in
    let first = c.in_ok-put_shown.ensures.written
    ∙ ap (λ (t : List ℕ). grown (g.K.Sink.written c.args.sink.now) (shown_text t)) (rest_is output c.min.result c.args.before c.min.ensures) in
    let line = c.as_slice.ensures.same ∙ c.end_line.ensures.text
    ∙ ap (λ (is_open : Bool). (if is_open then line_feed else []) ++ codes "fast: " ++ status_text c.in-Ended.end ++ line_feed) c.ends_open.ensures.open in
    rw c.in-Ended.is (puts_second (shown_text (drop c.args.before output)) (end_text output (ended c.in-Ended.end))
    (g.K.Sink.faults c.put_shown-in-Ended.new.sink) (g.K.Sink.written c.args.sink.now) (g.K.Sink.written c.put_shown-in-Ended.new.sink) c.put_shown-in-Ended.result
    first c.put_shown.ensures.count
    (subst (λ (t : List ℕ). Puts (shown_text t) (g.K.Sink.faults c.put_shown.new.sink) (g.K.Sink.faults c.put_shown-in-Ended.new.sink) (g.K.Sink.written c.put_shown.new.sink) (g.K.Sink.written c.put_shown-in-Ended.new.sink) c.put_shown-in-Ended.result)
    line c.put_shown-in-Ended.ensures.written))

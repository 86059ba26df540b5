use Rattle.std.proofs.Common.{◌≡◌, List, ℕ, [], ◌∷◌, subst}
use Rattle.fsim_ports.specs.Sink.{Puts}
use Rattle.mono_model.specs.Report.{joined}
use Rattle.report_text.specs.Lines.{csrs_text}
use Rattle.report_text.proofs.untimed.put_csrs.Goals as goal

pub returns-clause-written : goal.returns-clause-written
unfolding csrs_text
returns-clause-written g c =
    let P : List ℕ → Type 0 = λ t. Puts t (g.K.Sink.faults c.args.sink.now) (g.K.Sink.faults c.put_lines.new.sink) (g.K.Sink.written c.args.sink.now) (g.K.Sink.written c.put_lines.new.sink) c.put_lines.result in
    let same : joined (c.interrupt_csrs_line.result ∷ c.trap_csrs_line.result ∷ []) ≡ csrs_text c.args.csrs.now c.args.cmp = λ i. joined (c.interrupt_csrs_line.ensures.text i ∷ c.trap_csrs_line.ensures.text i ∷ []) in
    subst P same c.put_lines.ensures.written

use Rattle.std.proofs.Common.{◌≡◌, List, ℕ, [], ◌∷◌, subst}
use Rattle.fsim_ports.specs.Sink.{Puts}
use Rattle.mono_model.specs.Report.{joined}
use Rattle.report_text.specs.Lines.{counts_text}
use Rattle.report_text.proofs.untimed.put_counts.Goals as goal

pub returns-clause-written : goal.returns-clause-written
unfolding counts_text
returns-clause-written g c =
    let P : List ℕ → Type 0 = λ t. Puts t (g.K.Sink.faults c.args.sink.now) (g.K.Sink.faults c.put_lines.new.sink) (g.K.Sink.written c.args.sink.now) (g.K.Sink.written c.put_lines.new.sink) c.put_lines.result in
    let same : joined (c.status_line.result ∷ c.count_line.result ∷ c.count_line-2.result ∷ c.count_line-3.result ∷ c.output_line.result ∷ c.pc_line.result ∷ []) ≡ counts_text c.args.f.now = λ i. joined (c.status_line.ensures.text i ∷ c.count_line.ensures.text i ∷ c.count_line-2.ensures.text i ∷ c.count_line-3.ensures.text i ∷ c.output_line.ensures.text i ∷ c.pc_line.ensures.text i ∷ []) in
    subst P same c.put_lines.ensures.written

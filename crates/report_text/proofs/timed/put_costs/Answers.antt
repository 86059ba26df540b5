use Rattle.std.proofs.Common.{◌≡◌, List, ℕ, [], ◌∷◌, subst}
use Rattle.fsim_ports.specs.Sink.{Puts}
use Rattle.mono_model.specs.Report.{joined}
use Rattle.report_text.specs.Lines.{costs_text}
use Rattle.report_text.proofs.timed.put_costs.Goals as goal

pub returns-clause-written : goal.returns-clause-written
unfolding costs_text
returns-clause-written g c =
    let P : List ℕ → Type 0 = λ t. Puts t (g.K.Sink.faults c.args.sink.now) (g.K.Sink.faults c.put_lines.new.sink) (g.K.Sink.written c.args.sink.now) (g.K.Sink.written c.put_lines.new.sink) c.put_lines.result in
    let same : joined (c.count_line.result ∷ c.count_line-2.result ∷ c.misses_line.result ∷ c.misses_line-2.result ∷ []) ≡ costs_text c.args.f.now = λ i. joined (c.count_line.ensures.text i ∷ c.count_line-2.ensures.text i ∷ c.misses_line.ensures.text i ∷ c.misses_line-2.ensures.text i ∷ []) in
    subst P same c.put_lines.ensures.written

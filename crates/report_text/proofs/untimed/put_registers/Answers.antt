use Rattle.std.proofs.Common.{◌≡◌, List, ℕ, [], ◌∷◌, subst}
use Rattle.fsim_ports.specs.Sink.{Puts}
use Rattle.mono_model.specs.Report.{joined}
use Rattle.report_text.specs.Lines.{registers_text}
use Rattle.report_text.proofs.untimed.put_registers.Goals as goal

pub returns-clause-written : goal.returns-clause-written
unfolding registers_text
returns-clause-written g c =
    let P : List ℕ → Type 0 = λ t. Puts t (g.K.Sink.faults c.args.sink.now) (g.K.Sink.faults c.put_lines.new.sink) (g.K.Sink.written c.args.sink.now) (g.K.Sink.written c.put_lines.new.sink) c.put_lines.result in
    let same : joined (c.register_line.result ∷ c.register_line-2.result ∷ c.register_line-3.result ∷ c.register_line-4.result ∷ c.register_line-5.result ∷ c.register_line-6.result ∷ c.register_line-7.result ∷ c.register_line-8.result ∷ []) ≡ registers_text c.args.regs.now = λ i. joined (c.register_line.ensures.text i ∷ c.register_line-2.ensures.text i ∷ c.register_line-3.ensures.text i ∷ c.register_line-4.ensures.text i ∷ c.register_line-5.ensures.text i ∷ c.register_line-6.ensures.text i ∷ c.register_line-7.ensures.text i ∷ c.register_line-8.ensures.text i ∷ []) in
    subst P same c.put_lines.ensures.written

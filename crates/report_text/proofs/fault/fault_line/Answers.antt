use Rattle.std.proofs.Common.{ℕ, List, ◌++◌, codes, decimal, ap, sym, ◌∙◌, subst}
use Rattle.fsim_ports.specs.Sink.{Puts}
use Rattle.mono_model.specs.Report.{line_feed}
use Rattle.report_text.specs.FaultText.{fault_text}
use Rattle.report_text.proofs.fault.fault_line.Goals as goal

pub returns-in-TooLong-clause-written : goal.returns-in-TooLong-clause-written
unfolding fault_text
returns-in-TooLong-clause-written g c =
    let P : List ℕ → Type 0 = λ t. Puts t (g.K.Sink.faults c.args.sink.now) (g.K.Sink.faults c.put_piece-in-TooLong.new.sink) (g.K.Sink.written c.args.sink.now) (g.K.Sink.written c.put_piece-in-TooLong.new.sink) c.put_piece-in-TooLong.result in
    subst P (c.as_slice-in-TooLong.ensures.same ∙ c.too_long_line.ensures.text ∙ sym (ap fault_text c.in-TooLong.is)) c.put_piece-in-TooLong.ensures.written

pub returns-in-TooMuchText-clause-written : goal.returns-in-TooMuchText-clause-written
unfolding fault_text
returns-in-TooMuchText-clause-written g c =
    let P : List ℕ → Type 0 = λ t. Puts t (g.K.Sink.faults c.args.sink.now) (g.K.Sink.faults c.put_count-in-TooMuchText.new.sink) (g.K.Sink.written c.args.sink.now) (g.K.Sink.written c.put_count-in-TooMuchText.new.sink) c.put_count-in-TooMuchText.result in
    let text = λ (pages : ℕ). codes "fast: too much text: " ++ decimal pages ++ line_feed in
    subst P (ap text c.from.ensures ∙ sym (ap fault_text c.in-TooMuchText.is)) c.put_count-in-TooMuchText.ensures.written

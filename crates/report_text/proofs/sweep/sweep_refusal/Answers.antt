use Rattle.std.proofs.Common.{◌≡◌, ℕ, List, sym, ◌∙◌, subst, codes}
use Rattle.fsim_ports.specs.Sink.{Puts}
use Rattle.fsim_ports.proofs.Writing.{puts_second}
use Rattle.mono_model.specs.Report.{line}
use Rattle.report_text.specs.declared.status.Status.{Status}
use Rattle.report_text.specs.FaultText.{image_fault_text, machine_fault_text}
use Rattle.report_text.specs.SweepText.{sweep_refusal_text}
use Rattle.report_text.proofs.sweep.sweep_refusal.Goals as goal

pub returns-in-Image-clause-written : goal.returns-in-Image-clause-written
unfolding sweep_refusal_text
returns-in-Image-clause-written g c =
    let name = c.args.name.now in
    let behind = line (codes ": image: ") (image_fault_text c.in-Image.fault) in
    let Q : Status → Type 0 = λ s. Puts (sweep_refusal_text name s) (g.K.Sink.faults c.args.sink.now) (g.K.Sink.faults c.put_piece-in-Image.new.sink) (g.K.Sink.written c.args.sink.now) (g.K.Sink.written c.put_piece-in-Image.new.sink) c.put_piece-in-Image.result in
    let P : List ℕ → Type 0 = λ t. Puts t (g.K.Sink.faults c.put_piece.new.sink) (g.K.Sink.faults c.put_piece-in-Image.new.sink) (g.K.Sink.written c.put_piece.new.sink) (g.K.Sink.written c.put_piece-in-Image.new.sink) c.put_piece-in-Image.result in
    let text : c.as_slice.result.now ≡ behind = c.as_slice.ensures.same ∙ c.image_line.ensures.text in
    subst Q (sym c.in-Image.is) (puts_second name behind (g.K.Sink.faults c.put_piece-in-Image.new.sink) (g.K.Sink.written c.args.sink.now) (g.K.Sink.written c.put_piece-in-Image.new.sink) c.put_piece-in-Image.result c.in_ok-put_piece.ensures.written c.in_ok-put_piece.ensures.count (subst P text c.put_piece-in-Image.ensures.written))

pub returns-in-Machine-clause-written : goal.returns-in-Machine-clause-written
unfolding sweep_refusal_text
returns-in-Machine-clause-written g c =
    let name = c.args.name.now in
    let behind = line (codes ": machine: ") (machine_fault_text c.in-Machine.fault) in
    let Q : Status → Type 0 = λ s. Puts (sweep_refusal_text name s) (g.K.Sink.faults c.args.sink.now) (g.K.Sink.faults c.machine_line.new.sink) (g.K.Sink.written c.args.sink.now) (g.K.Sink.written c.machine_line.new.sink) c.machine_line.result in
    subst Q (sym c.in-Machine.is) (puts_second name behind (g.K.Sink.faults c.machine_line.new.sink) (g.K.Sink.written c.args.sink.now) (g.K.Sink.written c.machine_line.new.sink) c.machine_line.result c.in_ok-put_piece.ensures.written c.in_ok-put_piece.ensures.count c.machine_line.ensures.written)

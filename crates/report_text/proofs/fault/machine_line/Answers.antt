use Rattle.std.proofs.Common.{◌≡◌, ◌++◌, ℕ, List, ap, sym, ◌∙◌, subst, codes, append_assoc}
use Rattle.std.specs.Fmt.{signed_decimal}
use Rattle.fsim_ports.specs.Sink.{Puts}
use Rattle.mono_model.specs.Report.{line, line_feed}
use Rattle.machine_file.specs.declared.fault.MachineFault.{MachineFault}
use Rattle.machine_file.specs.declared.fault.MachineFault.TheVariants.{NotToml, Unknown, Kind, Range, Power}
use Rattle.report_text.specs.FaultText.{machine_fault_text}
use Rattle.report_text.proofs.Lines.{keyed_line-parts, valued_line-parts}
use Rattle.report_text.proofs.fault.machine_line.Goals as goal

abbrev machine_text : List ℕ → MachineFault → List ℕ
machine_text head fault = line head (machine_fault_text fault)

pub returns-in-NotToml-clause-written : goal.returns-in-NotToml-clause-written
returns-in-NotToml-clause-written g c =
    let P : List ℕ → Type 0 = λ t. Puts t (g.K.Sink.faults c.args.sink.now) (g.K.Sink.faults c.put_piece.new.sink) (g.K.Sink.written c.args.sink.now) (g.K.Sink.written c.put_piece.new.sink) c.put_piece.result in
    let head = c.args.head.now in
    let text : c.as_slice.result.now ≡ machine_text head NotToml = c.as_slice.ensures.same ∙ c.longer_head.ensures.text ∙ sym (append_assoc head (codes "not toml") line_feed) in
    subst P (text ∙ sym (ap (machine_text head) c.in-NotToml.is)) c.put_piece.ensures.written

pub returns-in-Unknown-clause-written : goal.returns-in-Unknown-clause-written
returns-in-Unknown-clause-written g c =
    let P : List ℕ → Type 0 = λ t. Puts t (g.K.Sink.faults c.args.sink.now) (g.K.Sink.faults c.put_key.new.sink) (g.K.Sink.written c.args.sink.now) (g.K.Sink.written c.put_key.new.sink) c.put_key.result in
    let head = c.args.head.now in
    let begun : c.as_slice-in-Unknown.result.now ≡ head ++ codes "unknown " = c.as_slice-in-Unknown.ensures.same ∙ c.longer_head-in-Unknown.ensures.text in
    subst P (keyed_line-parts head (codes "unknown ") c.as_slice-in-Unknown.result.now c.as_slice-in-Unknown-2.result.now begun
    ∙ ap (λ k. machine_text head (Unknown k)) c.as_slice-in-Unknown-2.ensures.same ∙ sym (ap (machine_text head) c.in-Unknown.is)) c.put_key.ensures.written

pub returns-in-Kind-clause-written : goal.returns-in-Kind-clause-written
returns-in-Kind-clause-written g c =
    let P : List ℕ → Type 0 = λ t. Puts t (g.K.Sink.faults c.args.sink.now) (g.K.Sink.faults c.put_key-in-Kind.new.sink) (g.K.Sink.written c.args.sink.now) (g.K.Sink.written c.put_key-in-Kind.new.sink) c.put_key-in-Kind.result in
    let head = c.args.head.now in
    let begun : c.as_slice-in-Kind.result.now ≡ head ++ codes "kind " = c.as_slice-in-Kind.ensures.same ∙ c.longer_head-in-Kind.ensures.text in
    subst P (keyed_line-parts head (codes "kind ") c.as_slice-in-Kind.result.now c.as_slice-in-Kind-2.result.now begun
    ∙ ap (λ k. machine_text head (Kind k)) c.as_slice-in-Kind-2.ensures.same ∙ sym (ap (machine_text head) c.in-Kind.is)) c.put_key-in-Kind.ensures.written

pub returns-in-Range-clause-written : goal.returns-in-Range-clause-written
returns-in-Range-clause-written g c =
    let P : List ℕ → Type 0 = λ t. Puts t (g.K.Sink.faults c.args.sink.now) (g.K.Sink.faults c.put_value.new.sink) (g.K.Sink.written c.args.sink.now) (g.K.Sink.written c.put_value.new.sink) c.put_value.result in
    let head = c.args.head.now in
    let begun : c.as_slice-in-Range.result.now ≡ head ++ codes "range " = c.as_slice-in-Range.ensures.same ∙ c.longer_head-in-Range.ensures.text in
    subst P (valued_line-parts head (codes "range ") c.as_slice-in-Range.result.now c.as_slice-in-Range-2.result.now (codes " ") (signed_decimal c.in-Range.value) begun
    ∙ ap (λ k. machine_text head (Range k c.in-Range.value)) c.as_slice-in-Range-2.ensures.same ∙ sym (ap (machine_text head) c.in-Range.is)) c.put_value.ensures.written

pub returns-in-Power-clause-written : goal.returns-in-Power-clause-written
returns-in-Power-clause-written g c =
    let P : List ℕ → Type 0 = λ t. Puts t (g.K.Sink.faults c.args.sink.now) (g.K.Sink.faults c.put_value-in-Power.new.sink) (g.K.Sink.written c.args.sink.now) (g.K.Sink.written c.put_value-in-Power.new.sink) c.put_value-in-Power.result in
    let head = c.args.head.now in
    let begun : c.as_slice-in-Power.result.now ≡ head ++ codes "power " = c.as_slice-in-Power.ensures.same ∙ c.longer_head-in-Power.ensures.text in
    subst P (valued_line-parts head (codes "power ") c.as_slice-in-Power.result.now c.as_slice-in-Power-2.result.now (codes " ") (signed_decimal c.in-Power.value) begun
    ∙ ap (λ k. machine_text head (Power k c.in-Power.value)) c.as_slice-in-Power-2.ensures.same ∙ sym (ap (machine_text head) c.in-Power.is)) c.put_value-in-Power.ensures.written

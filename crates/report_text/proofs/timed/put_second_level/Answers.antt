use Rattle.std.proofs.Common.{◌≡◌, ℕ, ◌==◌, true, false, List, [], ◌∷◌, ◌∙◌, subst, arith}
use Rattle.fsim_ports.specs.Sink.{Puts}
use Rattle.mono_model.specs.Report.{joined}
use Rattle.report_text.specs.Lines.{second_level_text}
use Rattle.report_text.proofs.Lines.{second_level_text-without, second_level_text-with}
use Rattle.report_text.proofs.timed.put_second_level.Goals as goal

pub returns-then-f-ne2-clause-written : goal.returns-then-f-ne2-clause-written
returns-then-f-ne2-clause-written g c =
    let other : (c.args.f.now.stats.version == 2) ≡ false = grind (arith, c.if-f-ne2.true) in
    let P : List ℕ → Type 0 = λ t. Puts t (g.K.Sink.faults c.args.sink.now) (g.K.Sink.faults c.put_piece.new.sink) (g.K.Sink.written c.args.sink.now) (g.K.Sink.written c.put_piece.new.sink) c.put_piece.result in
    subst P (second_level_text-without c.args.f.now other) c.put_piece.ensures.written

pub returns-clause-written : goal.returns-clause-written
returns-clause-written g c =
    let two : (c.args.f.now.stats.version == 2) ≡ true = grind (arith, c.if-f-ne2.false) in
    let P : List ℕ → Type 0 = λ t. Puts t (g.K.Sink.faults c.args.sink.now) (g.K.Sink.faults c.put_lines.new.sink) (g.K.Sink.written c.args.sink.now) (g.K.Sink.written c.put_lines.new.sink) c.put_lines.result in
    let same : joined (c.misses_line.result ∷ c.count_line.result ∷ []) ≡ second_level_text c.args.f.now = (λ i. joined (c.misses_line.ensures.text i ∷ c.count_line.ensures.text i ∷ [])) ∙ second_level_text-with c.args.f.now two in
    subst P same c.put_lines.ensures.written

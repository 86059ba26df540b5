use Rattle.std.proofs.Common.{◌≡◌, ◌++◌, ℕ, List, ◌∙◌, subst}
use Rattle.fsim_ports.specs.Sink.{Puts}
use Rattle.mono_model.specs.Report.{line_feed}
use Rattle.report_text.specs.SweepText.{sweep_costs, sweep_progress, sweep_text}
use Rattle.report_text.proofs.sweep.sweep_line.Goals as goal

pub returns-clause-written : goal.returns-clause-written
unfolding sweep_text
returns-clause-written g c =
    let name = c.args.name.now in
    let last = c.args.last.now in
    let P : List ℕ → Type 0 = λ t. Puts t (g.K.Sink.faults c.args.sink.now) (g.K.Sink.faults c.put_three.new.sink) (g.K.Sink.written c.args.sink.now) (g.K.Sink.written c.put_three.new.sink) c.put_three.result in
    let progress : c.as_slice.result.now ≡ sweep_progress last = c.as_slice.ensures.same ∙ c.progress_words-progress.ensures.text in
    let costs : c.as_slice-2.result.now ≡ sweep_costs last ++ line_feed = c.as_slice-2.ensures.same ∙ c.costs_words-costs.ensures.text in
    let text : name ++ c.as_slice.result.now ++ c.as_slice-2.result.now ≡ sweep_text name last = λ i. name ++ progress i ++ costs i in
    subst P text c.put_three.ensures.written

use Rattle.std.proofs.Common.{◌≡◌, ◌∙◌, [], ◌∷◌, ◌++◌, ap, codes, decimal, drop, sym}
use Rattle.std.proofs.lemmas.List.{append-nil}
use Rattle.mono_model.specs.Report.{Text, joined}
use Rattle.insight_model.specs.Trace.{head_lines, tabbed}
use Rattle.cycle_watch.specs.Writing.{stand}
use Rattle.cycle_watch.proofs.Writing.{broken_first, broken_text as broken_as, puts_as, puts_both, puts_err, puts_from}
use Rattle.cycle_watch.proofs.timed_text.TimedText.begin.Goals as goal

pub returns-in_err-put-clause-put : goal.returns-in_err-put-clause-put
returns-in_err-put-clause-put g c =
    let s = stand c.args.self.now (g.K.Sink.faults c.args.sink.now) (g.K.Sink.written c.args.sink.now) in
    let rest = joined (drop 1 (head_lines c.args.cycle)) in
    puts_from (joined (head_lines c.args.cycle)) c.args.cycle s _ c.from_residual.result
    (puts_err _ (joined (head_lines c.args.cycle)) (record s { at = c.args.cycle }) _ c.from_residual.result c.from_residual.ensures.1
    (broken_as (c.version_line.result ++ rest) (joined (head_lines c.args.cycle)) _ _ (ap (λ (t : Text). t ++ rest) c.version_line.ensures.text) (broken_first c.version_line.result rest _ _ c.in_err-put.ensures.put)))

pub returns-clause-put : goal.returns-clause-put
returns-clause-put g c =
    let s = stand c.args.self.now (g.K.Sink.faults c.args.sink.now) (g.K.Sink.written c.args.sink.now) in
    let first = tabbed (codes "C=" ∷ decimal c.args.cycle ∷ []) in
    let is : c.version_line.result ++ c.first_cycle_line.result ≡ joined (head_lines c.args.cycle) =
    λ i. c.version_line.ensures.text i ++ (c.first_cycle_line.ensures.text ∙ sym (append-nil first)) i in
    puts_from (joined (head_lines c.args.cycle)) c.args.cycle s _ c.put-2.result
    (puts_as (c.version_line.result ++ c.first_cycle_line.result) (joined (head_lines c.args.cycle)) (record s { at = c.args.cycle }) _ c.put-2.result is
    (puts_both c.version_line.result c.first_cycle_line.result (record s { at = c.args.cycle }) _ _ c.put-2.result c.in_ok-put.ensures.put c.put-2.ensures.put))

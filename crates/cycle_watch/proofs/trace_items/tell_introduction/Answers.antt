use Rattle.std.proofs.Common.{[], ◌∷◌, ap, drop}
use Rattle.mono_model.specs.Report.{Text}
use Rattle.insight_model.specs.Trace.{introduction}
use Rattle.cycle_watch.specs.Cells.{cell_in}
use Rattle.cycle_watch.specs.Shown.{shown_in}
use Rattle.cycle_watch.proofs.Writing.{broken_one, broken_two, tells_err, tells_three}
use Rattle.cycle_watch.proofs.trace_items.tell_introduction.Goals as goal

pub returns-in_err-tell-clause-told : goal.returns-in_err-tell-clause-told
returns-in_err-tell-clause-told g c =
    let whole = introduction c.args.mark.now.number c.args.place (cell_in c.args.mark.now.cell) (shown_in c.args.shown.now) in
    tells_err _ c.args.cycle whole _ _ c.from_residual.result c.from_residual.ensures.1
    (broken_one c.args.cycle whole (c.instruction_line.result ∷ []) (drop 1 whole) _ _ (ap (λ (x : Text). x ∷ drop 1 whole) c.instruction_line.ensures.text) c.in_err-tell.ensures.told)

pub returns-in_err-tell-2-clause-told : goal.returns-in_err-tell-2-clause-told
returns-in_err-tell-2-clause-told g c =
    let whole = introduction c.args.mark.now.number c.args.place (cell_in c.args.mark.now.cell) (shown_in c.args.shown.now) in
    tells_err _ c.args.cycle whole _ _ c.from_residual-in_err-tell-2.result c.from_residual-in_err-tell-2.ensures.1
    (broken_two c.args.cycle whole (c.instruction_line.result ∷ []) (c.label_line.result ∷ []) (drop 2 whole) _ _ _
    (λ i. c.instruction_line.ensures.text i ∷ c.label_line.ensures.text i ∷ drop 2 whole) c.in_ok-tell.ensures.told c.in_err-tell-2.ensures.told)

pub returns-clause-told : goal.returns-clause-told
returns-clause-told g c =
    tells_three c.args.cycle (introduction c.args.mark.now.number c.args.place (cell_in c.args.mark.now.cell) (shown_in c.args.shown.now))
    (c.instruction_line.result ∷ []) (c.label_line.result ∷ []) (c.cell_line.result ∷ []) _ _ _ _ c.tell-3.result
    (λ i. c.instruction_line.ensures.text i ∷ c.label_line.ensures.text i ∷ c.cell_line.ensures.text i ∷ []) c.in_ok-tell.ensures.told c.in_ok-tell-2.ensures.told c.tell-3.ensures.told

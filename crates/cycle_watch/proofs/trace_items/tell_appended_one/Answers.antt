use Rattle.std.proofs.Common.{◌∙◌, [], ◌∷◌, ◌++◌, List, ap, append_assoc, codes, sym}
use Rattle.std.specs.Prelude.{option_to_list}
use Rattle.mono_model.specs.Report.{Text}
use Rattle.insight_model.specs.Trace.{arrow_from, introduction, lines_if, note_line, second_arrow}
use Rattle.cycle_watch.specs.Cells.{cell_in}
use Rattle.cycle_watch.specs.Shown.{shown_in}
use Rattle.cycle_watch.proofs.Writing.{broken_one, broken_two, broken_three, tells_err, tells_four}
use Rattle.cycle_watch.proofs.trace_items.tell_appended_one.Goals as goal

pub returns-in_err-tell_introduction-clause-told : goal.returns-in_err-tell_introduction-clause-told
returns-in_err-tell_introduction-clause-told g c =
    let number = c.args.mark.now.number in
    let intro = introduction number c.args.place (cell_in c.args.mark.now.cell) (shown_in c.args.shown.now) in
    let paid = lines_if c.args.paid (note_line number (codes "icache miss") ∷ []) in
    let first = arrow_from number c.args.producers.0 in
    let second = second_arrow number c.args.producers.0 c.args.producers.1 in
    tells_err _ c.args.cycle (intro ++ paid ++ first ++ second) _ _ c.from_residual.result c.from_residual.ensures.1
    (broken_one c.args.cycle (intro ++ paid ++ first ++ second) intro (paid ++ (first ++ second)) _ _
    (sym (append_assoc intro paid (first ++ second)) ∙ sym (append_assoc (intro ++ paid) first second)) c.in_err-tell_introduction.ensures.told)

pub returns-in_err-tell_some-clause-told : goal.returns-in_err-tell_some-clause-told
returns-in_err-tell_some-clause-told g c =
    let number = c.args.mark.now.number in
    let intro = introduction number c.args.place (cell_in c.args.mark.now.cell) (shown_in c.args.shown.now) in
    let paid = lines_if c.args.paid (note_line number (codes "icache miss") ∷ []) in
    let first = arrow_from number c.args.producers.0 in
    let second = second_arrow number c.args.producers.0 c.args.producers.1 in
    tells_err _ c.args.cycle (intro ++ paid ++ first ++ second) _ _ c.from_residual-in_err-tell_some.result c.from_residual-in_err-tell_some.ensures.1
    (broken_two c.args.cycle (intro ++ paid ++ first ++ second) intro (option_to_list c.paid_line.result) (first ++ second) _ _ _
    (ap (λ (l : List Text). intro ++ l ++ (first ++ second)) c.paid_line.ensures.text ∙ sym (append_assoc (intro ++ paid) first second))
    c.in_ok-tell_introduction.ensures.told c.in_err-tell_some.ensures.told)

pub returns-in_err-tell_some-2-clause-told : goal.returns-in_err-tell_some-2-clause-told
returns-in_err-tell_some-2-clause-told g c =
    let number = c.args.mark.now.number in
    let intro = introduction number c.args.place (cell_in c.args.mark.now.cell) (shown_in c.args.shown.now) in
    let paid = lines_if c.args.paid (note_line number (codes "icache miss") ∷ []) in
    let first = arrow_from number c.args.producers.0 in
    let second = second_arrow number c.args.producers.0 c.args.producers.1 in
    tells_err _ c.args.cycle (intro ++ paid ++ first ++ second) _ _ c.from_residual-in_err-tell_some-2.result c.from_residual-in_err-tell_some-2.ensures.1
    (broken_three c.args.cycle (intro ++ paid ++ first ++ second) intro (option_to_list c.paid_line.result) (option_to_list c.arrow_line.result) second _ _ _ _
    (λ i. intro ++ c.paid_line.ensures.text i ++ c.arrow_line.ensures.text i ++ second)
    c.in_ok-tell_introduction.ensures.told c.in_ok-tell_some.ensures.told c.in_err-tell_some-2.ensures.told)

pub returns-clause-told : goal.returns-clause-told
returns-clause-told g c =
    let number = c.args.mark.now.number in
    let intro = introduction number c.args.place (cell_in c.args.mark.now.cell) (shown_in c.args.shown.now) in
    let paid = lines_if c.args.paid (note_line number (codes "icache miss") ∷ []) in
    let first = arrow_from number c.args.producers.0 in
    let second = second_arrow number c.args.producers.0 c.args.producers.1 in
    tells_four c.args.cycle (intro ++ paid ++ first ++ second) intro (option_to_list c.paid_line.result) (option_to_list c.arrow_line.result) (option_to_list c.second_arrow_line.result) _ _ _ _ _ c.tell_some-3.result
    (λ i. intro ++ c.paid_line.ensures.text i ++ c.arrow_line.ensures.text i ++ c.second_arrow_line.ensures.text i)
    c.in_ok-tell_introduction.ensures.told c.in_ok-tell_some.ensures.told c.in_ok-tell_some-2.ensures.told c.tell_some-3.ensures.told

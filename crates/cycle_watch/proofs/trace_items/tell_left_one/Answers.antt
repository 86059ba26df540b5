use Rattle.std.proofs.Common.{[], ◌∷◌, ◌++◌, List, ap, codes}
use Rattle.std.specs.Prelude.{option_to_list}
use Rattle.std.specs.Option.{option_map_or}
use Rattle.mono_model.specs.Report.{Text}
use Rattle.insight_model.specs.Sight.{outcome_shown}
use Rattle.insight_model.specs.Trace.{last_line, lines_if, trap_note}
use Rattle.cycle_watch.specs.Shown.{shown_in}
use Rattle.cycle_watch.proofs.Writing.{broken_one, tells_err, tells_two}
use Rattle.cycle_watch.proofs.trace_items.tell_left_one.Goals as goal

pub returns-in_err-tell_some-clause-told : goal.returns-in_err-tell_some-clause-told
returns-in_err-tell_some-clause-told g c =
    let last = last_line c.args.number c.args.place (codes "0") ∷ [] in
    let whole = lines_if c.args.trapped (option_map_or (trap_note c.args.number) (outcome_shown (shown_in c.args.shown.now)) []) ++ last in
    tells_err _ c.args.cycle whole _ _ c.from_residual.result c.from_residual.ensures.1
    (broken_one c.args.cycle whole (option_to_list c.trap_line.result) last _ _ (ap (λ (l : List Text). l ++ last) c.trap_line.ensures.text) c.in_err-tell_some.ensures.told)

pub returns-clause-told : goal.returns-clause-told
returns-clause-told g c =
    let whole = lines_if c.args.trapped (option_map_or (trap_note c.args.number) (outcome_shown (shown_in c.args.shown.now)) []) ++ last_line c.args.number c.args.place (codes "0") ∷ [] in
    tells_two c.args.cycle whole (option_to_list c.trap_line.result) (c.last_line.result ∷ []) _ _ _ c.tell.result
    (λ i. c.trap_line.ensures.text i ++ c.last_line.ensures.text i ∷ []) c.in_ok-tell_some.ensures.told c.tell.ensures.told

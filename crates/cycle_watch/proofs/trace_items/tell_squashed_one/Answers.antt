use Rattle.std.proofs.Common.{◌≡◌, ◌∙◌, [], ◌∷◌, ◌++◌, List, ap, append_assoc, codes}
use Rattle.std.specs.Prelude.{option_to_list}
use Rattle.std.specs.Option.{option_map_or}
use Rattle.mono_model.specs.Report.{Text}
use Rattle.insight_model.specs.Cause.{cause_name}
use Rattle.insight_model.specs.Trace.{last_line, note_line, wrong_notes}
use Rattle.cycle_watch.specs.Shown.{shown_in}
use Rattle.cycle_watch.proofs.Writing.{broken_one, broken_two, tells_err, tells_three}
use Rattle.cycle_watch.proofs.trace_items.tell_squashed_one.Goals as goal

pub returns-in_err-tell_some-clause-told : goal.returns-in_err-tell_some-clause-told
returns-in_err-tell_some-clause-told g c =
    let rest = note_line c.args.number (codes "squashed: " ++ option_map_or cause_name c.args.flush []) ∷ last_line c.args.number c.args.place (codes "1") ∷ [] in
    let whole = wrong_notes c.args.is_wrong c.args.number (shown_in c.args.shown.now) ++ rest in
    tells_err _ c.args.cycle whole _ _ c.from_residual.result c.from_residual.ensures.1
    (broken_one c.args.cycle whole (option_to_list c.wrong_line.result) rest _ _ (ap (λ (l : List Text). l ++ rest) c.wrong_line.ensures.text) c.in_err-tell_some.ensures.told)

pub returns-in_err-tell-clause-told : goal.returns-in_err-tell-clause-told
returns-in_err-tell-clause-told g c =
    let last = last_line c.args.number c.args.place (codes "1") ∷ [] in
    let note = note_line c.args.number (codes "squashed: " ++ option_map_or cause_name c.args.flush []) in
    let wrong = wrong_notes c.args.is_wrong c.args.number (shown_in c.args.shown.now) in
    let noted : c.note_line.result ≡ note = c.note_line.ensures.text ∙ ap (λ (name : Text). note_line c.args.number (codes "squashed: " ++ name)) c.flush_word.ensures.name in
    tells_err _ c.args.cycle (wrong ++ note ∷ last) _ _ c.from_residual-in_err-tell.result c.from_residual-in_err-tell.ensures.1
    (broken_two c.args.cycle (wrong ++ note ∷ last) (option_to_list c.wrong_line.result) (c.note_line.result ∷ []) last _ _ _
    ((λ i. c.wrong_line.ensures.text i ++ (noted i ∷ []) ++ last) ∙ append_assoc wrong (note ∷ []) last) c.in_ok-tell_some.ensures.told c.in_err-tell.ensures.told)

pub returns-clause-told : goal.returns-clause-told
returns-clause-told g c =
    let last = last_line c.args.number c.args.place (codes "1") ∷ [] in
    let note = note_line c.args.number (codes "squashed: " ++ option_map_or cause_name c.args.flush []) in
    let wrong = wrong_notes c.args.is_wrong c.args.number (shown_in c.args.shown.now) in
    let noted : c.note_line.result ≡ note = c.note_line.ensures.text ∙ ap (λ (name : Text). note_line c.args.number (codes "squashed: " ++ name)) c.flush_word.ensures.name in
    tells_three c.args.cycle (wrong ++ note ∷ last) (option_to_list c.wrong_line.result) (c.note_line.result ∷ []) (c.last_line.result ∷ []) _ _ _ _ c.tell-2.result
    ((λ i. c.wrong_line.ensures.text i ++ (noted i ∷ []) ++ (c.last_line.ensures.text i ∷ [])) ∙ append_assoc wrong (note ∷ []) last) c.in_ok-tell_some.ensures.told c.in_ok-tell.ensures.told c.tell-2.ensures.told

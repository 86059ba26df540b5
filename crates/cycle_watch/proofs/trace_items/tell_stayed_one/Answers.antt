use Rattle.std.proofs.Common.{◌≡◌, ◌∙◌, ◌&&◌, [], ◌∷◌, ◌++◌, Bool, ℕ, List, Option, ap, append_assoc, codes, decimal, is_some, not, refl, sym}
use Rattle.std.specs.Prelude.{nat_lt, option_to_list}
use Rattle.mono_model.specs.Report.{Text}
use Rattle.insight_model.specs.Accesses.{has_begun, load_made}
use Rattle.insight_model.specs.Cell.{is_cell}
use Rattle.insight_model.specs.Facts.{Kept}
use Rattle.insight_model.specs.Sight.{access_shown}
use Rattle.insight_model.specs.Trace.{access_notes, cell_line, is_place, kept_text, lines_if, note_line, wrong_notes}
use Rattle.cycle_watch.specs.Shown.{outcome_in, shown_in}
use Rattle.cycle_watch.specs.Cells.{cell_in}
use Rattle.cycle_watch.specs.Traced.{mark_in}
use Rattle.cycle_watch.proofs.Writing.{broken_one, broken_two, broken_three, tells_err, tells_four}
use Rattle.cycle_watch.proofs.trace_items.tell_stayed_one.Goals as goal

pub returns-in_err-tell_some-clause-told : goal.returns-in_err-tell_some-clause-told
returns-in_err-tell_some-clause-told g c = λ f place wrong.
    let s = c.args.stayed.now in
    let k : Kept = record { before = shown_in s.before; after = shown_in s.after } in
    let whole = kept_text c.args.pipeline f place k (mark_in s.was) (mark_in s.is) in
    let A = lines_if (has_begun k) (access_notes s.was.number (access_shown k.after)) in
    let B = lines_if (is_some (load_made c.args.pipeline k) && nat_lt 0 s.is.miss) (note_line s.was.number (codes "dcache miss " ++ decimal s.is.miss) ∷ []) in
    let C = wrong_notes (is_place place f.mispredicted) s.was.number k.before in
    let D = lines_if (not (is_cell (cell_in s.was.cell) (cell_in s.is.cell))) (cell_line s.was.number (cell_in s.is.cell) ∷ []) in
    let begun : option_to_list c.begun_line.result ≡ A =
    c.begun_line.ensures.text ∙ (λ i. lines_if (c.has_begun-begun.ensures.begun (outcome_in s.before) (outcome_in s.after) i) (access_notes s.was.number (c.access.ensures.access i))) in
    tells_err _ c.args.cycle whole _ _ c.from_residual.result c.from_residual.ensures.1
    (broken_one c.args.cycle whole (option_to_list c.begun_line.result) (B ++ (C ++ D)) _ _
    (ap (λ (l : List Text). l ++ (B ++ (C ++ D))) begun ∙ sym (append_assoc A B (C ++ D)) ∙ sym (append_assoc (A ++ B) C D)) c.in_err-tell_some.ensures.told)

pub returns-in_err-tell_some-2-clause-told : goal.returns-in_err-tell_some-2-clause-told
returns-in_err-tell_some-2-clause-told g c = λ f place wrong.
    let s = c.args.stayed.now in
    let k : Kept = record { before = shown_in s.before; after = shown_in s.after } in
    let whole = kept_text c.args.pipeline f place k (mark_in s.was) (mark_in s.is) in
    let A = lines_if (has_begun k) (access_notes s.was.number (access_shown k.after)) in
    let B = lines_if (is_some (load_made c.args.pipeline k) && nat_lt 0 s.is.miss) (note_line s.was.number (codes "dcache miss " ++ decimal s.is.miss) ∷ []) in
    let C = wrong_notes (is_place place f.mispredicted) s.was.number k.before in
    let D = lines_if (not (is_cell (cell_in s.was.cell) (cell_in s.is.cell))) (cell_line s.was.number (cell_in s.is.cell) ∷ []) in
    let begun : option_to_list c.begun_line.result ≡ A =
    c.begun_line.ensures.text ∙ (λ i. lines_if (c.has_begun-begun.ensures.begun (outcome_in s.before) (outcome_in s.after) i) (access_notes s.was.number (c.access.ensures.access i))) in
    let made : option_to_list c.miss_line.result ≡ B =
    c.miss_line.ensures.text
    ∙ ap (λ (b : Bool). lines_if (b && nat_lt 0 s.is.miss) (note_line s.was.number (codes "dcache miss " ++ decimal s.is.miss) ∷ []))
    (c.is_some-made.ensures ∙ ap (λ (o : Option ℕ). is_some o) (c.load_made.ensures.made k (outcome_in s.before) refl refl)) in
    tells_err _ c.args.cycle whole _ _ c.from_residual-in_err-tell_some-2.result c.from_residual-in_err-tell_some-2.ensures.1
    (broken_two c.args.cycle whole (option_to_list c.begun_line.result) (option_to_list c.miss_line.result) (C ++ D) _ _ _
    ((λ i. begun i ++ made i ++ (C ++ D)) ∙ sym (append_assoc (A ++ B) C D)) c.in_ok-tell_some.ensures.told c.in_err-tell_some-2.ensures.told)

pub returns-in_err-tell_some-3-clause-told : goal.returns-in_err-tell_some-3-clause-told
returns-in_err-tell_some-3-clause-told g c = λ f place wrong.
    let s = c.args.stayed.now in
    let k : Kept = record { before = shown_in s.before; after = shown_in s.after } in
    let whole = kept_text c.args.pipeline f place k (mark_in s.was) (mark_in s.is) in
    let A = lines_if (has_begun k) (access_notes s.was.number (access_shown k.after)) in
    let B = lines_if (is_some (load_made c.args.pipeline k) && nat_lt 0 s.is.miss) (note_line s.was.number (codes "dcache miss " ++ decimal s.is.miss) ∷ []) in
    let C = wrong_notes (is_place place f.mispredicted) s.was.number k.before in
    let D = lines_if (not (is_cell (cell_in s.was.cell) (cell_in s.is.cell))) (cell_line s.was.number (cell_in s.is.cell) ∷ []) in
    let begun : option_to_list c.begun_line.result ≡ A =
    c.begun_line.ensures.text ∙ (λ i. lines_if (c.has_begun-begun.ensures.begun (outcome_in s.before) (outcome_in s.after) i) (access_notes s.was.number (c.access.ensures.access i))) in
    let made : option_to_list c.miss_line.result ≡ B =
    c.miss_line.ensures.text
    ∙ ap (λ (b : Bool). lines_if (b && nat_lt 0 s.is.miss) (note_line s.was.number (codes "dcache miss " ++ decimal s.is.miss) ∷ []))
    (c.is_some-made.ensures ∙ ap (λ (o : Option ℕ). is_some o) (c.load_made.ensures.made k (outcome_in s.before) refl refl)) in
    let wrote : option_to_list c.wrong_line.result ≡ C = c.wrong_line.ensures.text ∙ ap (λ (b : Bool). wrong_notes b s.was.number k.before) wrong in
    tells_err _ c.args.cycle whole _ _ c.from_residual-in_err-tell_some-3.result c.from_residual-in_err-tell_some-3.ensures.1
    (broken_three c.args.cycle whole (option_to_list c.begun_line.result) (option_to_list c.miss_line.result) (option_to_list c.wrong_line.result) D _ _ _ _
    (λ i. begun i ++ made i ++ wrote i ++ D) c.in_ok-tell_some.ensures.told c.in_ok-tell_some-2.ensures.told c.in_err-tell_some-3.ensures.told)

pub returns-clause-told : goal.returns-clause-told
returns-clause-told g c = λ f place wrong.
    let s = c.args.stayed.now in
    let k : Kept = record { before = shown_in s.before; after = shown_in s.after } in
    let whole = kept_text c.args.pipeline f place k (mark_in s.was) (mark_in s.is) in
    let A = lines_if (has_begun k) (access_notes s.was.number (access_shown k.after)) in
    let B = lines_if (is_some (load_made c.args.pipeline k) && nat_lt 0 s.is.miss) (note_line s.was.number (codes "dcache miss " ++ decimal s.is.miss) ∷ []) in
    let C = wrong_notes (is_place place f.mispredicted) s.was.number k.before in
    let D = lines_if (not (is_cell (cell_in s.was.cell) (cell_in s.is.cell))) (cell_line s.was.number (cell_in s.is.cell) ∷ []) in
    let begun : option_to_list c.begun_line.result ≡ A =
    c.begun_line.ensures.text ∙ (λ i. lines_if (c.has_begun-begun.ensures.begun (outcome_in s.before) (outcome_in s.after) i) (access_notes s.was.number (c.access.ensures.access i))) in
    let made : option_to_list c.miss_line.result ≡ B =
    c.miss_line.ensures.text
    ∙ ap (λ (b : Bool). lines_if (b && nat_lt 0 s.is.miss) (note_line s.was.number (codes "dcache miss " ++ decimal s.is.miss) ∷ []))
    (c.is_some-made.ensures ∙ ap (λ (o : Option ℕ). is_some o) (c.load_made.ensures.made k (outcome_in s.before) refl refl)) in
    let wrote : option_to_list c.wrong_line.result ≡ C = c.wrong_line.ensures.text ∙ ap (λ (b : Bool). wrong_notes b s.was.number k.before) wrong in
    tells_four c.args.cycle whole (option_to_list c.begun_line.result) (option_to_list c.miss_line.result) (option_to_list c.wrong_line.result) (option_to_list c.new_cell_line.result) _ _ _ _ _ c.tell_some-4.result
    (λ i. begun i ++ made i ++ wrote i ++ c.new_cell_line.ensures.text i) c.in_ok-tell_some.ensures.told c.in_ok-tell_some-2.ensures.told c.in_ok-tell_some-3.ensures.told c.tell_some-4.ensures.told

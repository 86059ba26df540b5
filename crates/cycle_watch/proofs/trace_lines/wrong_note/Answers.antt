use Rattle.std.proofs.Common.{◌≡◌, ◌∙◌, ℕ, List, [], ◌∷◌, ◌++◌, append_assoc, codes, decimal, ap}
use Rattle.mono_model.specs.Report.{hex}
use Rattle.insight_model.specs.Sight.{next_seen}
use Rattle.insight_model.specs.Trace.{tabbed}
use Rattle.cycle_watch.proofs.trace_lines.wrong_note.Goals as goal

-- the parts of the line, one after another
line_of : List ℕ → List ℕ → List ℕ → List ℕ
line_of number next predicted =
    (((((76 ∷ 9 ∷ number ++ codes "\t1\t") ++ codes "mispredicted: to ") ++ next) ++ codes ", predicted ") ++ predicted) ++ codes "; \n"

noted : (number next predicted : List ℕ) →
    line_of number next predicted ≡ tabbed (codes "L" ∷ number ∷ codes "1" ∷ ((codes "mispredicted: to " ++ next ++ codes ", predicted " ++ predicted) ++ codes "; ") ∷ [])
unfolding line_of
noted number next predicted = simp append_assoc

pub returns : goal.returns
unfolding line_of
returns c =
    let shown = c.args.shown.now in
    let words = c.bytes.ensures.text ∙ ap (λ (l : List ℕ). l ++ codes "mispredicted: to ") c.note_head-line.ensures.text in
    let next = c.hex.ensures.text ∙ (λ i. words i ++ hex 8 ((c.from.ensures ∙ c.next_seen.ensures.next) i)) in
    let comma = c.bytes-2.ensures.text ∙ ap (λ (l : List ℕ). l ++ codes ", predicted ") next in
    let predicted = c.hex-2.ensures.text ∙ (λ i. comma i ++ hex 8 (c.from-2.ensures i)) in
    record {
      text =
          c.bytes-3.ensures.text ∙ ap (λ (l : List ℕ). l ++ codes "; \n") predicted
          ∙ noted (decimal c.args.number) (hex 8 (next_seen shown.cause shown.next)) (hex 8 shown.predicted);
    }

use Rattle.std.proofs.Common.{◌≡◌, ◌∙◌, ℕ, Option, List, [], ◌∷◌, ◌++◌, append_assoc, codes, decimal, ap, sym}
use Rattle.std.specs.Prelude.{unwrap_or}
use Rattle.std.specs.Option.{option_map_or}
use Rattle.disassembly.specs.Text.{word_text}
use Rattle.mono_model.specs.Report.{hex}
use Rattle.insight_model.specs.Trace.{tabbed}
use Rattle.cycle_watch.proofs.trace_lines.label_line.Goals as goal
use Rattle.cycle_watch.proofs.trace_lines.label_line.Goals.{After-byte, in-Some, in-None}

-- the parts of the line, one after another
line_of : List ℕ → List ℕ → List ℕ → List ℕ
line_of number addr word = (((((76 ∷ 9 ∷ number) ++ codes "\t0\t") ++ addr) ++ codes ": ") ++ word) ++ 32 ∷ []

labelled : (number addr word told : List ℕ) → (line_of number addr word ++ told) ++ 10 ∷ [] ≡ tabbed (codes "L" ∷ number ∷ codes "0" ∷ (addr ++ codes ": " ++ word ++ codes " " ++ told) ∷ [])
unfolding line_of
labelled number addr word told = simp append_assoc

-- up to the text of the word
head_is : (c : After-byte) → c.byte.new.self ≡ line_of (decimal c.args.number) (hex 8 c.args.shown.now.addr) (hex 8 (unwrap_or c.args.shown.now.word 0))
unfolding line_of
head_is c =
    let first = c.bytes.ensures.text ∙ ap (λ (l : List ℕ). l ++ codes "\t0\t") c.numbered-line.ensures.text in
    let addr = c.hex.ensures.text ∙ (λ i. first i ++ hex 8 (c.from.ensures i)) in
    let colon = c.bytes-2.ensures.text ∙ ap (λ (l : List ℕ). l ++ codes ": ") addr in
    let word = c.hex-2.ensures.text ∙ (λ i. colon i ++ hex 8 ((c.from-2.ensures ∙ c.unwrap_or.ensures) i)) in
    c.byte.ensures.text ∙ ap (λ (l : List ℕ). l ++ 32 ∷ []) word

pub returns : goal.returns
returns c =
    let shown = c.args.shown.now in
    let head = head_is (goal.at.returns c).After-byte in
    let told : (t : List ℕ) → option_map_or (word_text shown.addr) shown.word (codes "not fetched") ≡ t → c.match-shown.line ≡ c.byte.new.self ++ t →
    c.byte-2.new.self ≡ tabbed (codes "L" ∷ decimal c.args.number ∷ codes "0"
    ∷ (hex 8 shown.addr ++ codes ": " ++ hex 8 (unwrap_or shown.word 0) ++ codes " " ++ option_map_or (word_text shown.addr) shown.word (codes "not fetched")) ∷ []) =
    λ t is line.
    c.byte-2.ensures.text ∙ ap (λ (l : List ℕ). l ++ 10 ∷ []) (line ∙ ap (λ (l : List ℕ). l ++ t) head)
    ∙ labelled (decimal c.args.number) (hex 8 shown.addr) (hex 8 (unwrap_or shown.word 0)) t
    ∙ ap (λ (text : List ℕ). tabbed (codes "L" ∷ decimal c.args.number ∷ codes "0"
    ∷ (hex 8 shown.addr ++ codes ": " ++ hex 8 (unwrap_or shown.word 0) ++ codes " " ++ text) ∷ [])) (sym is) in
    elim c.match-shown.branch [
      | in-Some w ↦ record {
        text = told (word_text shown.addr w.in-Some.word) (ap (λ (o : Option ℕ). option_map_or (word_text shown.addr) o (codes "not fetched")) w.in-Some.is)
            (w.line-is ∙ w.bytes-in-Some.ensures.text ∙ ap (λ (t : List ℕ). c.byte.new.self ++ t) (w.as_slice.ensures.same ∙ w.write_text.ensures.text));
      }
      | in-None w ↦ record {
        text = told (codes "not fetched") (ap (λ (o : Option ℕ). option_map_or (word_text shown.addr) o (codes "not fetched")) w.in-None.is) (w.line-is ∙ w.bytes-in-None.ensures.text);
      }
    ]

-- From the arguments of the process to the program's answer.
use Rattle.std.proofs.Common.{◌≡◌, ◌<◌, ◌≤◌, ◌+◌, ◌⊎◌, inl, inr, ℕ, suc, List, [], ◌∷◌, ◌++◌, length, map, take, get_or, string_bytes, Option, Err, ap, sym, refl, ◌∙◌, subst, arith}
use Rattle.std.specs.Prelude.{String}
use Rattle.std.specs.Borrow.{Bor}
use Rattle.std.specs.Global.{Global}
use Rattle.std.specs.IoError.{error_kind}
use Rattle.std.specs.declared.io.Error.{Error}
use Rattle.std.specs.declared.io.ErrorKind.{ErrorKind}
use Rattle.std.specs.declared.io.ErrorKind.TheVariants.{OutOfMemory}
use Rattle.std.proofs.lemmas.List.{map-append, take_all}
use Rattle.std.proofs.Math.Seq.{take-suc}
use Rattle.report_text.specs.declared.status.Status.{Status}
use Rattle.report_text.specs.declared.status.Status.TheVariants.{Memory, Usage}
use Rattle.report_text.specs.FaultText.{fault_text, status_number}
use Rattle.fast_cli.specs.declared.line.Line.{Line}
use Rattle.fast_run.specs.Answer.{IsAnswer}
use Rattle.fast_jobs.specs.Call.{Hearing, IsUnheard, Reading, WroteTo, Writing}
use Rattle.fast_run.specs.Program.{Arguments, exit_number, line_in, status_of_error}
use Rattle.fast_run.proofs.Answers.{answer-starved, answer-usage, exit-starved, exit-usage}

-- the words of the texts, with one more of them
pub words-next : (texts : List (String Global)) (words next : List (Bor (List ℕ))) (i : ℕ) (text : String Global) (word : Bor (List ℕ)) → i < length texts →
    text ≡ get_or texts i text → word.now ≡ string_bytes text → next ≡ words ++ word ∷ [] → map (λ w. w.now) words ≡ map string_bytes (take i texts) →
    map (λ w. w.now) next ≡ map string_bytes (take (i + 1) texts)
words-next texts words next i text word within at same pushed so_far =
    let up : i + 1 ≡ suc i = omega arith in
    let grows : take (i + 1) texts ≡ take i texts ++ text ∷ [] =
    ap (λ n. take n texts) up ∙ take-suc texts i text within ∙ ap (λ t. take i texts ++ t ∷ []) (sym at) in
    ap (λ (ws : List (Bor (List ℕ))). map (λ w. w.now) ws) pushed ∙ map-append (λ (w : Bor (List ℕ)). w.now) words (word ∷ [])
    ∙ ap (λ (ws : List (List ℕ)). ws ++ word.now ∷ []) so_far ∙ ap (λ (w : List ℕ). map string_bytes (take i texts) ++ w ∷ []) same
    ∙ sym (map-append string_bytes (take i texts) (text ∷ [])) ∙ ap (λ (ts : List (String Global)). map string_bytes ts) (sym grows)

-- and all of them
pub words-all : (texts : List (String Global)) (words slice : List (Bor (List ℕ))) (i : ℕ) → length texts ≤ i → slice ≡ words
    → map (λ w. w.now) words ≡ map string_bytes (take i texts) → map (λ w. w.now) slice ≡ map string_bytes texts
words-all texts words slice i last same so_far =
    ap (λ (ws : List (Bor (List ℕ))). map (λ w. w.now) ws) same ∙ so_far ∙ ap (λ (ts : List (String Global)). map string_bytes ts) (take_all i texts last)

of_error : (kind : ErrorKind) → (status_of_error kind ≡ Usage) ⊎ (status_of_error kind ≡ Memory)
of_error OutOfMemory = inr refl
of_error kind = inl refl

-- arguments that could not be had are no line
pub answer-error : (arguments : Arguments) (error : Error) (sets : ℕ) (files : Reading) (hearing : Hearing) (sink : Writing) (status : Status) → arguments ≡ Err error →
    files.faults.after ≡ files.faults.before → IsUnheard hearing → status ≡ status_of_error (error_kind error) → WroteTo sink (fault_text status) → IsAnswer (line_in arguments) sets files hearing sink status
answer-error arguments error sets files hearing sink status is unread unheard same written =
    let P : Status → Type 0 = λ s. WroteTo sink (fault_text s) in
    elim (of_error (error_kind error)) [
      | inl usage ↦ answer-usage (line_in arguments) sets files hearing sink status (ap (λ (a : Arguments). line_in a) is) unread unheard (same ∙ usage) (subst P (same ∙ usage) written)
      | inr memory ↦ answer-starved (line_in arguments) sets files hearing sink status (same ∙ memory) unread unheard (subst P (same ∙ memory) written)
    ]

pub exit-error : (asked : Option Line) (kind : ErrorKind) (status : Status) (number : ℕ) → status ≡ status_of_error kind → number ≡ status_number status → number ≡ exit_number asked status
exit-error asked kind status number same told = elim (of_error kind) [
  | inl usage ↦ exit-usage asked status number (same ∙ usage) told
  | inr memory ↦ exit-starved asked status number (same ∙ memory) told
]

-- From the answer to a job, and from the cause that there is none, to the program's answer.
use Rattle.std.proofs.Common.{◌≡◌, ◌∙◌, ℕ, Bool, cond, true, false, inl, inr, Option, Some, None, Ok, refl, ap, sym, subst}
use Rattle.report_text.specs.FaultText.{fault_text, status_number}
use Rattle.report_text.specs.declared.status.Status.{Status}
use Rattle.report_text.specs.declared.status.Status.TheVariants.{Memory, Usage}
use Rattle.fast_cli.specs.declared.line.Line.{Line}
use Rattle.fast_jobs.specs.declared.job.Job.{Job}
use Rattle.fast_jobs.specs.Call.{Hearing, IsUnheard, Reading, Writing, WroteTo}
use Rattle.fast_jobs.specs.Ending.{HasTalked}
use Rattle.fast_jobs.specs.Opening.{Asks, Closes, Starved}
use Rattle.fast_run.specs.Answer.{IsAnswer}
use Rattle.fast_run.specs.Program.{asks_code, code_number, exit_number}

-- there is no job, and the line of the answer was written
pub answer-closed : (line : Line) (sets : ℕ) (files : Reading) (hearing : Hearing) (sink : Writing) (status answer : Status) → answer ≡ status → Closes line sets files status → IsUnheard hearing → WroteTo sink (fault_text status) →
    IsAnswer (Some line) sets files hearing sink answer
unfolding IsAnswer
answer-closed line sets files hearing sink status answer same cause unheard written =
    subst (λ (given : Status). IsAnswer (Some line) sets files hearing sink given) (sym same) (inl (record { cause = cause; unheard = unheard; written = written }))

-- the same, where the code counted the sets
pub answer-refused : (line : Line) (counted sets : ℕ) (files : Reading) (hearing : Hearing) (sink : Writing) (status answer : Status) → counted ≡ sets → answer ≡ status → Closes line counted files status → IsUnheard hearing →
    WroteTo sink (fault_text status) → IsAnswer (Some line) sets files hearing sink answer
answer-refused line counted sets files hearing sink status answer count same cause unheard written =
    subst (λ (n : ℕ). IsAnswer (Some line) n files hearing sink answer) count (answer-closed line counted files hearing sink status answer same cause unheard written)

-- there is one, and this is the answer to it
pub answer-ran : (line : Line) (sets : ℕ) (files : Reading) (hearing : Hearing) (sink : Writing) (job : Job) (status : Status) → Asks line sets files (Ok job) → HasTalked job hearing sink status →
    IsAnswer (Some line) sets files hearing sink status
unfolding IsAnswer
answer-ran line sets files hearing sink job status asks talked = inr (record { job = job; asks = asks; talked = talked })

-- memory was wanted, whatever the words are
pub answer-starved : (asked : Option Line) (sets : ℕ) (files : Reading) (hearing : Hearing) (sink : Writing) (status : Status) → status ≡ Memory → files.faults.after ≡ files.faults.before → IsUnheard hearing → WroteTo sink (fault_text Memory) → IsAnswer asked sets files hearing sink status
unfolding IsAnswer
answer-starved None sets files hearing sink status memory unread unheard written = inr (record { starved = record { answer = memory; written = written }; unread = unread; unheard = unheard })
answer-starved (Some line) sets files hearing sink status memory unread unheard written = answer-closed line sets files hearing sink Memory status memory (Starved refl) unheard written

-- the words are no line
pub answer-usage : (asked : Option Line) (sets : ℕ) (files : Reading) (hearing : Hearing) (sink : Writing) (status : Status) → asked ≡ None → files.faults.after ≡ files.faults.before → IsUnheard hearing → status ≡ Usage →
    WroteTo sink (fault_text Usage) → IsAnswer asked sets files hearing sink status
unfolding IsAnswer
answer-usage asked sets files hearing sink status none unread unheard usage written =
    let line : WroteTo sink (fault_text status) = subst (λ (given : Status). WroteTo sink (fault_text given)) (sym usage) written in
    let answered : IsAnswer None sets files hearing sink status = inl (record { answer = usage; unread = unread; unheard = unheard; written = line }) in
    subst (λ (a : Option Line). IsAnswer a sets files hearing sink status) (sym none) answered

-- an answer that has no code ends the process with its own number
exit-plain : (asks : Bool) (code number : ℕ) → code ≡ number → number ≡ cond asks code number
exit-plain true code number same = sym same
exit-plain false code number same = refl

pub exit-usage : (asked : Option Line) (status : Status) (number : ℕ) → status ≡ Usage → number ≡ status_number status → number ≡ exit_number asked status
exit-usage asked status number usage same =
    same ∙ ap status_number usage ∙ exit-plain (asks_code asked) (code_number Usage) (status_number Usage) refl ∙ ap (exit_number asked) (sym usage)

pub exit-starved : (asked : Option Line) (status : Status) (number : ℕ) → status ≡ Memory → number ≡ status_number status → number ≡ exit_number asked status
exit-starved asked status number memory same =
    same ∙ ap status_number memory ∙ exit-plain (asks_code asked) (code_number Memory) (status_number Memory) refl ∙ ap (exit_number asked) (sym memory)

-- for the answers that come without a job
pub ruleset closing_answers = (answer-usage, answer-starved, exit-usage, exit-starved)

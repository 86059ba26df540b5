-- Where what the files hold is told, the answer is the one that words and files have.
use Rattle.std.proofs.Common.{◌≡◌, ◌≢◌, ◌⊎◌, inl, inr, ℕ, List, Option, Some, None, Result, Ok, Err, ap, sym, refl, ◌∙◌, subst, arith}
use Rattle.fsim_ports.specs.Count.{HasRisen}
use Rattle.fsim_ports.specs.Files.{Names}
use Rattle.report_text.specs.declared.status.Status.{Status}
use Rattle.report_text.specs.declared.status.Role.TheVariants.{Packets}
use Rattle.report_text.specs.declared.status.Status.TheVariants.{Usage, Memory, ReadFault}
use Rattle.fast_cli.specs.declared.line.Line.{Line}
use Rattle.fast_jobs.specs.declared.job.Job.{Job}
use Rattle.fast_jobs.specs.Ending.{CutOff, Ends, Reported, Broken, Unopened}
use Rattle.fast_jobs.specs.Opening.{Asks, Closes, Refused, Starved, Stopped}
use Rattle.fast_run.specs.Answer.{IsAnswer}
use Rattle.fast_jobs.specs.Call.{Hearing, Reading, Writing, IsQuiet}
use Rattle.fast_jobs.specs.Files.{files_of}
use Rattle.fast_jobs.specs.Gives.{◌>>=◌}
use Rattle.fast_jobs.specs.Job.{job_of}
use Rattle.fast_jobs.specs.Outcome.{job_status}
use Rattle.fast_jobs.specs.Reading.{AreRead, StopsIn}
use Rattle.fast_run.specs.Settled.{IsComplete, IsSettled, Settles, asked_job}
use Rattle.fast_jobs.proofs.Outcomes.{memory_or}
use Rattle.fast_jobs.proofs.Readings.{told-read, told-stopped}

ok-same : (a b : Job) → ◌≡◌ {A = Result Job Status} (Ok a) (Ok b) → a ≡ b
ok-same a b same = cc

never-both : {P : Type 0} (job : Job) (status : Status) → ◌≡◌ {A = Result Job Status} (Ok job) (Err status) → P
never-both job status same = cc

module _ (line : Line) (sets : ℕ) (files : Reading) (names : Names) (told : files.told ≡ Some names) where
  -- the files were read, and what they hold asks for this
  asked-contents : (wanted : Result Job Status) → Asks line sets files wanted → asked_job (Some line) sets names ≡ wanted
  asked-contents wanted asks =
      let P : Option Names → Type 0 = λ t. AreRead t (files_of line) asks.contents in
      ap (λ (r : Result (List (List ℕ)) Status). r >>= job_of line sets) (told-read names (files_of line) asks.contents (subst P told asks.read)) ∙ asks.same

  -- reading them stopped
  asked-stopped : (status : Status) → IsQuiet files.faults → StopsIn files (files_of line) status → status ≢ Memory → asked_job (Some line) sets names ≡ Err status
  asked-stopped status quiet stop other =
      let P : Option Names → Type 0 = λ t. StopsIn (record { told = t; faults = files.faults }) (files_of line) status in
      ap (λ (r : Result (List (List ℕ)) Status). r >>= job_of line sets) (told-stopped names (files_of line) files.faults status quiet (subst P told stop) other)

  -- there is no job
  asked-closed : (status : Status) → IsQuiet files.faults → Closes line sets files status → status ≢ Memory → asked_job (Some line) sets names ≡ Err status
  asked-closed status quiet (Stopped stop) other = asked-stopped status quiet stop other
  asked-closed status quiet (Refused asks) other = asked-contents (Err status) asks
  asked-closed status quiet (Starved memory) other = absurd (other memory)

settles-by : (asked wanted : Result Job Status) (status : Status) → asked ≡ wanted → Settles wanted status → Settles asked status
settles-by asked wanted status same settled = subst (λ (r : Result Job Status). Settles r status) (sym same) settled

job-settles : (job : Job) (heard : List ℕ) (sink : Writing) (status : Status) → Ends job heard sink status → status ≢ Memory → Settles (Ok job) status
job-settles job heard sink status (Reported reported) other = inl reported.answer
job-settles job heard sink status (Broken broken) other = inr (inl broken.answer)
job-settles job heard sink status (Unopened starved) other = absurd (other starved.answer)
job-settles job heard sink status (CutOff cut) other = inr (inr (cut.talk, cut.answer))

pub answer-settled : (asked : Option Line) (sets : ℕ) (files : Reading) (hearing : Hearing) (sink : Writing) (status : Status) → IsAnswer asked sets files hearing sink status → IsSettled asked sets files status
unfolding IsAnswer
answer-settled None sets files hearing sink status (inl usage) names told quiet other = usage.answer
answer-settled None sets files hearing sink status (inr cramped) names told quiet other = absurd (other cramped.starved.answer)
answer-settled (Some line) sets files hearing sink status (inl closed) names told quiet other =
    settles-by (asked_job (Some line) sets names) (Err status) status (asked-closed line sets files names told status quiet closed.cause other) refl
answer-settled (Some line) sets files hearing sink status (inr ran) names told quiet other =
    settles-by (asked_job (Some line) sets names) (Ok ran.job) status (asked-contents line sets files names told (Ok ran.job) ran.asks)
    (job-settles ran.job ran.talked.heard sink status ran.talked.ends other)

job-completes : (job : Job) (hearing : Hearing) (heard : List ℕ) (sink : Writing) (status : Status) → IsQuiet hearing.faults → IsQuiet sink.faults
    → (status ≡ ReadFault Packets → HasRisen hearing.faults.before hearing.faults.after) → Ends job heard sink status → (status ≡ job_status job) ⊎ (status ≡ Memory)
job-completes job hearing heard sink status hears quiet rose (Reported reported) = inl reported.answer
job-completes job hearing heard sink status hears quiet rose (Broken broken) = absurd (omega (arith, broken.written.rose, quiet.same, quiet.room))
job-completes job hearing heard sink status hears quiet rose (Unopened starved) = inr starved.answer
job-completes job hearing heard sink status hears quiet rose (CutOff cut) = let risen = rose cut.answer in absurd (omega (arith, risen, hears.same, hears.room))

closed-completes : (line : Line) (sets : ℕ) (files : Reading) (names : Names) (job : Job) (status : Status) → files.told ≡ Some names → asked_job (Some line) sets names ≡ Ok job →
    IsQuiet files.faults → Closes line sets files status → (status ≡ job_status job) ⊎ (status ≡ Memory)
closed-completes line sets files names job status told wanted quiet cause = elim (memory_or status) [
  | inl memory ↦ inr memory
  | inr other ↦ never-both job status (sym wanted ∙ asked-closed line sets files names told status quiet cause other)
]

pub answer-complete : (asked : Option Line) (sets : ℕ) (files : Reading) (hearing : Hearing) (sink : Writing) (status : Status) → IsAnswer asked sets files hearing sink status → IsComplete asked sets files hearing sink status
unfolding IsAnswer
answer-complete None sets files hearing sink status answer names job told wanted quiet hears sink_quiet = never-both job Usage (sym wanted)
answer-complete (Some line) sets files hearing sink status (inl closed) names job told wanted quiet hears sink_quiet =
    closed-completes line sets files names job status told wanted quiet closed.cause
answer-complete (Some line) sets files hearing sink status (inr ran) names job told wanted quiet hears sink_quiet =
    let same : ran.job ≡ job = ok-same ran.job job (sym (asked-contents line sets files names told (Ok ran.job) ran.asks) ∙ wanted) in
    let P : Job → Type 0 = λ j. (status ≡ job_status j) ⊎ (status ≡ Memory) in
    subst P same (job-completes ran.job hearing ran.talked.heard sink status hears sink_quiet ran.talked.rose ran.talked.ends)

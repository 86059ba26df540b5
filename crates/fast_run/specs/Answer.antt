-- When each answer of the program comes, and what is written then.
use Rattle.std.specs.Prelude.{◌≡◌, ℕ, Option, Some, None, Ok, ◌⊎◌}
use Rattle.report_text.specs.declared.status.Status.{Status}
use Rattle.report_text.specs.declared.status.Status.TheVariants.{Usage}
use Rattle.report_text.specs.FaultText.{fault_text}
use Rattle.fast_cli.specs.declared.line.Line.{Line}
use Rattle.fast_jobs.specs.declared.job.Job.{Job}
use Rattle.fast_jobs.specs.Call.{Hearing, IsUnheard, Reading, Writing, WroteTo}
use Rattle.fast_jobs.specs.Opening.{Asks, Closes}
use Rattle.fast_jobs.specs.Ending.{HasTalked, IsStarved}

-- there is no job, and the line of the answer was written
pub record IsClosed (line : Line) (sets : ℕ) (files : Reading) (hearing : Hearing) (sink : Writing)
    (status : Status) : Type 0 where
  pub cause : Closes line sets files status
  pub unheard : IsUnheard hearing
  pub written : WroteTo sink (fault_text status)

-- there is a job, and this is the answer to it
pub record HasRun (line : Line) (sets : ℕ) (files : Reading) (hearing : Hearing) (sink : Writing)
    (status : Status) : Type 0 where
  pub job : Job
  pub asks : Asks line sets files (Ok job)
  pub talked : HasTalked job hearing sink status

-- the words are no line, the files' count of faults stands, and the line of this answer was
-- written
pub record IsUsage (files : Reading) (hearing : Hearing) (sink : Writing)
    (status : Status) : Type 0 where
  pub answer : status ≡ Usage
  pub unread : files.faults.after ≡ files.faults.before
  pub unheard : IsUnheard hearing
  pub written : WroteTo sink (fault_text status)

-- memory was wanted for the words, the files' count of faults stands, and the line that says so was
-- written
pub record IsCramped (files : Reading) (hearing : Hearing) (sink : Writing)
    (status : Status) : Type 0 where
  pub starved : IsStarved sink status
  pub unread : files.faults.after ≡ files.faults.before
  pub unheard : IsUnheard hearing

-- the answer of the program to words with this many sets of devices, by the line that the words
-- are, if they are one
unfoldable pub IsAnswer : Option Line → ℕ → Reading → Hearing → Writing → Status → Type 0
IsAnswer None sets files hearing sink status =
    IsUsage files hearing sink status ⊎ IsCramped files hearing sink status
IsAnswer (Some line) sets files hearing sink status =
    IsClosed line sets files hearing sink status ⊎ HasRun line sets files hearing sink status

-- Where what the files hold is told, the words and the files have one answer.
use Rattle.std.specs.Prelude.{◌≡◌, ◌≢◌, ℕ, true, Option, Some, None, Result, Ok, Err, ◌⊎◌}
use Rattle.fsim_ports.specs.Files.{Names}
use Rattle.report_text.specs.declared.status.Status.{Status}
use Rattle.report_text.specs.declared.status.Role.TheVariants.{Packets}
use Rattle.report_text.specs.declared.status.Status.TheVariants.{Usage, ReadFault, WriteFault}
use Rattle.report_text.specs.declared.status.Status.TheVariants.{Memory}
use Rattle.fast_cli.specs.declared.line.Line.{Line}
use Rattle.fast_jobs.specs.declared.job.Job.{Job}
use Rattle.fast_jobs.specs.Files.{files_of}
use Rattle.fast_jobs.specs.Gives.{◌>>=◌}
use Rattle.fast_jobs.specs.Job.{is_talk, job_of}
use Rattle.fast_jobs.specs.Outcome.{job_status}
use Rattle.fast_jobs.specs.Call.{Hearing, Reading, Writing, IsQuiet}
use Rattle.fast_jobs.specs.Reading.{told_contents}

-- what the words ask for, or the first refusal: that they are no line, file by file, and then of
-- what the files hold
abbrev pub asked_job : Option Line → ℕ → Names → Result Job Status
asked_job None sets names = Err Usage
asked_job (Some line) sets names = do
  contents ← told_contents names (files_of line)
  job_of line sets contents

-- a talk that standard input cuts off
abbrev pub IsCut : Job → Status → Type 0
IsCut job status = (is_talk job ≡ true) × (status ≡ ReadFault Packets)

-- the refusal is the answer; a job is answered by its end, or by a fault of the sink, or a talk by
-- one of standard input
abbrev pub Settles : Result Job Status → Status → Type 0
Settles (Err refusal) status = status ≡ refusal
Settles (Ok job) status =
    (status ≡ job_status job) ⊎ ((status ≡ WriteFault) ⊎ IsCut job status)

-- where no fault of the files was counted and memory was found, words and files settle the answer
abbrev pub IsSettled : Option Line → ℕ → Reading → Status → Type 0
IsSettled asked sets files status =
    (names : Names) → files.told ≡ Some names → IsQuiet files.faults → status ≢ Memory
    → Settles (asked_job asked sets names) status

-- where nothing is refused and no fault was counted, the answer is that of the job's end, or want
-- of memory
abbrev pub IsComplete : Option Line → ℕ → Reading → Hearing → Writing → Status → Type 0
IsComplete asked sets files hearing sink status =
    (names : Names) (job : Job) → files.told ≡ Some names → asked_job asked sets names ≡ Ok job
    → IsQuiet files.faults → IsQuiet hearing.faults → IsQuiet sink.faults
    → (status ≡ job_status job) ⊎ (status ≡ Memory)

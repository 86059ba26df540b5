-- Whether a line has a job: what it asks for, or why there is none.
use Rattle.std.specs.Prelude.{◌≡◌, ℕ, List, [], Result, Err}
use Rattle.report_text.specs.declared.status.Status.{Status}
use Rattle.report_text.specs.declared.status.Status.TheVariants.{Memory}
use Rattle.fast_cli.specs.declared.line.Line.{Line}
use Rattle.fast_jobs.specs.declared.job.Job.{Job}
use Rattle.fast_jobs.specs.Files.{files_of}
use Rattle.fast_jobs.specs.Job.{job_of}
use Rattle.fast_jobs.specs.Call.{Reading}
use Rattle.fast_jobs.specs.Reading.{AreRead, StopsIn}

-- the files of the line were read, and with their bytes it asks for this job, or has this refusal;
-- where the line names no file, the count of faults stands
pub record Asks (line : Line) (sets : ℕ) (files : Reading)
    (wanted : Result Job Status) : Type 0 where
  pub contents : List (List ℕ)
  pub read : AreRead files.told (files_of line) contents
  pub same : job_of line sets contents ≡ wanted
  pub unread : files_of line ≡ [] → files.faults.after ≡ files.faults.before

-- why there is no job: a file could not be read, what was read is refused, or memory was wanted,
-- which is free
pub data Closes (line : Line) (sets : ℕ) (files : Reading) (status : Status) : Type 0 where
  Stopped : StopsIn files (files_of line) status → Closes line sets files status
  Refused : Asks line sets files (Err status) → Closes line sets files status
  Starved : status ≡ Memory → Closes line sets files status

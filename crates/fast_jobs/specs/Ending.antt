-- The answer to a job, and what is written then.
use Rattle.std.specs.Prelude.{◌≡◌, true, false, List, ℕ, ◌++◌}
use Rattle.fsim_ports.specs.Count.{HasRisen}
use Rattle.fsim_ports.specs.Sink.{grown, Breaks}
use Rattle.report_text.specs.declared.status.Role.TheVariants.{Packets}
use Rattle.report_text.specs.declared.status.Status.{Status}
use Rattle.report_text.specs.declared.status.Status.TheVariants.{Running, WriteFault, Memory}
use Rattle.report_text.specs.declared.status.Status.TheVariants.{ReadFault}
use Rattle.report_text.specs.FaultText.{fault_text}
use Rattle.fast_jobs.specs.declared.job.Job.{Job}
use Rattle.fast_jobs.specs.Job.{is_talk}
use Rattle.fast_jobs.specs.Outcome.{outcome, may_go_on}
use Rattle.fast_jobs.specs.Call.{Hearing, IsUnheard, Writing, WroteTo}

-- a job came to its outcome, and its text was written whole
pub record IsReported (job : Job) (heard : List ℕ) (sink : Writing)
    (status : Status) : Type 0 where
  pub answer : status ≡ (outcome job heard).status
  pub going : status ≡ Running → may_go_on job ≡ true
  pub written : sink.after ≡ grown sink.before (outcome job heard).text

-- its text broke off, where the sink's count of faults rose
pub record IsBroken (job : Job) (heard : List ℕ) (sink : Writing) (status : Status) : Type 0 where
  pub answer : status ≡ WriteFault
  pub written : Breaks (outcome job heard).text sink.faults.before sink.faults.after sink.before
      sink.after

-- memory was wanted, which is free, and the line that says so was written
pub record IsStarved (sink : Writing) (status : Status) : Type 0 where
  pub answer : status ≡ Memory
  pub written : WroteTo sink (fault_text Memory)

-- standard input couldn't be read on in a talk: what was read is answered, and the line that says so
-- comes after that
pub record IsCutOff (job : Job) (heard : List ℕ) (sink : Writing) (status : Status) : Type 0 where
  pub answer : status ≡ ReadFault Packets
  pub talk : is_talk job ≡ true
  pub written : WroteTo sink ((outcome job heard).text ++ fault_text (ReadFault Packets))

-- the answer to a job with what was read of standard input; where memory is wanted, none of its
-- text is written
pub data Ends (job : Job) (heard : List ℕ) (sink : Writing) (status : Status) : Type 0 where
  Reported : IsReported job heard sink status → Ends job heard sink status
  Broken : IsBroken job heard sink status → Ends job heard sink status
  Unopened : IsStarved sink status → Ends job heard sink status
  CutOff : IsCutOff job heard sink status → Ends job heard sink status

-- the answer to a job, with what was read of standard input meanwhile: nothing, unless it is a talk
pub record HasTalked (job : Job) (hearing : Hearing) (sink : Writing) (status : Status) : Type 0 where
  pub heard : List ℕ
  pub hears : hearing.after ≡ grown hearing.before heard
  pub ends : Ends job heard sink status
  pub rose : status ≡ ReadFault Packets → HasRisen hearing.faults.before hearing.faults.after
  pub unheard : is_talk job ≡ false → IsUnheard hearing

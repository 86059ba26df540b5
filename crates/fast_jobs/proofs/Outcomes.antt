-- From the end of a job to the answer, and from the cause that there is none.
use Rattle.std.proofs.Common.{◌≡◌, ◌≢◌, ◌⊎◌, inl, inr, ℕ, true, false, List, [], Option, Some, None, Result, Ok, Err, IfOk, IfErr, ap, sym, refl, ◌∙◌, subst}
use Rattle.std.proofs.lemmas.List.{append-nil}
use Rattle.fsim_ports.specs.Sink.{grown, Breaks}
use Rattle.mono_model.specs.declared.final_state.End.{End}
use Rattle.mono_model.specs.declared.final_state.End.TheVariants as end
use Rattle.report_text.specs.declared.status.Status.{Status}
use Rattle.report_text.specs.declared.status.Status.TheVariants.{Pass, Fail, Limit, OutputFull, Running, Shown, Usage, Image, Machine, Missing, ReadFault, WriteFault, Memory, TooLong, BadPlan, BadScript, Sets, TooMuchText}
use Rattle.fast_cli.specs.declared.line.Line.{Line}
use Rattle.fast_jobs.specs.declared.job.Job.{Job}
use Rattle.fast_jobs.specs.Call.{Hearing, IsUnheard, Reading, Writing}
use Rattle.report_text.specs.declared.status.Role.{Role}
use Rattle.report_text.specs.declared.status.Role.TheVariants.{Packets}
use Rattle.fast_jobs.specs.declared.job.Job.TheVariants.{Gdb, Single, Sweep}
use Rattle.fast_jobs.specs.declared.job.SingleJob.TheVariants.{Back, Count, Func, Inorder, Profile, Run, Sched, Stack, Trace}
use Rattle.fast_jobs.specs.Ending.{Broken, CutOff, Ends, HasTalked, Reported, Unopened}
use Rattle.fast_jobs.specs.Files.{files_of}
use Rattle.fast_jobs.specs.Gives.{Gives}
use Rattle.fast_jobs.specs.Job.{is_talk, job_of}
use Rattle.fast_jobs.specs.Opening.{Asks, Closes, Refused, Starved, Stopped}
use Rattle.fast_jobs.specs.Outcome.{MayEnd, job_status, job_text, status_for}
use Rattle.fast_jobs.specs.Reading.{AreRead, StopsIn}

-- an answer is want of memory, or it is another
pub memory_or : (status : Status) → (status ≡ Memory) ⊎ (status ≢ Memory)
memory_or Memory = inl refl
memory_or Pass = inr (λ is. cc)
memory_or (Fail code) = inr (λ is. cc)
memory_or Limit = inr (λ is. cc)
memory_or OutputFull = inr (λ is. cc)
memory_or Running = inr (λ is. cc)
memory_or Shown = inr (λ is. cc)
memory_or Usage = inr (λ is. cc)
memory_or (Image fault) = inr (λ is. cc)
memory_or (Machine fault) = inr (λ is. cc)
memory_or (Missing role) = inr (λ is. cc)
memory_or (ReadFault role) = inr (λ is. cc)
memory_or WriteFault = inr (λ is. cc)
memory_or (TooLong role limit) = inr (λ is. cc)
memory_or (BadPlan place) = inr (λ is. cc)
memory_or (BadScript place) = inr (λ is. cc)
memory_or (Sets machine) = inr (λ is. cc)
memory_or (TooMuchText pages) = inr (λ is. cc)

-- the answer to a run that goes on is of no other end
pub running-end : (e : End) → status_for e ≡ Running → e ≡ end.Running
running-end end.Pass is = cc
running-end (end.Fail code) is = cc
running-end end.Limit is = cc
running-end end.OutputFull is = cc
running-end end.Running is = refl

-- a job that was reported whole
pub ends-reported : (job : Job) (text : List ℕ) (sink : Writing) (status : Status) → status ≡ job_status job → MayEnd job → job_text job [] ≡ text →
    sink.after ≡ grown sink.before text → Ends job [] sink status
ends-reported job text sink status answer may same written = Reported (record {
  answer = answer;
  going = λ running. may (sym answer ∙ running);
  written = written ∙ ap (grown sink.before) (sym same);
})

-- one whose report broke off
pub ends-broken : (job : Job) (text : List ℕ) (sink : Writing) → job_text job [] ≡ text → Breaks text sink.faults.before sink.faults.after sink.before sink.after → Ends job [] sink WriteFault
ends-broken job text sink same broken = Broken (record {
  answer = refl;
  written = subst (λ (written : List ℕ). Breaks written sink.faults.before sink.faults.after sink.before sink.after) (sym same) broken;
})

-- reading the files stopped, if it wasn't for want of memory
pub closes-stopped : (line : Line) (sets : ℕ) (files : Reading) (status : Status) → (status ≢ Memory → StopsIn files (files_of line) status) → Closes line sets files status
closes-stopped line sets files status stop = elim (memory_or status) [
  | inl memory ↦ Starved memory
  | inr other ↦ Stopped (stop other)
]

-- what was read is refused, if it isn't for want of memory
pub closes-refused : (line : Line) (sets : ℕ) (files : Reading) (contents : List (List ℕ)) (status : Status) → AreRead files.told (files_of line) contents →
    (files_of line ≡ [] → files.faults.after ≡ files.faults.before) → (status ≢ Memory → job_of line sets contents ≡ Err status) → Closes line sets files status
closes-refused line sets files contents status read unread refused = elim (memory_or status) [
  | inl memory ↦ Starved memory
  | inr other ↦ Refused (record { contents = contents; read = read; same = refused other; unread = unread })
]

-- a job that is made of what was read is asked for
pub job-asks : (line : Line) (sets : ℕ) (files : Reading) (contents : List (List ℕ)) (result : Result Job Status) → AreRead files.told (files_of line) contents →
    (files_of line ≡ [] → files.faults.after ≡ files.faults.before) → Gives (job_of line sets contents) result → IfOk result (λ job. Asks line sets files (Ok job))
job-asks line sets files contents (Ok job) read unread gives = record { contents = contents; read = read; same = gives; unread = unread }
job-asks line sets files contents (Err status) read unread gives = tt

-- or there is none
pub job-closes : (line : Line) (sets : ℕ) (files : Reading) (contents : List (List ℕ)) (result : Result Job Status) → AreRead files.told (files_of line) contents →
    (files_of line ≡ [] → files.faults.after ≡ files.faults.before) → Gives (job_of line sets contents) result → IfErr result (Closes line sets files)
job-closes line sets files contents (Ok job) read unread gives = tt
job-closes line sets files contents (Err status) read unread gives = closes-refused line sets files contents status read unread gives

-- a job that is no talk reads nothing of standard input, which can't cut it off
pub grown-nothing : (before : Option (List ℕ)) → before ≡ grown before []
grown-nothing None = refl
grown-nothing (Some bytes) = ap Some (sym (append-nil bytes))

no_end-fault : (e : End) (role : Role) → status_for e ≡ ReadFault role → ⊥
no_end-fault end.Pass role is = cc
no_end-fault (end.Fail code) role is = cc
no_end-fault end.Limit role is = cc
no_end-fault end.OutputFull role is = cc
no_end-fault end.Running role is = cc

no_job-fault : (job : Job) (role : Role) → job_status job ≡ ReadFault role → ⊥
no_job-fault (Single (Func s)) role is = no_end-fault _ role is
no_job-fault (Single (Run s)) role is = no_end-fault _ role is
no_job-fault (Single (Sched s plan)) role is = no_end-fault _ role is
no_job-fault (Single (Inorder s plan)) role is = no_end-fault _ role is
no_job-fault (Single (Back s history script)) role is = cc
no_job-fault (Single (Trace s machine from to)) role is = cc
no_job-fault (Single (Stack s machine)) role is = no_end-fault _ role is
no_job-fault (Single (Profile s machine)) role is = cc
no_job-fault (Single (Count s)) role is = cc
no_job-fault (Sweep files) role is = cc
no_job-fault (Gdb s history) role is = cc

no_write-fault : (role : Role) → WriteFault ≡ ReadFault role → ⊥
no_write-fault role is = cc

no_memory-fault : (role : Role) → Memory ≡ ReadFault role → ⊥
no_memory-fault role is = cc

never-talk : true ≡ false → ⊥
never-talk is = cc

not_cut : (job : Job) (sink : Writing) (status : Status) → is_talk job ≡ false → Ends job [] sink status → status ≡ ReadFault Packets → ⊥
not_cut job sink status silent (Reported reported) is = no_job-fault job Packets (sym reported.answer ∙ is)
not_cut job sink status silent (Broken broken) is = no_write-fault Packets (sym broken.answer ∙ is)
not_cut job sink status silent (Unopened starved) is = no_memory-fault Packets (sym starved.answer ∙ is)
not_cut job sink status silent (CutOff cut) is = never-talk (sym cut.talk ∙ silent)

pub silent-talked : (job : Job) (hearing : Hearing) (sink : Writing) (status : Status) → is_talk job ≡ false → IsUnheard hearing → Ends job [] sink status → HasTalked job hearing sink status
silent-talked job hearing sink status silent unheard ends = record {
  heard = [];
  hears = unheard.same ∙ grown-nothing hearing.before;
  ends = ends;
  rose = λ is. absurd (not_cut job sink status silent ends is);
  unheard = λ is. unheard;
}

-- What comes of a job: its answer, and the text that is written.
use Rattle.std.specs.Prelude.{◌≡◌, ℕ, Bool, true, false, List, map}
use Rattle.mono_model.specs.declared.setup.Setup.{Setup}
use Rattle.mono_model.specs.declared.final_state.End.{End}
use Rattle.mono_model.specs.declared.final_state.End.TheVariants as end
use Rattle.mono_model.specs.Alone.{Alone, alone}
use Rattle.mono_model.specs.Cycle.{mono}
use Rattle.mono_model.specs.Report.{text}
use Rattle.mono_model.specs.Split.{reach}
use Rattle.inorder_machine.specs.Cycle.{inorder, inorder_text}
use Rattle.insight_model.specs.declared.pipeline.Pipeline.{Pipeline}
use Rattle.insight_model.specs.declared.pipeline.Pipeline.TheVariants as pipeline
use Rattle.insight_model.specs.Count.{count_text}
use Rattle.insight_model.specs.Profile.{profile_text}
use Rattle.insight_model.specs.Stack.{stack_text}
use Rattle.insight_model.specs.Trace.{trace_text}
use Rattle.split_core.specs.declared.event.Event.{Event}
use Rattle.split_core.specs.Events.{event_in}
use Rattle.report_text.specs.declared.status.Status.{Status}
use Rattle.report_text.specs.declared.status.Status.TheVariants.{Pass, Fail, Limit, OutputFull, Running, Shown}
use Rattle.report_text.specs.FuncText.{func_text}
use Rattle.back_debug.specs.Session.{session_text, start_position}
use Rattle.gdb_model.specs.Talk.{session_text as talk_text}
use Rattle.fast_jobs.specs.declared.job.Job.{Job}
use Rattle.fast_jobs.specs.declared.job.Job.TheVariants.{Gdb, Single, Sweep}
use Rattle.fast_jobs.specs.declared.job.SingleJob.TheVariants.{Back, Count, Func, Inorder, Run, Sched, Profile, Stack, Trace}
use Rattle.fast_jobs.specs.SweepFiles.{sweep_lines}

-- the answer to an end
abbrev pub status_for : End → Status
status_for end.Pass = Pass
status_for (end.Fail code) = Fail code
status_for end.Limit = Limit
status_for end.OutputFull = OutputFull
status_for end.Running = Running

-- the sequential run to its end
unfoldable pub whole_run : Setup → Alone
whole_run s = alone s s.cycles

-- the cycle that a plan leads to: at whose start the machine stands after its events and the way to
-- the next boundary
unfoldable pub planned_cycle : Setup → List Event → ℕ
planned_cycle s plan = reach s (map event_in plan)

-- how the run on a machine ends
abbrev pub run_end : Pipeline → Setup → End
run_end pipeline.Window s = (mono s s.cycles).end
run_end pipeline.Inorder s = (inorder s s.cycles).machine.end

-- The answer to a job: how its run ended. After as many cycles as its limit each run on a machine has
-- ended, and it stands still from its end on; the cycle that `sched`'s plan leads to may come before.
-- A debugger and a sweep tell the ends of their runs in their texts; a trace, a profile and a count tell none.
abbrev pub job_status : Job → Status
job_status (Single (Func s)) = status_for (whole_run s).end
job_status (Single (Run s)) = status_for (mono s s.cycles).end
job_status (Single (Sched s plan)) = status_for (mono s (planned_cycle s plan)).end
job_status (Single (Inorder s plan)) = status_for (inorder s s.cycles).machine.end
job_status (Single (Back s history script)) = Shown
job_status (Single (Trace s machine from to)) = Shown
job_status (Single (Stack s machine)) = status_for (run_end machine s)
job_status (Single (Profile s machine)) = Shown
job_status (Single (Count s)) = Shown
job_status (Sweep files) = Shown
job_status (Gdb s history) = Shown

-- what is written of it: the output of its run and the report, what the commands of a script show,
-- a trace, a stack, the rows of a profile or a count, the lines of a sweep, or what answers a debugger that wrote
-- these bytes
abbrev pub job_text : Job → List ℕ → List ℕ
job_text (Single (Func s)) heard = func_text s
job_text (Single (Run s)) heard = text s s.cycles
job_text (Single (Sched s plan)) heard = text s (planned_cycle s plan)
job_text (Single (Inorder s plan)) heard = inorder_text s s.cycles
job_text (Single (Back s history script)) heard = session_text history s script start_position
job_text (Single (Trace s machine from to)) heard = trace_text machine s s.cycles from to
job_text (Single (Stack s machine)) heard = stack_text machine s s.cycles
job_text (Single (Profile s machine)) heard = profile_text machine s s.cycles
job_text (Single (Count s)) heard = count_text s s.cycles
job_text (Sweep files) heard = sweep_lines files
job_text (Gdb s history) heard = talk_text history s heard

pub record Outcome : Type 0 where
  pub status : Status
  pub text : List ℕ

abbrev pub outcome : Job → List ℕ → Outcome
outcome job heard = record { status = job_status job; text = job_text job heard }

-- the plan of `sched`, and nothing else, may lead to a cycle at which the run goes on
abbrev pub may_go_on : Job → Bool
may_go_on (Single (Func s)) = false
may_go_on (Single (Run s)) = false
may_go_on (Single (Sched s plan)) = true
may_go_on (Single (Inorder s plan)) = false
may_go_on (Single (Back s history script)) = false
may_go_on (Single (Trace s machine from to)) = false
may_go_on (Single (Stack s machine)) = false
may_go_on (Single (Profile s machine)) = false
may_go_on (Single (Count s)) = false
may_go_on (Sweep files) = false
may_go_on (Gdb s history) = false

abbrev pub MayEnd : Job → Type 0
MayEnd job = job_status job ≡ Running → may_go_on job ≡ true

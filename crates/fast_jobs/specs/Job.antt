-- What a line and the bytes of its files ask for: a job, or the first refusal.
use Rattle.std.specs.Prelude.{◌≡◌, ◌≤◌, ◌+◌, ℕ, true, false, Bool, List, [], length, Option}
use Rattle.std.specs.Prelude.{option_map}
use Rattle.std.specs.Prelude.{Some, None, Result, Ok, ◌==◌, nat_lt, if◌then◌else◌}
use Rattle.mono_model.specs.declared.setup.Setup.{Setup}
use Rattle.mono_model.specs.Setup.{input_limit, is_setup, ram_range}
use Rattle.machine_file.specs.File.{params_of}
use Rattle.report_text.specs.declared.status.Status.{Status}
use Rattle.report_text.specs.declared.status.Status.TheVariants.{TooMuchText}
use Rattle.fast_cli.specs.declared.line.Line.{Line}
use Rattle.fast_cli.specs.declared.line.Line.TheVariants as line
use Rattle.fast_cli.specs.declared.line.Options.{Options}
use Rattle.fast_cli.specs.declared.line.Pipeline.{Pipeline}
use Rattle.fast_cli.specs.declared.line.Pipeline.TheVariants as pipeline
use Rattle.fast_cli.specs.Ranges.{HasRanges}
use Rattle.fast_cli.specs.Values.{default_options}
use Rattle.gen_image.specs.Soak.{soak_image}
use Rattle.gen_image.specs.Machine.{soak_machine}
use Rattle.inorder_machine.specs.Setup.{IsInorder}
use Rattle.insight_model.specs.declared.pipeline.Pipeline.{Pipeline as WatchedMachine}
use Rattle.insight_model.specs.declared.pipeline.Pipeline.TheVariants as watched
use Rattle.text_rows.specs.Pages.{text_pages}
use Rattle.fast_jobs.specs.declared.job.Job.{Job}
use Rattle.fast_jobs.specs.declared.job.Job.TheVariants.{Gdb, Single, Sweep}
use Rattle.fast_jobs.specs.declared.job.SingleJob.{SingleJob}
use Rattle.fast_jobs.specs.declared.job.SingleJob.TheVariants.{Back, Count, Func, Inorder, Profile, Run, Sched, Stack, Trace}
use Rattle.fast_jobs.specs.declared.job.PlannedRun.{PlannedRun}
use Rattle.fast_jobs.specs.declared.sweep_files.SweepFiles.{SweepFiles}
use Rattle.fast_jobs.specs.Gives.{◌>>=◌, unless}
pub use Rattle.fast_jobs.specs.Stages.{setup_for, inorder_setup, bytes_at}
unfoldable pub use Rattle.fast_jobs.specs.Stages.{image_in, timed_image, placed_image}
unfoldable pub use Rattle.fast_jobs.specs.Stages.{plan_in, script_in}
unfoldable pub use Rattle.fast_jobs.specs.Stages.{inorder_params}
use Rattle.fast_jobs.specs.SweepFiles.{swept}

-- the bytes of the machine file, which stands behind the image, if the line names one
abbrev pub machine_at : Option (List ℕ) → List (List ℕ) → Option (List ℕ)
machine_at machine contents = option_map (λ name. bytes_at contents 1) machine

-- the place of the file behind it
abbrev pub behind_machine : Option (List ℕ) → ℕ
behind_machine None = 1
behind_machine (Some name) = 2

-- the setup of a run without a pipeline
unfoldable pub placed_setup : Option (List ℕ) → Options → List (List ℕ) → Result Setup Status
placed_setup machine options contents = do
  loaded ← placed_image (machine_at machine contents) (bytes_at contents 0)
  Ok (setup_for loaded.params options loaded.image (bytes_at contents (behind_machine machine)))

-- the run to its end
unfoldable pub func_job : Option (List ℕ) → Options → List (List ℕ) → Result SingleJob Status
func_job machine options contents = do
  s ← placed_setup machine options contents
  Ok (Func s)

-- the setup, if there are rows for the words of all pages that hold text
abbrev pub row_pages : Setup → ℕ
row_pages s = text_pages s.image (ram_range s.params)

unfoldable pub with_rows : Setup → Result Setup Status
with_rows s =
    unless (if nat_lt 1024 (row_pages s) then Some (TooMuchText (row_pages s)) else None) s

-- the same run, whose instructions are counted
unfoldable pub count_job : Option (List ℕ) → Options → List (List ℕ) → Result SingleJob Status
count_job machine options contents = do
  s ← placed_setup machine options contents
  counted ← with_rows s
  Ok (Count counted)

-- a talk with a debugger over that run
unfoldable pub gdb_job : ℕ → Option (List ℕ) → Options → List (List ℕ) → Result Job Status
gdb_job history machine options contents = do
  s ← placed_setup machine options contents
  Ok (Gdb s history)

-- the run on the machine of a machine file
unfoldable pub run_job : Options → List (List ℕ) → Result SingleJob Status
run_job options contents = do
  loaded ← timed_image (bytes_at contents 1) (bytes_at contents 0)
  Ok (Run (setup_for loaded.params options loaded.image (bytes_at contents 2)))

-- the run on the in-order machine, with the empty plan
unfoldable pub inorder_run_job : Options → List (List ℕ) → Result SingleJob Status
inorder_run_job options contents = do
  loaded ← timed_image (bytes_at contents 1) (bytes_at contents 0)
  Ok (Inorder (inorder_setup (setup_for loaded.params options loaded.image
      (bytes_at contents 2))) [])

-- the run on a pipeline
abbrev pub pipeline_job : Pipeline → Options → List (List ℕ) → Result SingleJob Status
pipeline_job pipeline.Window options contents = run_job options contents
pipeline_job pipeline.Inorder options contents = inorder_run_job options contents

-- the machine that the words name, and a setup for it
abbrev pub machine_of : Pipeline → WatchedMachine
machine_of pipeline.Window = watched.Window
machine_of pipeline.Inorder = watched.Inorder

abbrev pub setup_on : Pipeline → Setup → Setup
setup_on pipeline.Window s = s
setup_on pipeline.Inorder s = inorder_setup s

-- the run on a machine that is watched
unfoldable pub watched_setup : Pipeline → Options → List (List ℕ) → Result Setup Status
watched_setup machine options contents = do
  loaded ← timed_image (bytes_at contents 1) (bytes_at contents 0)
  Ok (setup_on machine (setup_for loaded.params options loaded.image (bytes_at contents 2)))

unfoldable pub trace_job : Pipeline → ℕ → ℕ → Options → List (List ℕ) → Result SingleJob Status
trace_job machine from to options contents = do
  s ← watched_setup machine options contents
  Ok (Trace s (machine_of machine) from to)

unfoldable pub stack_job : Pipeline → Options → List (List ℕ) → Result SingleJob Status
stack_job machine options contents = do
  s ← watched_setup machine options contents
  Ok (Stack s (machine_of machine))

unfoldable pub profile_job : Pipeline → Options → List (List ℕ) → Result SingleJob Status
profile_job machine options contents = do
  s ← watched_setup machine options contents
  profiled ← with_rows s
  Ok (Profile profiled (machine_of machine))

-- the run on a machine that a plan is for: the plan is tested behind the image
unfoldable pub planned_run : Options → List (List ℕ) → Result PlannedRun Status
planned_run options contents = do
  loaded ← timed_image (bytes_at contents 1) (bytes_at contents 0)
  events ← plan_in (bytes_at contents 2)
  Ok (record {
    setup = setup_for loaded.params options loaded.image (bytes_at contents 3);
    plan = events;
  })

unfoldable pub sched_job : Options → List (List ℕ) → Result SingleJob Status
sched_job options contents = do
  planned ← planned_run options contents
  Ok (Sched planned.setup planned.plan)

-- the same on the in-order machine
unfoldable pub inorder_job : Options → List (List ℕ) → Result SingleJob Status
inorder_job options contents = do
  planned ← planned_run options contents
  Ok (Inorder (inorder_setup planned.setup) planned.plan)

-- a script over the run without a pipeline is tested behind the image
unfoldable pub back_job : ℕ → Option (List ℕ) → Options → List (List ℕ) → Result SingleJob Status
back_job history machine options contents = do
  loaded ← placed_image (machine_at machine contents) (bytes_at contents 0)
  commands ← script_in (bytes_at contents (behind_machine machine))
  Ok (Back (setup_for loaded.params options loaded.image
      (bytes_at contents (behind_machine machine + 1))) history commands)

-- the soak program of a seed, with 16,384 blocks, on its machine
unfoldable pub soak_setup : ℕ → Setup
soak_setup seed =
    setup_for (params_of soak_machine) default_options (soak_image seed 16384) []

-- the job that is one run
abbrev pub single_job : Result SingleJob Status → Result Job Status
single_job wanted = do
  job ← wanted
  Ok (Single job)

-- the job of a line with the bytes of its files and this many sets of devices, or the first refusal
abbrev pub job_of : Line → ℕ → List (List ℕ) → Result Job Status
job_of (line.Func image machine options) sets contents =
    single_job (func_job machine options contents)
job_of (line.Run image machine pipeline threads options) sets contents =
    single_job (pipeline_job pipeline options contents)
job_of (line.Sched image machine plan options) sets contents = single_job (sched_job options contents)
job_of (line.Soak seed) sets contents = single_job (Ok (Run (soak_setup seed)))
job_of (line.Back image script machine history options) sets contents =
    single_job (back_job history machine options contents)
job_of (line.Inorder image machine (Some plan) options) sets contents =
    single_job (inorder_job options contents)
job_of (line.Inorder image machine None options) sets contents =
    single_job (inorder_run_job options contents)
job_of (line.Sweep image machines pipeline options) sets contents = do
  files ← swept machines pipeline options sets contents
  Ok (Sweep files)
job_of (line.Trace image machine from to pipeline options) sets contents =
    single_job (trace_job pipeline from to options contents)
job_of (line.Stack image machine pipeline options) sets contents =
    single_job (stack_job pipeline options contents)
job_of (line.Profile image machine pipeline options) sets contents =
    single_job (profile_job pipeline options contents)
job_of (line.Count image machine options) sets contents =
    single_job (count_job machine options contents)
job_of (line.Gdb image machine history options) sets contents =
    gdb_job history machine options contents

-- the line is played on one thread, and the call that plays it returns
abbrev pub is_still : Line → Bool
is_still (line.Func image machine options) = true
is_still (line.Run image machine pipeline.Window threads options) = threads == 1
is_still (line.Run image machine pipeline.Inorder threads options) = true
is_still (line.Sched image machine plan options) = true
is_still (line.Soak seed) = false
is_still (line.Back image script machine history options) = true
is_still (line.Inorder image machine plan options) = true
is_still (line.Sweep image machines pipeline options) = false
is_still (line.Trace image machine from to pipeline options) = true
is_still (line.Stack image machine pipeline options) = true
is_still (line.Profile image machine pipeline options) = true
is_still (line.Count image machine options) = true
is_still (line.Gdb image machine history options) = true

-- a sweep can open each of its machines: its limits are in their ranges, and the console can hold
-- its input
pub record CanSweep (files : SweepFiles) : Type 0 where
  pub limits : HasRanges files.limits
  pub input : length files.input ≤ input_limit

-- the machine can run the setup
abbrev pub CanWatch : WatchedMachine → Setup → Type 0
CanWatch watched.Window s = is_setup s ≡ true
CanWatch watched.Inorder s = IsInorder s

-- the run can be begun: its setup is sound
abbrev pub CanStart : SingleJob → Type 0
CanStart (Func s) = is_setup s ≡ true
CanStart (Run s) = is_setup s ≡ true
CanStart (Sched s plan) = is_setup s ≡ true
CanStart (Inorder s plan) = IsInorder s
CanStart (Back s history script) = is_setup s ≡ true
CanStart (Trace s machine from to) = CanWatch machine s
CanStart (Stack s machine) = CanWatch machine s
CanStart (Profile s machine) = CanWatch machine s
CanStart (Count s) = is_setup s ≡ true

-- the job can be begun
abbrev pub CanBegin : Job → Type 0
CanBegin (Single job) = CanStart job
CanBegin (Sweep files) = CanSweep files
CanBegin (Gdb s history) = is_setup s ≡ true

-- how many sets of devices a job takes
abbrev pub sets_for : Job → ℕ
sets_for (Single job) = 1
sets_for (Sweep files) = length files.machines
sets_for (Gdb s history) = 1

-- it is a talk, which is answered by what is read of standard input
abbrev pub is_talk : Job → Bool
is_talk (Single job) = false
is_talk (Sweep files) = false
is_talk (Gdb s history) = true

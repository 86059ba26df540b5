-- What a sweep has read, and what it tells of each of its machines.
use Rattle.std.specs.Prelude.{◌≡◌, ℕ, ◌+◌, ◌≤◌, nat_lt, if◌then◌else◌, true, List, [], ◌∷◌, ◌++◌}
use Rattle.std.specs.Prelude.{length, drop, map, Option, Some, None, Result, Ok, Err}
use Rattle.device_bus.specs.declared.kind.DeviceKind.{DeviceKind}
use Rattle.device_bus.specs.Bus.{sets_order}
use Rattle.mono_model.specs.declared.setup.Setup.{Setup}
use Rattle.mono_model.specs.declared.final_state.Final.{Final}
use Rattle.mono_model.specs.Setup.{is_setup}
use Rattle.mono_model.specs.Report.{joined}
use Rattle.report_text.specs.declared.status.Status.{Status}
use Rattle.report_text.specs.declared.status.Status.TheVariants.{Sets}
use Rattle.report_text.specs.SweepText.{is_sweep_refusal, sweep_text, sweep_refusal_text}
use Rattle.inorder_machine.specs.Setup.{IsInorder}
use Rattle.sweep_runs.specs.Sweep.{inorder_last_of, last_of}
use Rattle.fast_cli.specs.declared.line.Options.{Options}
use Rattle.fast_cli.specs.declared.line.Pipeline.{Pipeline}
use Rattle.fast_cli.specs.declared.line.Pipeline.TheVariants.{Inorder, Window}
use Rattle.fast_jobs.specs.declared.sweep_files.NamedMachine.{NamedMachine}
use Rattle.fast_jobs.specs.declared.sweep_files.SweepFiles.{SweepFiles}
use Rattle.fast_jobs.specs.Gives.{◌>>=◌}
use Rattle.fast_jobs.specs.Stages.{bytes_at, inorder_setup, setup_for, timed_image}

-- each name with the bytes of its machine file
abbrev pub named_machines : List (List ℕ) → List (List ℕ) → List NamedMachine
named_machines [] contents = []
named_machines (name ∷ names) contents =
    record { name = name; bytes = bytes_at contents 0 } ∷ named_machines names (drop 1 contents)

-- the limits that options give, without the name of a file
abbrev pub limits_of : Options → Options
limits_of options = record options { input = None }

-- the files are the image, each machine file, and what the console reads
abbrev pub sweep_files : List (List ℕ) → Pipeline → Options → List (List ℕ) → SweepFiles
sweep_files names pipeline options contents = record {
  image = bytes_at contents 0;
  machines = named_machines names (drop 1 contents);
  input = bytes_at contents (length names + 1);
  pipeline = pipeline;
  limits = limits_of options;
}

-- each machine needs devices of its own
unfoldable pub swept : List (List ℕ) → Pipeline → Options → ℕ → List (List ℕ) → Result SweepFiles Status
swept names pipeline options sets contents =
    if nat_lt sets (length names)
    then Err (Sets (length names))
    else Ok (sweep_files names pipeline options contents)

-- the setup on a pipeline
abbrev pub setup_on : Pipeline → Setup → Setup
setup_on Window setup = setup
setup_on Inorder setup = inorder_setup setup

-- a pipeline can be begun with the setup
abbrev pub IsSoundOn : Pipeline → Setup → Type 0
IsSoundOn Window setup = is_setup setup ≡ true
IsSoundOn Inorder setup = IsInorder setup

-- what is reported of the run on a pipeline
abbrev pub last_on : Pipeline → Setup → Final
last_on Window setup = last_of setup
last_on Inorder setup = inorder_last_of setup

-- the setup of the run on a machine, or what refuses it
unfoldable pub machine_setup : SweepFiles → List ℕ → Result Setup Status
machine_setup files machine = do
  loaded ← timed_image machine files.image
  Ok (setup_on files.pipeline (setup_for loaded.params files.limits loaded.image files.input))

-- what is reported of the run, where there is one
abbrev pub run_told : Pipeline → Result Setup Status → Result Final Status
run_told pipeline (Ok setup) = Ok (last_on pipeline setup)
run_told pipeline (Err status) = Err status

abbrev pub machine_told : SweepFiles → NamedMachine → Result Final Status
machine_told files machine = run_told files.pipeline (machine_setup files machine.bytes)

-- the line of a machine
abbrev pub told_line : NamedMachine → Result Final Status → List ℕ
told_line machine (Ok last) = sweep_text machine.name last
told_line machine (Err status) = sweep_refusal_text machine.name status

-- What a sweep has of machines, in their order: of each its refusal, or, where it has none, the
-- next of the reports.
abbrev pub AreTold : SweepFiles → List NamedMachine → List (Option Status) → List Final → Type 0
AreTold files [] [] [] = Unit {0}
AreTold files [] [] (last ∷ finals) = ⊥
AreTold files [] (refusal ∷ refusals) finals = ⊥
AreTold files (machine ∷ machines) [] finals = ⊥
AreTold files (machine ∷ machines) (Some status ∷ refusals) finals =
    (machine_told files machine ≡ Err status) × AreTold files machines refusals finals
AreTold files (machine ∷ machines) (None ∷ refusals) [] = ⊥
AreTold files (machine ∷ machines) (None ∷ refusals) (last ∷ finals) =
    (machine_told files machine ≡ Ok last) × AreTold files machines refusals finals

-- the line of the first machine, by its refusal and by the reports that are left
abbrev pub next_line : NamedMachine → Option Status → List Final → List ℕ
next_line machine (Some status) finals = told_line machine (Err status)
next_line machine None [] = []
next_line machine None (last ∷ finals) = told_line machine (Ok last)

-- the reports that are left behind it
abbrev pub finals_behind : Option Status → List Final → List Final
finals_behind (Some status) finals = finals
finals_behind None [] = []
finals_behind None (last ∷ finals) = finals

-- the lines of machines of which that much is told
abbrev pub told_lines : List NamedMachine → List (Option Status) → List Final → List ℕ
told_lines [] refusals finals = []
told_lines (machine ∷ machines) [] finals = []
told_lines (machine ∷ machines) (refusal ∷ refusals) finals =
    next_line machine refusal finals ++ told_lines machines refusals (finals_behind refusal finals)

-- the machine is refused by an answer that has a line in a sweep, if it is refused
abbrev pub HasLine : Option Status → Type 0
HasLine None = Unit {0}
HasLine (Some status) = is_sweep_refusal status ≡ true

-- at least so many sets of devices, one behind the other
pub record HasSets (least : ℕ) (kinds : List DeviceKind) : Type 0 where
  pub sets : ℕ
  pub enough : least ≤ sets
  pub order : kinds ≡ sets_order sets

-- the lines of a sweep, in the order of its machines
unfoldable pub sweep_lines : SweepFiles → List ℕ
sweep_lines files =
    joined (map (λ machine. told_line machine (machine_told files machine)) files.machines)

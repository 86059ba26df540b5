-- What the bytes of files give, or what refuses them, and the setup that they make.
use Rattle.std.specs.Prelude.{ℕ, List, [], slice_index_or, Option, Some, None, option_map}
use Rattle.std.specs.Prelude.{Result, Ok}
use Rattle.fsim_base.specs.declared.access.RamRange.{RamRange}
use Rattle.elf_image.specs.declared.image.Image.{Image as LoadedImage}
use Rattle.elf_image.specs.Image.{image_fault, image_of}
use Rattle.mono_model.specs.declared.params.Params.{Params}
use Rattle.mono_model.specs.declared.setup.Setup.{Setup}
use Rattle.mono_model.specs.Plain.{plain_params}
use Rattle.mono_model.specs.Setup.{ram_range}
use Rattle.machine_file.specs.File.{machine_fault, params_of}
use Rattle.split_core.specs.declared.event.Event.{Event}
use Rattle.back_debug.specs.declared.script.Command.{Command}
use Rattle.back_debug.specs.Script.{commands_of, first_bad_line}
use Rattle.report_text.specs.declared.status.Status.{Status}
use Rattle.report_text.specs.declared.status.Status.TheVariants.{Image, Machine, BadPlan}
use Rattle.report_text.specs.declared.status.Status.TheVariants.{BadScript}
use Rattle.fast_cli.specs.declared.line.Options.{Options}
use Rattle.fast_jobs.specs.declared.timed_image.Loaded.{Loaded}
use Rattle.fast_jobs.specs.Gives.{◌>>=◌, unless}
use Rattle.fast_jobs.specs.Plan.{plan_events, first_bad}

-- the parameters that a machine file gives
unfoldable pub machine_in : List ℕ → Result Params Status
machine_in bytes = unless (option_map Machine (machine_fault bytes)) (params_of bytes)

-- the image of a file for this RAM
unfoldable pub image_in : RamRange → List ℕ → Result LoadedImage Status
image_in ram bytes = unless (option_map Image (image_fault bytes ram)) (image_of bytes)

-- a machine file and an image for its machine: the machine file is tested before the image, since
-- it has the range of RAM
unfoldable pub timed_image : List ℕ → List ℕ → Result Loaded Status
timed_image machine bytes = do
  params ← machine_in machine
  image ← image_in (ram_range params) bytes
  Ok (record { params = params; image = image })

-- a run without a pipeline has the RAM of a machine, and nothing else of it
unfoldable pub placed_params : Params → Params
placed_params params = record plain_params {
  ram_base = params.ram_base;
  ram_size = params.ram_size;
}

-- an image without a pipeline: for the plain machine, or for the RAM of a machine file, if there is
-- one
unfoldable pub placed_image : Option (List ℕ) → List ℕ → Result Loaded Status
placed_image None bytes = do
  image ← image_in (ram_range plain_params) bytes
  Ok (record { params = plain_params; image = image })
placed_image (Some machine) bytes = do
  loaded ← timed_image machine bytes
  Ok (record { params = placed_params loaded.params; image = loaded.image })

-- the events of a plan
unfoldable pub plan_in : List ℕ → Result (List Event) Status
plan_in bytes = unless (option_map BadPlan (first_bad bytes)) (plan_events bytes)

-- the commands of a debugger's script
unfoldable pub script_in : List ℕ → Result (List Command) Status
script_in bytes = unless (option_map BadScript (first_bad_line bytes)) (commands_of bytes)

-- the setup of an image: a machine, the limits that the options give, and what the console reads
abbrev pub setup_for : Params → Options → LoadedImage → List ℕ → Setup
setup_for params options image input = record {
  image = image;
  params = params;
  input = input;
  cycles = options.cycles;
  output = options.output;
  ring = options.ring;
}

-- The in-order machine has one instruction at most in each of its four stages behind Fetch, whatever
-- a machine file says of the window.
unfoldable pub inorder_params : Params → Params
inorder_params params = record params { core_window = 4 }

abbrev pub inorder_setup : Setup → Setup
inorder_setup s = record s { params = inorder_params s.params }

-- the bytes of the file at a place of the list; none where the line names no such file
abbrev pub bytes_at : List (List ℕ) → ℕ → List ℕ
bytes_at contents place = slice_index_or contents place []

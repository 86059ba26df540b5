-- The line of the words, or none: a command, and behind it names and options.
use Rattle.std.specs.Prelude.{List, [], ◌∷◌, Option, Some, None, IsSome, codes, find}
use Rattle.std.specs.Str.{bytes_eq}
use Rattle.fast_cli.specs.Words.{◌>>=◌, Form, Text, Values, values_in}
use Rattle.fast_cli.specs.Values.{given_number_at, last_cycle_at, name_at, name_if_given, names_at}
use Rattle.fast_cli.specs.Values.{number_at, options_at, pipeline_at}
use Rattle.fast_cli.specs.declared.line.Line.{Line}
use Rattle.fast_cli.specs.declared.line.Line.TheVariants.{Back, Count, Func, Gdb, Inorder, Profile}
use Rattle.fast_cli.specs.declared.line.Line.TheVariants.{Run, Sched, Soak, Stack, Sweep, Trace}

-- a command: what its words are, and the line that they make
pub record Command : Type 0 where
  pub form : Form
  pub read : Values → Option Line

abbrev pub line_by : Command → List Text → Option Line
line_by command words = do
  values ← values_in command.form words
  command.read values

-- the options of each command that runs an image
abbrev pub limits : List Text
limits = codes "cycles" ∷ codes "input" ∷ codes "output" ∷ []

-- `func IMAGE`
abbrev pub func_form : Form
func_form = record {
  word = codes "func";
  names = codes "IMAGE" ∷ [];
  optional = [];
  rest = None;
  options = codes "machine" ∷ limits;
  flags = codes "exit-code" ∷ [];
}

unfoldable pub func_at : Values → Option Line
func_at values = do
  image ← name_at (codes "IMAGE") values
  machine ← name_if_given (codes "machine") values
  options ← options_at values
  Some (Func image machine options)

abbrev pub func_command : Command
func_command = record { form = func_form; read = func_at }

-- `run IMAGE MACHINE`
abbrev pub run_form : Form
run_form = record {
  word = codes "run";
  names = codes "IMAGE" ∷ codes "MACHINE" ∷ [];
  optional = [];
  rest = None;
  options = codes "pipeline" ∷ codes "threads" ∷ codes "ring" ∷ limits;
  flags = codes "exit-code" ∷ [];
}

unfoldable pub run_at : Values → Option Line
run_at values = do
  image ← name_at (codes "IMAGE") values
  machine ← name_at (codes "MACHINE") values
  pipeline ← pipeline_at values
  threads ← number_at (codes "threads") 1 2 2 values
  options ← options_at values
  Some (Run image machine pipeline threads options)

abbrev pub run_command : Command
run_command = record { form = run_form; read = run_at }

-- `sched IMAGE MACHINE PLAN`
abbrev pub sched_form : Form
sched_form = record {
  word = codes "sched";
  names = codes "IMAGE" ∷ codes "MACHINE" ∷ codes "PLAN" ∷ [];
  optional = [];
  rest = None;
  options = codes "ring" ∷ limits;
  flags = [];
}

unfoldable pub sched_at : Values → Option Line
sched_at values = do
  image ← name_at (codes "IMAGE") values
  machine ← name_at (codes "MACHINE") values
  plan ← name_at (codes "PLAN") values
  options ← options_at values
  Some (Sched image machine plan options)

abbrev pub sched_command : Command
sched_command = record { form = sched_form; read = sched_at }

-- `soak SEED`, which has no option
abbrev pub soak_form : Form
soak_form = record {
  word = codes "soak";
  names = codes "SEED" ∷ [];
  optional = [];
  rest = None;
  options = [];
  flags = [];
}

unfoldable pub soak_at : Values → Option Line
soak_at values = do
  seed ← given_number_at (codes "SEED") 0 18446744073709551615 values
  Some (Soak seed)

abbrev pub soak_command : Command
soak_command = record { form = soak_form; read = soak_at }

-- `back IMAGE SCRIPT`
abbrev pub back_form : Form
back_form = record {
  word = codes "back";
  names = codes "IMAGE" ∷ codes "SCRIPT" ∷ [];
  optional = [];
  rest = None;
  options = codes "machine" ∷ codes "history" ∷ limits;
  flags = [];
}

unfoldable pub back_at : Values → Option Line
back_at values = do
  image ← name_at (codes "IMAGE") values
  script ← name_at (codes "SCRIPT") values
  machine ← name_if_given (codes "machine") values
  history ← number_at (codes "history") 1 1048576 65536 values
  options ← options_at values
  Some (Back image script machine history options)

abbrev pub back_command : Command
back_command = record { form = back_form; read = back_at }

-- `inorder IMAGE MACHINE`, with a plan or without one
abbrev pub inorder_form : Form
inorder_form = record {
  word = codes "inorder";
  names = codes "IMAGE" ∷ codes "MACHINE" ∷ [];
  optional = codes "PLAN" ∷ [];
  rest = None;
  options = codes "ring" ∷ limits;
  flags = codes "exit-code" ∷ [];
}

unfoldable pub inorder_at : Values → Option Line
inorder_at values = do
  image ← name_at (codes "IMAGE") values
  machine ← name_at (codes "MACHINE") values
  plan ← name_if_given (codes "PLAN") values
  options ← options_at values
  Some (Inorder image machine plan options)

abbrev pub inorder_command : Command
inorder_command = record { form = inorder_form; read = inorder_at }

-- `sweep IMAGE MACHINES`, with one machine or more
abbrev pub sweep_form : Form
sweep_form = record {
  word = codes "sweep";
  names = codes "IMAGE" ∷ [];
  optional = [];
  rest = Some (codes "MACHINES");
  options = codes "pipeline" ∷ codes "ring" ∷ limits;
  flags = [];
}

unfoldable pub sweep_at : Values → Option Line
sweep_at values = do
  image ← name_at (codes "IMAGE") values
  machines ← names_at (codes "MACHINES") values
  pipeline ← pipeline_at values
  options ← options_at values
  Some (Sweep image machines pipeline options)

abbrev pub sweep_command : Command
sweep_command = record { form = sweep_form; read = sweep_at }

-- `trace IMAGE MACHINE`
abbrev pub trace_form : Form
trace_form = record {
  word = codes "trace";
  names = codes "IMAGE" ∷ codes "MACHINE" ∷ [];
  optional = [];
  rest = None;
  options = codes "from" ∷ codes "to" ∷ codes "pipeline" ∷ limits;
  flags = [];
}

unfoldable pub trace_at : Values → Option Line
trace_at values = do
  image ← name_at (codes "IMAGE") values
  machine ← name_at (codes "MACHINE") values
  from ← number_at (codes "from") 0 1099511627776 0 values
  to ← last_cycle_at from values
  pipeline ← pipeline_at values
  options ← options_at values
  Some (Trace image machine from to pipeline options)

abbrev pub trace_command : Command
trace_command = record { form = trace_form; read = trace_at }

-- a command that watches a run on a machine
abbrev pub watch_form : Text → Form
watch_form word = record {
  word = word;
  names = codes "IMAGE" ∷ codes "MACHINE" ∷ [];
  optional = [];
  rest = None;
  options = codes "pipeline" ∷ limits;
  flags = [];
}

-- `stack IMAGE MACHINE`
abbrev pub stack_form : Form
stack_form = watch_form (codes "stack")

unfoldable pub stack_at : Values → Option Line
stack_at values = do
  image ← name_at (codes "IMAGE") values
  machine ← name_at (codes "MACHINE") values
  pipeline ← pipeline_at values
  options ← options_at values
  Some (Stack image machine pipeline options)

abbrev pub stack_command : Command
stack_command = record { form = stack_form; read = stack_at }

-- `profile IMAGE MACHINE`
abbrev pub profile_form : Form
profile_form = watch_form (codes "profile")

unfoldable pub profile_at : Values → Option Line
profile_at values = do
  image ← name_at (codes "IMAGE") values
  machine ← name_at (codes "MACHINE") values
  pipeline ← pipeline_at values
  options ← options_at values
  Some (Profile image machine pipeline options)

abbrev pub profile_command : Command
profile_command = record { form = profile_form; read = profile_at }

-- `count IMAGE`
abbrev pub count_form : Form
count_form = record {
  word = codes "count";
  names = codes "IMAGE" ∷ [];
  optional = [];
  rest = None;
  options = codes "machine" ∷ limits;
  flags = [];
}

unfoldable pub count_at : Values → Option Line
count_at values = do
  image ← name_at (codes "IMAGE") values
  machine ← name_if_given (codes "machine") values
  options ← options_at values
  Some (Count image machine options)

abbrev pub count_command : Command
count_command = record { form = count_form; read = count_at }

-- `gdb IMAGE`
abbrev pub gdb_form : Form
gdb_form = record {
  word = codes "gdb";
  names = codes "IMAGE" ∷ [];
  optional = [];
  rest = None;
  options = codes "machine" ∷ codes "history" ∷ limits;
  flags = [];
}

unfoldable pub gdb_at : Values → Option Line
gdb_at values = do
  image ← name_at (codes "IMAGE") values
  machine ← name_if_given (codes "machine") values
  history ← number_at (codes "history") 1 1048576 1048576 values
  options ← options_at values
  Some (Gdb image machine history options)

abbrev pub gdb_command : Command
gdb_command = record { form = gdb_form; read = gdb_at }

abbrev pub commands : List Command
commands =
    func_command ∷ run_command ∷ sched_command ∷ soak_command ∷ back_command ∷ inorder_command
    ∷ sweep_command ∷ trace_command ∷ stack_command ∷ profile_command ∷ count_command
    ∷ gdb_command ∷ []

-- the command that a word names
abbrev pub named_command : Text → Option Command
named_command word = find (λ command. bytes_eq word command.form.word) commands

-- the line of the words, or none; the first of them is the command's
unfoldable pub line : List Text → Option Line
line [] = None
line (word ∷ words) = do
  command ← named_command word
  line_by command words

-- the first of the words names a command
abbrev pub NamesCommand : List Text → Type 0
NamesCommand [] = ⊥
NamesCommand (word ∷ words) = IsSome (named_command word)

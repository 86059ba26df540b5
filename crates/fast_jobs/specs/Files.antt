-- The files that a line names, and how long each may be.
use Rattle.std.specs.Prelude.{ℕ, List, [], ◌∷◌, ◌++◌, map, Option, Some, None}
use Rattle.mono_model.specs.Setup.{input_limit}
use Rattle.report_text.specs.declared.status.Role.{Role}
use Rattle.report_text.specs.declared.status.Role.TheVariants as role
use Rattle.fast_cli.specs.declared.line.Line.{Line}
use Rattle.fast_cli.specs.declared.line.Line.TheVariants.{Back, Count, Func, Gdb, Inorder, Profile}
use Rattle.fast_cli.specs.declared.line.Line.TheVariants.{Run, Sched, Soak, Stack, Sweep, Trace}
use Rattle.fast_cli.specs.declared.line.Options.{Options}
use Rattle.fast_jobs.specs.declared.files.NamedFile.{NamedFile}

abbrev pub file : Role → List ℕ → NamedFile
file role name = record { role = role; name = name }

-- the file of a role, if there is a name
abbrev pub file_if_named : Role → Option (List ℕ) → List NamedFile
file_if_named role None = []
file_if_named role (Some name) = file role name ∷ []

-- what the console reads, if the options name it
abbrev pub input_of : Options → List NamedFile
input_of options = file_if_named role.Input options.input

-- the files that are read for a line, in their order
abbrev pub files_of : Line → List NamedFile
files_of (Func image machine options) =
    file role.Image image ∷ file_if_named role.Machine machine ++ input_of options
files_of (Run image machine pipeline threads options) =
    file role.Image image ∷ file role.Machine machine ∷ input_of options
files_of (Sched image machine plan options) =
    file role.Image image ∷ file role.Machine machine ∷ file role.Plan plan ∷ input_of options
files_of (Soak seed) = []
files_of (Back image script machine history options) = file role.Image image
    ∷ file_if_named role.Machine machine ++ file role.Script script ∷ input_of options
files_of (Inorder image machine plan options) = file role.Image image ∷ file role.Machine machine
    ∷ file_if_named role.Plan plan ++ input_of options
files_of (Sweep image machines pipeline options) =
    file role.Image image ∷ map (file role.Machine) machines ++ input_of options
files_of (Trace image machine from to pipeline options) =
    file role.Image image ∷ file role.Machine machine ∷ input_of options
files_of (Stack image machine pipeline options) =
    file role.Image image ∷ file role.Machine machine ∷ input_of options
files_of (Profile image machine pipeline options) =
    file role.Image image ∷ file role.Machine machine ∷ input_of options
files_of (Count image machine options) =
    file role.Image image ∷ file_if_named role.Machine machine ++ input_of options
files_of (Gdb image machine history options) =
    file role.Image image ∷ file_if_named role.Machine machine ++ input_of options

-- how many bytes a file of a role may have; what a debugger writes is no file
abbrev pub limit_of : Role → ℕ
limit_of role.Image = 67108864
limit_of role.Machine = 65536
limit_of role.Plan = 1048576
limit_of role.Input = input_limit
limit_of role.Script = 65536
limit_of role.Packets = 0

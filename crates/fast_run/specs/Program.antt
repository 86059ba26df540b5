-- From the arguments of the process to the words, and from the answer to the exit status.
use Rattle.std.specs.Prelude.{◌≡◌, ◌≢◌, ℕ, ◌%◌, Bool, false, if◌then◌else◌, map, drop}
use Rattle.std.specs.Prelude.{Option, Some, None, Result, Ok, Err, String, Vec, string_bytes}
use Rattle.std.specs.Global.{Global}
use Rattle.std.specs.IoError.{error_kind}
use Rattle.std.specs.declared.io.Error.{Error}
use Rattle.std.specs.declared.io.ErrorKind.{ErrorKind}
use Rattle.std.specs.declared.io.ErrorKind.TheVariants.{OutOfMemory}
use Rattle.report_text.specs.declared.status.Status.{Status}
use Rattle.report_text.specs.declared.status.Status.TheVariants.{Fail, Usage, Memory}
use Rattle.report_text.specs.FaultText.{status_number}
use Rattle.fast_cli.specs.declared.line.Line.{Line}
use Rattle.fast_cli.specs.declared.line.Line.TheVariants.{Back, Count, Func, Gdb, Inorder, Profile}
use Rattle.fast_cli.specs.declared.line.Line.TheVariants.{Run, Sched, Soak, Stack, Sweep, Trace}
use Rattle.fast_cli.specs.Line.{line}

-- the line asks for the program's code as the number that ends the process
abbrev pub asks_code : Option Line → Bool
asks_code None = false
asks_code (Some (Func image machine options)) = options.exit_code
asks_code (Some (Run image machine pipeline threads options)) = options.exit_code
asks_code (Some (Sched image machine plan options)) = options.exit_code
asks_code (Some (Soak seed)) = false
asks_code (Some (Back image script machine history options)) = options.exit_code
asks_code (Some (Inorder image machine plan options)) = options.exit_code
asks_code (Some (Sweep image machines pipeline options)) = options.exit_code
asks_code (Some (Trace image machine from to pipeline options)) = options.exit_code
asks_code (Some (Stack image machine pipeline options)) = options.exit_code
asks_code (Some (Profile image machine pipeline options)) = options.exit_code
asks_code (Some (Count image machine options)) = options.exit_code
asks_code (Some (Gdb image machine history options)) = options.exit_code

-- the program's code, of which the process can tell eight bits, and the answer's number where there
-- is none
abbrev pub code_number : Status → ℕ
code_number (Fail code) = code % 256
code_number status = status_number status

-- the number that ends the process
abbrev pub exit_number : Option Line → Status → ℕ
exit_number asked status = if asks_code asked then code_number status else status_number status

-- the answer where the arguments could not be had: an argument that is no text makes words that are
-- no line
abbrev pub status_of_error : ErrorKind → Status
status_of_error OutOfMemory = Memory
status_of_error kind = Usage

-- arguments, of which the first is the program's name
abbrev pub Arguments : Type 0
Arguments = Result (Vec (String Global) Global) Error

-- the line that the arguments make behind the first, if they could be had and are one
abbrev pub line_in : Arguments → Option Line
line_in (Ok arguments) = line (map string_bytes (drop 1 arguments.items))
line_in (Err error) = None

-- arguments that could not be had for another cause than want of memory are answered by the usage
abbrev pub IsNoText : Arguments → Status → Type 0
IsNoText (Ok arguments) status = Unit {0}
IsNoText (Err error) status = error_kind error ≢ OutOfMemory → status ≡ Usage

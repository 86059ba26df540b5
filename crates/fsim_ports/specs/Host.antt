-- What the answers of a host say.
use Rattle.std.specs.Prelude.{ℕ, ◌==◌, if◌then◌else◌, Option, Some, None, Result, Ok, Err}
use Rattle.std.specs.declared.io.Error.{Error}
use Rattle.std.specs.declared.io.ErrorKind.{ErrorKind}
use Rattle.std.specs.declared.io.ErrorKind.TheVariants.{NotFound}
use Rattle.fsim_ports.specs.declared.outside.Part.{Part}
use Rattle.fsim_ports.specs.declared.outside.Part.TheVariants.{Missing, Failed}

-- what a refusal says of a file: it is missing only if the host found none
abbrev pub part_of_kind : ErrorKind → Part
part_of_kind NotFound = Missing
part_of_kind kind = Failed

-- how many bytes of a piece were written, if the host wrote some or the piece has none
abbrev pub progress_of : Result ℕ Error → ℕ → Option ℕ
progress_of (Ok count) size = if count == 0 then (if size == 0 then Some 0 else None) else Some count
progress_of (Err error) size = None

-- A value, or the answer of the program in its place.
use Rattle.std.specs.Prelude.{◌≡◌, ◌≢◌, Option, Some, None, Result, Ok, Err}
use Rattle.report_text.specs.declared.status.Status.{Status}
use Rattle.report_text.specs.declared.status.Status.TheVariants.{Memory}

-- `next` of the value, if there is one
infixl 10 ◌>>=◌
abbrev pub ◌>>=◌ : {A B : Type 0} → Result A Status → (A → Result B Status) → Result B Status
Ok value >>= next = next value
Err status >>= next = Err status

-- the value, where there is no refusal
abbrev pub unless : {A : Type 0} → Option Status → A → Result A Status
unless None value = Ok value
unless (Some status) value = Err status

-- a call gives what is wanted of it, or it wants memory, which is free
abbrev pub Gives : {A : Type 0} → Result A Status → Result A Status → Type 0
Gives wanted (Ok value) = wanted ≡ Ok value
Gives wanted (Err status) = status ≢ Memory → wanted ≡ Err status

-- What a line takes from the values that its words give: names, numbers in their ranges, and
-- defaults.
use Rattle.std.specs.Prelude.{ℕ, Bool, List, Option, Some, None, ◌+◌, ◌&&◌, ◌==◌, codes, if◌then◌else◌}
use Rattle.std.specs.Prelude.{[], ◌∷◌, false, length, not, find, is_some, option_map, slice_get}
use Rattle.std.specs.List.{list_all}
use Rattle.std.specs.Str.{bytes_eq}
use Rattle.fast_cli.specs.Number.{is_between, number_in}
use Rattle.fast_cli.specs.Words.{◌>>=◌, Text, Values}
use Rattle.fast_cli.specs.declared.line.Options.{Options}
use Rattle.fast_cli.specs.declared.line.Pipeline.{Pipeline}
use Rattle.fast_cli.specs.declared.line.Pipeline.TheVariants.{Window, Inorder}

-- the value that stands first under a name or an option
abbrev pub first_at : Text → Values → Option Text
first_at id values = values id >>= (λ texts. slice_get texts 0)

-- a name has at least one byte
abbrev pub is_name : Text → Bool
is_name text = not (length text == 0)

abbrev pub name_in : Text → Option Text
name_in text = if is_name text then Some text else None

-- from 1 to 64 names
unfoldable pub names_in : List Text → Option (List Text)
names_in texts =
    if is_between 1 64 (length texts) && list_all is_name texts then Some texts else None

-- the name that must be there
unfoldable pub name_at : Text → Values → Option Text
name_at id values = first_at id values >>= name_in

-- the names that must be there
unfoldable pub names_at : Text → Values → Option (List Text)
names_at id values = values id >>= names_in

-- the number that must be there, from `least` to `most`
unfoldable pub given_number_at : Text → ℕ → ℕ → Values → Option ℕ
given_number_at id least most values = first_at id values >>= number_in least most

abbrev pub number_or : ℕ → ℕ → ℕ → Option Text → Option ℕ
number_or least most default None = Some default
number_or least most default (Some text) = number_in least most text

-- the number of the option `id`, from `least` to `most`, or its default where the words leave it
-- out
unfoldable pub number_at : Text → ℕ → ℕ → ℕ → Values → Option ℕ
number_at id least most default values = number_or least most default (first_at id values)

-- the cycle that a trace goes up to: 10,000 after its first where the words leave it out
abbrev pub last_cycle_or : ℕ → Option Text → Option ℕ
last_cycle_or from None = Some (from + 10000)
last_cycle_or from (Some text) = number_in 0 1099511627776 text

unfoldable pub last_cycle_at : ℕ → Values → Option ℕ
last_cycle_at from values = last_cycle_or from (first_at (codes "to") values)

abbrev pub name_or_none : Option Text → Option (Option Text)
name_or_none None = Some None
name_or_none (Some text) = option_map (λ name. Some name) (name_in text)

-- the name that may be there
unfoldable pub name_if_given : Text → Values → Option (Option Text)
name_if_given id values = name_or_none (first_at id values)

-- whether the flag is there
abbrev pub flag_at : Text → Values → Bool
flag_at id values = is_some (values id)

-- the pipelines by their words
abbrev pub pipelines : List (Text × Pipeline)
pipelines = (codes "window", Window) ∷ (codes "inorder", Inorder) ∷ []

abbrev pub pipeline_in : Text → Option Pipeline
pipeline_in text = option_map (λ row. row.1) (find (λ row. bytes_eq text row.0) pipelines)

abbrev pub pipeline_or_default : Option Text → Option Pipeline
pipeline_or_default None = Some Window
pipeline_or_default (Some text) = pipeline_in text

-- which machine plays the run
unfoldable pub pipeline_at : Values → Option Pipeline
pipeline_at values = pipeline_or_default (first_at (codes "pipeline") values)

-- the options of a line that gives none
unfoldable pub default_options : Options
default_options = record {
  ring = 64;
  cycles = 10000000;
  output = 16777216;
  input = None;
  exit_code = false;
}

-- the options with their ranges and defaults; one that the command doesn't know has its default
unfoldable pub options_at : Values → Option Options
options_at values = do
  ring ← number_at (codes "ring") 1 65536 default_options.ring values
  cycles ← number_at (codes "cycles") 1 1099511627776 default_options.cycles values
  output ← number_at (codes "output") 0 16777216 default_options.output values
  input ← name_if_given (codes "input") values
  Some (record {
    ring = ring;
    cycles = cycles;
    output = output;
    input = input;
    exit_code = flag_at (codes "exit-code") values;
  })

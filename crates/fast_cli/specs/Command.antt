-- A command's form as clap's builder makes it, and what clap finds in words.
use Rattle.std.specs.Prelude.{◌≡◌, Bool, true, false, List, [], ◌∷◌, ◌++◌, map, Option, Some, None}
use Rattle.clap.specs.Walk.{Row, Rule, all_of, rows_of}
use Rattle.clap.specs.Simple.{App, matches_of, new_rule, new_shape, with_rule}
use Rattle.clap.specs.Matches.{found_of}
use Rattle.clap.specs.Kinds.{Kinds}
use Rattle.clap.specs.Faults.{fault_of, is_simple_and_free}
use Rattle.clap.specs.declared.builder.action.ArgAction.TheVariants.{Append, Set}
use Rattle.clap.specs.declared.parser.matches.ArgMatches.{ArgMatches}
use Rattle.fast_cli.specs.Words.{AreText, Form, Text, Values, values_in}

-- a name, which must be there or may be
abbrev pub name_rule : Bool → Text → Rule
name_rule needed name = record (new_rule name) { required = needed }

-- one name or more
abbrev pub names_rule : Text → Rule
names_rule name = record (new_rule name) { required = true; action = Some Append }

-- an option with a value, `--name VALUE` or `--name=VALUE`
abbrev pub option_rule : Text → Rule
option_rule name = record (new_rule name) { long = Some name }

-- a flag, `--name`: a use of it has no value, and without one there is none
abbrev pub flag_rule : Text → Rule
flag_rule name = record (new_rule name) {
  long = Some name;
  action = Some Set;
  range = Some (record { start_inclusive = 0; end_inclusive = 0 });
}

-- a command without names and options; `--help` and `--version` are none, and the first of its words
-- isn't the program's name
abbrev pub bare_command : Text → App
bare_command word = record {
  top = record (new_shape word) {
    no_binary_name = true;
    disable_help_flag = true;
    disable_version_flag = true;
  };
  subs = [];
}

-- the command with more arguments, in this order
abbrev pub with_rules : List Rule → App → App
with_rules rules command =
    record command { top = record command.top { rules = command.top.rules ++ rules } }

abbrev pub with_names : Bool → List Text → App → App
with_names needed names = with_rules (map (name_rule needed) names)

abbrev pub with_options : List Text → App → App
with_options options = with_rules (map option_rule options)

abbrev pub with_flags : List Text → App → App
with_flags flags = with_rules (map flag_rule flags)

abbrev pub with_rest : Option Text → App → App
with_rest None command = command
with_rest (Some name) command = with_rule command (names_rule name)

abbrev pub command_by : Form → App
command_by form = with_rest form.rest (with_flags form.flags (with_options form.options
    (with_names false form.optional (with_names true form.names (bare_command form.word)))))

-- the values among what clap found
abbrev pub values_among : List Row → Values
values_among rows = λ id. all_of id rows

abbrev pub values_of : ArgMatches → Values
values_of m = values_among (rows_of (found_of m))

-- what was found, where nothing is wrong
abbrev pub accepted : {A : Type 0} → Kinds → A → Option A
accepted [] found = Some found
accepted (kind ∷ kinds) found = None

-- the values that clap finds in the words, or none where it refuses them
unfoldable pub parsed : App → List Text → Option Values
parsed command words = accepted (fault_of command words) (values_among (matches_of command words))

-- clap takes commands of the form, and gives what the words give by it
pub record ReadsAs (form : Form) : Type 0 where
  pub is_read : is_simple_and_free (command_by form) ≡ true
  pub gives : (words : List Text) → AreText words
      → parsed (command_by form) words ≡ values_in form words

-- The rules of names and options as clap builds them, and what one use of each adds.
use Rattle.std.proofs.Common.{◌≡◌, ◌+◌, ℕ, Bool, cond, true, false, List, [], ◌∷◌, ◌++◌, refl, ap, min, subst}
use Rattle.std.specs.Prelude.{◌&&◌, Option, Some, None, find, not, option_map, unwrap_or}
use Rattle.std.specs.List.{list_all, list_any}
use Rattle.std.specs.Str.{bytes_eq}
use Rattle.clap.specs.Faults.{repeat_fault, use_fault}
use Rattle.clap.specs.Kinds.{or_else}
use Rattle.clap.specs.Lexer.{usize_max}
use Rattle.clap.specs.Simple.{Shape, filled, new_shape}
use Rattle.clap.specs.Takes.{is_given}
use Rattle.clap.specs.Walk.{Row, Rule, arg_by_id, arg_by_index, arg_by_long, arg_by_short, has_row, reading_by, used, with_values, without}
use Rattle.clap.specs.declared.builder.value_parser.Reading.{Reading}
use Rattle.clap.specs.declared.parser.matches.ValueSource.TheVariants.{CommandLine}
use Rattle.fast_cli.specs.Words.{Form, Text, rest_names, with_flag, with_only, with_value}
use Rattle.fast_cli.specs.Command.{accepted, flag_rule, name_rule, names_rule, option_rule, values_among}
use Rattle.fast_cli.proofs.Rows.{AreGiven, has_row-values, values-with_values, values-without, with_values-given, without-given, without-none}

-- ---- the rules of a form

abbrev pub option_arg : Text → Rule
option_arg name = filled (option_rule name)

abbrev pub flag_arg : Text → Rule
flag_arg name = filled (flag_rule name)

abbrev pub name_arg : Bool → ℕ → Text → Rule
name_arg needed place name = record (filled (name_rule needed name)) { index = Some place }

abbrev pub rest_arg : ℕ → Text → Rule
rest_arg place name = record (filled (names_rule name)) { index = Some place }

abbrev pub built_shape : Text → List Rule → Shape
built_shape word rules = record (new_shape word) {
  rules = rules;
  no_binary_name = true;
  disable_help_flag = true;
  disable_help_subcommand = true;
  disable_version_flag = true;
  is_built = true;
}

abbrev pub Known : List Rule → List Text → Type 0
Known c [] = Unit {0}
Known c (option ∷ options) = (arg_by_id c option ≡ Some (option_arg option)) × Known c options

abbrev pub LastPlace : List Rule → ℕ → Option Text → Type 0
LastPlace c place None = arg_by_index c place ≡ None
LastPlace c place (Some name) = (arg_by_index c place ≡ Some (rest_arg place name)) × (arg_by_id c name ≡ Some (rest_arg place name))

-- the names from this place on
abbrev pub Places : List Rule → ℕ → List Text → Option Text → Type 0
Places c place [] rest = LastPlace c place rest
Places c place (name ∷ names) rest =
    (needed : Bool) × (arg_by_index c place ≡ Some (name_arg needed place name)) × (arg_by_id c name ≡ Some (name_arg needed place name))
    × Places c (min (place + 1) usize_max) names rest

abbrev pub NoDefaults : List Rule → Type 0
NoDefaults [] = Unit {0}
NoDefaults (a ∷ rest) = (a.defaults ≡ []) × NoDefaults rest

-- the rule with a long name: an option's, or else a flag's
abbrev pub long_arg : Option Text → Option Text → Option Rule
long_arg (Some option) flag = Some (option_arg option)
long_arg None flag = option_map flag_arg flag

-- the rules are those of the form
pub record AreRulesOf (form : Form) (c : List Rule) : Type 0 where
  pub long : (name : Text) → arg_by_long c name ≡ long_arg (find (λ option. bytes_eq option name) form.options) (find (λ flag. bytes_eq flag name) form.flags)
  pub short : (x : ℕ) → arg_by_short c x ≡ None
  pub known : Known c form.options
  pub places : Places c 1 (form.names ++ form.optional) form.rest
  pub defaults : NoDefaults c
  pub needs : (rows : List Row) → list_any (λ a. a.required && not (is_given a.id rows)) c
      ≡ not (list_all (λ name. is_given name rows) (form.names ++ rest_names form.rest))

pub known_option : (c : List Rule) (options : List Text) (name option : Text) → Known c options → find (λ o. bytes_eq o name) options ≡ Some option
    → arg_by_id c option ≡ Some (option_arg option)
known_option c [] name option known found = cc
known_option c (o ∷ options) name option known found = go (bytes_eq o name) (known_option c options name option known.1) found
  where
    go : (b : Bool) → (find (λ x. bytes_eq x name) options ≡ Some option → arg_by_id c option ≡ Some (option_arg option))
        → cond b (Some o) (find (λ x. bytes_eq x name) options) ≡ Some option → arg_by_id c option ≡ Some (option_arg option)
    go true later e = subst (λ x. arg_by_id c x ≡ Some (option_arg x)) (ap (λ m. unwrap_or m o) e) known.0
    go false later e = later e

-- ---- one use

set_use : (id : Text) (how : Reading) (v : Text) (rows : List Row)
    → option_map values_among (accepted (or_else (repeat_fault false id rows) []) (with_values id how CommandLine (v ∷ []) (without id rows))) ≡ with_only id v (values_among rows)
set_use id how v rows = go (has_row id rows) refl
  where
    go : (b : Bool) → has_row id rows ≡ b
        → option_map values_among (accepted (or_else (repeat_fault false id rows) []) (with_values id how CommandLine (v ∷ []) (without id rows))) ≡ with_only id v (values_among rows)
    go true e = rw (← has_row-values id rows, e) refl
    go false e =
        let more : values_among (with_values id how CommandLine (v ∷ []) rows) ≡ with_value id v (values_among rows) = λ i q. values-with_values id how v rows q i in
        rw (← has_row-values id rows, e, without-none id rows e) (ap Some more)

pub option_use : (name v : Text) (rows : List Row)
    → option_map values_among (accepted (use_fault false (option_arg name) (v ∷ []) rows) (used (option_arg name) (v ∷ []) rows)) ≡ with_only name v (values_among rows)
option_use name v rows = set_use name _ v rows

pub flag_use : (name : Text) (rows : List Row)
    → option_map values_among (accepted (use_fault false (flag_arg name) [] rows) (used (flag_arg name) [] rows)) ≡ with_flag name (values_among rows)
flag_use name rows = go (has_row name rows) refl
  where
    go : (b : Bool) → has_row name rows ≡ b
        → option_map values_among (accepted (use_fault false (flag_arg name) [] rows) (used (flag_arg name) [] rows)) ≡ with_flag name (values_among rows)
    go true e = rw (← has_row-values name rows, e) refl
    go false e =
        let marked : values_among (with_values name (reading_by (flag_arg name)) CommandLine [] rows) ≡ (λ q. cond (bytes_eq name q) (Some []) (values_among rows q)) =
        λ i q. values-without name (reading_by (flag_arg name)) rows e q i in
        rw (← has_row-values name rows, e, without-none name rows e) (ap Some marked)

pub name_use : (needed : Bool) (place : ℕ) (name v : Text) (rows : List Row)
    → option_map values_among (accepted (use_fault false (name_arg needed place name) (v ∷ []) rows) (used (name_arg needed place name) (v ∷ []) rows))
    ≡ with_only name v (values_among rows)
name_use needed place name v rows = set_use name _ v rows

pub rest_use : (place : ℕ) (name v : Text) (rows : List Row)
    → option_map values_among (accepted (use_fault false (rest_arg place name) (v ∷ []) rows) (used (rest_arg place name) (v ∷ []) rows)) ≡ Some (with_value name v (values_among rows))
rest_use place name v rows =
    let more : values_among (used (rest_arg place name) (v ∷ []) rows) ≡ with_value name v (values_among rows) = λ i q. values-with_values name (reading_by (rest_arg place name)) v rows q i in
    ap Some more

pub option_given : (name v : Text) (rows : List Row) → AreGiven rows → AreGiven (used (option_arg name) (v ∷ []) rows)
option_given name v rows given = with_values-given name _ (v ∷ []) (without name rows) (without-given name rows given)

pub flag_given : (name : Text) (rows : List Row) → AreGiven rows → AreGiven (used (flag_arg name) [] rows)
flag_given name rows given = with_values-given name _ [] (without name rows) (without-given name rows given)

pub name_given : (needed : Bool) (place : ℕ) (name v : Text) (rows : List Row) → AreGiven rows → AreGiven (used (name_arg needed place name) (v ∷ []) rows)
name_given needed place name v rows given = with_values-given name _ (v ∷ []) (without name rows) (without-given name rows given)

pub rest_given : (place : ℕ) (name v : Text) (rows : List Row) → AreGiven rows → AreGiven (used (rest_arg place name) (v ∷ []) rows)
rest_given place name v rows given = with_values-given name _ (v ∷ []) rows given

-- The words behind a command: names in their order, and options with their values anywhere between
-- them.
use Rattle.std.specs.Prelude.{ℕ, Bool, true, false, List, [], ◌∷◌, ◌++◌, Option, Some, None, ◌==◌}
use Rattle.std.specs.Prelude.{if◌then◌else◌}
use Rattle.std.specs.Prelude.{find, is_some, unwrap_or}
use Rattle.std.specs.List.{AllByRecursion, after_first, before_first, list_all, list_any}
use Rattle.std.specs.Str.{IsUtf8, bytes_eq}

abbrev pub Text : Type 0
Text = List ℕ

-- each word is text in UTF-8
abbrev pub AreText : List Text → Type 0
AreText words = AllByRecursion IsUtf8 words

-- `next` of the value, if there is one
infixl 10 ◌>>=◌
abbrev pub ◌>>=◌ : {A B : Type 0} → Option A → (A → Option B) → Option B
None >>= next = None
Some value >>= next = next value

-- ---- what a command takes

-- the command's word; its names in their order; names that may stand behind those; a name that stands
-- for all names behind these, of which one must be there; its options, each of which has a value; and
-- its flags, which have none
pub record Form : Type 0 where
  pub word : Text
  pub names : List Text
  pub optional : List Text
  pub rest : Option Text
  pub options : List Text
  pub flags : List Text

-- ---- the values that words give

-- the values of each name and option; a flag that is there has none
abbrev pub Values : Type 0
Values = Text → Option (List Text)

abbrev pub no_values : Values
no_values = λ id. None

-- one value more
abbrev pub with_value : Text → Text → Values → Values
with_value id value values = λ other.
    if bytes_eq id other then Some (unwrap_or (values id) [] ++ value ∷ []) else values other

-- the only value
abbrev pub with_only : Text → Text → Values → Option Values
with_only id value values = if is_some (values id) then None else Some (with_value id value values)

-- the flag, which was not there
abbrev pub with_flag : Text → Values → Option Values
with_flag flag values =
    if is_some (values flag) then None
    else Some (λ other. if bytes_eq flag other then Some [] else values other)

-- ---- what a word is by how it begins

pub data Look : Type 0 where
  -- a name or a value: it doesn't begin with `-` (45), or is `-` alone
  plain : Look
  -- `--`
  dashes : Look
  -- `--name` or `--name=value`
  long : Text → Option Text → Look
  -- `-x`
  short : Look

abbrev pub is_equals : ℕ → Bool
is_equals byte = byte == 61

-- what stands behind two dashes
abbrev pub look_behind_dashes : Text → Look
look_behind_dashes [] = dashes
look_behind_dashes (byte ∷ bytes) = long (before_first is_equals (byte ∷ bytes))
    (if list_any is_equals (byte ∷ bytes) then Some (after_first is_equals (byte ∷ bytes))
    else None)

abbrev pub look_of : Text → Look
look_of [] = plain
look_of (first ∷ []) = plain
look_of (first ∷ second ∷ bytes) =
    if first == 45 then (if second == 45 then look_behind_dashes bytes else short) else plain

-- ---- reading one word after the other

-- where a reading stands between two words
pub record Place : Type 0 where
  -- the names that are still to come
  pub names : List Text
  -- the option whose value the next word is
  pub waiting : Option Text
  -- `--` was there, and each word is a name
  pub only_names : Bool
  pub values : Values

-- a word as a name: the next that the form has, or one of the rest
abbrev pub as_name : Form → Text → Place → List Text → Option Place
as_name form word p (name ∷ names) = do
  values ← with_only name word p.values
  Some (record p { names = names; values = values })
as_name form word p [] = do
  name ← form.rest
  Some (record p { values = with_value name word p.values })

-- the value of an option
abbrev pub with_option : Text → Text → Place → Option Place
with_option option value p = do
  values ← with_only option value p.values
  Some (record p { waiting = None; values = values })

-- an option, with what stands behind `=` or with the next word as its value
abbrev pub as_option : Text → Place → Option Text → Option Place
as_option option p (Some value) = with_option option value p
as_option option p None = Some (record p { waiting = Some option })

-- a flag, behind which no `=` stands
abbrev pub as_flag : Text → Place → Option Text → Option Place
as_flag flag p (Some value) = None
as_flag flag p None = do
  values ← with_flag flag p.values
  Some (record p { values = values })

-- what has this name, if it is no option: a flag
abbrev pub as_long : Form → Text → Place → Option Text → Option Text → Option Place
as_long form name p value (Some option) = as_option option p value
as_long form name p value None = do
  flag ← find (λ flag. bytes_eq flag name) form.flags
  as_flag flag p value

-- a word where no option waits
abbrev pub as_look : Form → Text → Place → Look → Option Place
as_look form word p plain = as_name form word p p.names
as_look form word p dashes = Some (record p { only_names = true })
as_look form word p (long name value) =
    as_long form name p value (find (λ option. bytes_eq option name) form.options)
as_look form word p short = None

-- a word where one does
abbrev pub as_value : Text → Text → Place → Look → Option Place
as_value option word p plain = with_option option word p
as_value option word p _ = None

-- the place behind one more word
abbrev pub after_word : Form → Text → Place → Bool → Option Text → Option Place
after_word form word p true waiting = as_name form word p p.names
after_word form word p false (Some option) = as_value option word p (look_of word)
after_word form word p false None = as_look form word p (look_of word)

-- no option waits for its value at the end
abbrev pub at_end : Place → Option Text → Option Values
at_end p None = Some p.values
at_end p (Some option) = None

-- the values at the end of the words, from a place on
unfoldable pub values_from : Form → Place → List Text → Option Values
values_from form p [] = at_end p p.waiting
values_from form p (word ∷ words) = do
  next ← after_word form word p p.only_names p.waiting
  values_from form next words

-- the name that stands for all the others
abbrev pub rest_names : Option Text → List Text
rest_names None = []
rest_names (Some name) = name ∷ []

-- each name that must be there has a value
abbrev pub has_names : Form → Values → Bool
has_names form values =
    list_all (λ name. is_some (values name)) (form.names ++ rest_names form.rest)

-- the values of the words, or none where they aren't of the form
unfoldable pub values_in : Form → List Text → Option Values
values_in form words = do
  values ← values_from form (record {
    names = form.names ++ form.optional;
    waiting = None;
    only_names = false;
    values = no_values;
  }) words
  if has_names form values then Some values else None

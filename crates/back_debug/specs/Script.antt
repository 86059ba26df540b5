-- A debugger's script: a command a line.
use Rattle.std.specs.Prelude.{◌≡◌, ℕ, ◌==◌, nat_le, ◌&&◌, not, Bool, false, List, [], ◌∷◌, ◌++◌}
use Rattle.std.specs.Prelude.{length, map, if◌then◌else◌, Option, Some, None, option_map, is_some}
use Rattle.std.specs.List.{filter_map, list_all, position_from}
use Rattle.std.specs.Option.{option_to_list}
use Rattle.std.specs.Char.{is_digit}
use Rattle.std.specs.Str.Parse.{digits_value}
use Rattle.bstr.specs.Text.{lines_of, without_terminator}
use Rattle.mono_model.specs.Setup.{cycle_limit}
use Rattle.back_debug.specs.declared.script.Command.{Command}
use Rattle.back_debug.specs.declared.script.Command.TheVariants.{Step, Back, To, Show}

-- what digits of a base write, where each byte is one; letters of either case are digits above 9
abbrev pub value_in : ℕ → List ℕ → Option ℕ
value_in radix word =
    if list_all (λ byte. is_digit byte radix) word then Some (digits_value radix word) else None

-- from 1 to the most cycles that a run may have
abbrev pub in_range : ℕ → Option ℕ
in_range steps = if nat_le 1 steps && nat_le steps cycle_limit then Some steps else None

-- how many steps: one to twenty decimal digits
abbrev pub steps_from : Option ℕ → Option ℕ
steps_from None = None
steps_from (Some steps) = in_range steps

abbrev pub steps_in : List ℕ → Option ℕ
steps_in word =
    if nat_le 1 (length word) && nat_le (length word) 20
    then steps_from (value_in 10 word) else None

-- an address: eight hexadecimal digits
abbrev pub address_in : List ℕ → Option ℕ
address_in word = if length word == 8 then value_in 16 word else None

-- the letters s, b and t with a word behind them, by their ASCII codes
abbrev pub worded : ℕ → List ℕ → Option Command
worded letter word =
    if letter == 115 then option_map Step (steps_in word)
    else if letter == 98 then option_map Back (steps_in word)
    else if letter == 116 then option_map To (address_in word)
    else None

-- the letter r alone; or a letter, one space and a word
abbrev pub command_in : List ℕ → Option Command
command_in [] = None
command_in (letter ∷ []) = if letter == 114 then Some Show else None
command_in (letter ∷ space ∷ word) = if space == 32 then worded letter word else None

-- a line ends at a line feed, and a carriage return before it is no part of it; the last line may
-- lack its line feed
abbrev pub lines : List ℕ → List (List ℕ)
lines bytes = map without_terminator (lines_of bytes)

-- no command, and not empty; an empty line does nothing
abbrev pub is_bad : List ℕ → Bool
is_bad line = not (length line == 0) && not (is_some (command_in line))

-- the commands, in their order
unfoldable pub commands_of : List ℕ → List Command
commands_of bytes = filter_map command_in (lines bytes)

-- the first bad line, counted from 1
unfoldable pub first_bad_line : List ℕ → Option ℕ
first_bad_line bytes = position_from is_bad 1 (lines bytes)

-- the line is good, and its command, if it has one, was added to the commands
pub record IsAdded (line : List ℕ) (before after : List Command) : Type 0 where
  pub good : is_bad line ≡ false
  pub same : after ≡ before ++ option_to_list (command_in line)

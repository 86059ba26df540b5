-- Words for the examples of lines.
use Rattle.std.specs.Prelude.{ℕ, false, List, [], ◌∷◌, None, ◌==◌, if◌then◌else◌}
use Rattle.clap.specs.Walk.{Text}
use Rattle.fast_cli.specs.declared.line.Options.{Options}

-- the options where the words give none
abbrev pub defaults : Options
defaults = record {
  ring = 64;
  cycles = 10000000;
  output = 16777216;
  input = None;
  exit_code = false;
}

abbrev pub before_first : ℕ → List Text → List Text
before_first byte [] = (byte ∷ []) ∷ []
before_first byte (word ∷ words) = (byte ∷ word) ∷ words

-- the words of a text, which is cut at each space
abbrev pub words_of : Text → List Text
words_of [] = [] ∷ []
words_of (byte ∷ text) =
    if byte == 32 then [] ∷ words_of text else before_first byte (words_of text)

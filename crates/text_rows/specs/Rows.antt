-- The rows of a text: its words by address, and one more for all other addresses.
use Rattle.std.specs.Prelude.{◌≡◌, ℕ, ◌%◌, ◌^◌, ◌<◌, ◌≤◌, ◌==◌, ◌&&◌, Bool, true, List, length, slice_get, Some}
use Rattle.std.specs.List.{Contains}
use Rattle.std.specs.List.Sorted.{IsStrictlyIncreasing}
use Rattle.elf_image.specs.declared.image.Image.{Image}
use Rattle.mono_model.specs.Found.{has_text}

-- an address is a word of text: a multiple of 4 whose four bytes lie in executable segments
abbrev pub is_word_of_text : Image → ℕ → Bool
is_word_of_text image addr = addr % 4 == 0 && has_text image addr

-- the addresses are those of the words of text, in rising order
pub record AreRowsOf (image : Image) (rows : List ℕ) : Type 0 where
  pub rising : IsStrictlyIncreasing rows
  pub words : (addr : ℕ) → Contains rows addr → is_word_of_text image addr ≡ true
  pub all : (addr : ℕ) → is_word_of_text image addr ≡ true → Contains rows addr
  pub fit : (addr : ℕ) → Contains rows addr → addr < 2 ^ 32

-- the same of the words from one address up to another
pub record AreRowsWithin (image : Image) (first end : ℕ) (rows : List ℕ) : Type 0 where
  pub rising : IsStrictlyIncreasing rows
  pub words : (addr : ℕ) → Contains rows addr → is_word_of_text image addr ≡ true
  pub below : (addr : ℕ) → Contains rows addr → addr < end
  pub all : (addr : ℕ) → first ≤ addr → addr < end → is_word_of_text image addr ≡ true → Contains rows addr

-- the row of an address: its place among them, or the one after all of them if it isn't there
pub data IsRowOf (rows : List ℕ) (addr row : ℕ) : Type 0 where
  OfText : slice_get rows row ≡ Some addr → IsRowOf rows addr row
  Other : row ≡ length rows → (Contains rows addr → ⊥) → IsRowOf rows addr row

-- What fetch finds at an address is what its word says.
use Rattle.std.proofs.Common.{◌≡◌, ℕ, ◌%◌, ◌==◌, ◌&&◌, not, Bool, true, false, if◌then◌else◌, Option, Some, None, refl, ap, ◌∙◌}
use Rattle.std.proofs.lemmas.Bool.{eqb-true}
use Rattle.fsim_base.specs.Memory.{from_bytes}
use Rattle.fsim_base.specs.declared.access.RamRange.{RamRange}
use Rattle.fsim_base.specs.declared.cause.Cause.{Cause}
use Rattle.fsim_base.specs.declared.cause.Cause.TheVariants.{InstructionMisaligned, InstructionAccess}
use Rattle.rv_decode.specs.declared.insn.Insn.{Insn}
use Rattle.rv_decode.specs.Table.{table}
use Rattle.rv_decode.specs.Decode.{decode_of}
use Rattle.elf_image.specs.declared.image.Image.{Image}
use Rattle.mono_model.specs.Found.{Found, refused, unknown, known, found_word, found_at, has_text, word_in, is_fetchable}
use Rattle.mono_model.specs.Result.{Seen, executed}
use Rattle.timing_side.specs.Fetch.{is_fetch_cause}

-- word 0 is no instruction
no_word : decode_of 0 ≡ None
unfolding decode_of table
no_word = refl

-- what fetch can find
abbrev pub IsFetched : Found → Type 0
IsFetched (refused cause) = is_fetch_cause (Some cause) ≡ true
IsFetched (unknown word) = decode_of word ≡ None
IsFetched (known word insn) = decode_of word ≡ Some insn

word_fetched : (word : ℕ) (insn : Option Insn) → decode_of word ≡ insn → IsFetched (found_word word insn)
word_fetched word None is = is
word_fetched word (Some insn) is = is

pub found_fetched : (image : Image) (text : ℕ → ℕ) (addr : ℕ) → IsFetched (found_at image text addr)
unfolding found_at
found_fetched image text addr = by_test (addr % 4 == 0) (has_text image addr)
  where
    by_test : (aligned there : Bool) →
        IsFetched (if aligned then (if there then found_word (from_bytes 4 addr text) (decode_of (from_bytes 4 addr text)) else refused InstructionAccess) else refused InstructionMisaligned)
    by_test true true = word_fetched (from_bytes 4 addr text) (decode_of (from_bytes 4 addr text)) refl
    by_test true false = refl
    by_test false there = refl

-- what makes no difference between a word that is no instruction and no word at all can be read off the word
pub said_by : {A : Type 0} (f : Found → A) → ((cause : Cause) → f (unknown 0) ≡ f (refused cause)) → (found : Found) → IsFetched found →
    f (found_word (word_in found) (decode_of (word_in found))) ≡ f found
said_by f alike (refused cause) is = ap (λ (insn : Option Insn). f (found_word 0 insn)) no_word ∙ alike cause
said_by f alike (unknown word) is = ap (λ (insn : Option Insn). f (found_word word insn)) is
said_by f alike (known word insn) is = ap (λ (i : Option Insn). f (found_word word i)) is

-- word and cause show whether something was fetched
pub fetchable_is : (range : RamRange) (found : Found) (addr x y : ℕ) (e : Seen) → IsFetched found →
    not (word_in found == 0 && is_fetch_cause (executed range found addr x y e).cause) ≡ is_fetchable found
unfolding executed
fetchable_is range (refused cause) addr x y e is = ap not is
fetchable_is range (unknown word) addr x y e is = by_test (word == 0)
  where
    by_test : (b : Bool) → not (b && false) ≡ true
    by_test true = refl
    by_test false = refl
fetchable_is range (known word insn) addr x y e is = by_test (word == 0) refl
  where
    by_test : (b : Bool) → (word == 0) ≡ b → not (b && is_fetch_cause (executed range (known word insn) addr x y e).cause) ≡ true
    by_test true zero =
        let none : decode_of word ≡ None = ap decode_of (eqb-true word 0 zero) ∙ no_word in
        cc
    by_test false other = refl

use Rattle.std.proofs.Common.{◌≡◌, ◌∙◌, ℕ, false, Option, Some, None, refl, sym, ap}
use Rattle.std.specs.Prelude.{option_and_then}
use Rattle.std.specs.Option.{option_map_or}
use Rattle.rv_decode.specs.declared.insn.Insn.{Insn}
use Rattle.rv_decode.specs.Decode.{decode_of}
use Rattle.mono_model.specs.Found.{found_word, is_fence_i, is_fence_i_insn}
use Rattle.timing_core.proofs.Opcodes.{no_fence}
use Rattle.cycle_watch.proofs.shown.Shown.is_fence_i.Goals as goal

same_fence : (word : ℕ) (insn : Option Insn) → option_map_or is_fence_i_insn insn false ≡ is_fence_i (found_word word insn)
same_fence word None = refl
same_fence word (Some insn) = refl

-- a word with another opcode is none
pub returns-in_default : goal.returns-in_default
returns-in_default c =
    let word = c.in-Some.word in
    record {
      fence = sym (
          ap (λ (w : Option ℕ). option_map_or is_fence_i_insn (option_and_then decode_of w) false) c.in-Some.is
          ∙ same_fence word (decode_of word)
          ∙ no_fence word (λ is. c.if-bits-eq-FENCE.false (c.bits.ensures.field ∙ is))
          );
    }

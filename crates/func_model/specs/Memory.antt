-- What is kept of the text.
use Rattle.std.specs.Prelude.{◌≡◌, ℕ, ◌+◌, ◌-◌, ◌≤◌, ◌<◌, ◌^◌, Bool}
use Rattle.mono_model.specs.Found.{known}
use Rattle.func_model.specs.declared.memory.TextInsn.{TextInsn}
use Rattle.func_model.specs.Hart.{DecodedFits, found_by}

-- What is kept by a key from the text's stamp on is what fetch finds at the address by which the key is above the stamp.
-- What has a lower key was kept of an earlier text.
pub record IsOfText (is_text : ℕ → Bool) (text : ℕ → ℕ) (stamp : ℕ) (kept : TextInsn) : Type 0 where
  pub found : stamp ≤ kept.key → known kept.decoded.word kept.decoded.insn ≡ found_by is_text text (kept.key - stamp)
  pub fits : stamp ≤ kept.key → DecodedFits kept.decoded
  pub below : kept.key < stamp + 2 ^ 32

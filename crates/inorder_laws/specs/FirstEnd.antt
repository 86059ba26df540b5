-- When a run ends.
use Rattle.std.specs.Prelude.{◌≡◌, ℕ, ◌≤◌}
use Rattle.mono_model.specs.declared.setup.Setup.{Setup}
use Rattle.mono_model.specs.Final.{has_ended}
use Rattle.machine_laws.specs.FirstEnd.{IsFirst}
use Rattle.inorder_machine.specs.Cycle.{inorder, inorder_final, inorder_text}

-- the run has ended behind `c` cycles, and behind fewer it had not
abbrev pub IsInorderFirstEnd : Setup → ℕ → Type 0
IsInorderFirstEnd s c = IsFirst (λ k. has_ended (inorder s k).machine.end) c

-- The run ends behind `c` cycles, and behind no other number of them.
pub record InorderEndsOnce (s : Setup) (c : ℕ) : Type 0 where
  pub first : IsInorderFirstEnd s c
  pub only : (k : ℕ) → IsInorderFirstEnd s k → k ≡ c
  -- it doesn't go beyond its limit
  pub within : c ≤ s.cycles
  -- until then each cycle is counted, and from then on the machine stands still
  pub counted : (k : ℕ) → k ≤ c → (inorder s k).machine.cycle ≡ k
  pub still : (k : ℕ) → c ≤ k → inorder s k ≡ inorder s c
  -- so what stands there at the limit is what that cycle left
  pub reported : inorder_final s s.cycles ≡ inorder_final s c
  pub written : inorder_text s s.cycles ≡ inorder_text s c

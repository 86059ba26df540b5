-- When a run ends.
use Rattle.std.specs.Prelude.{◌≡◌, ℕ, ◌≤◌, ◌<◌, Bool, true, false}
use Rattle.mono_model.specs.declared.setup.Setup.{Setup}
use Rattle.mono_model.specs.Final.{has_ended}
use Rattle.mono_model.specs.Cycle.{mono, final}
use Rattle.mono_model.specs.Report.{text}

-- a run has ended behind `c` cycles, and behind fewer it had not
pub record IsFirst (has_ended : ℕ → Bool) (c : ℕ) : Type 0 where
  pub ended : has_ended c ≡ true
  pub before : (k : ℕ) → k < c → has_ended k ≡ false

abbrev pub IsFirstEnd : Setup → ℕ → Type 0
IsFirstEnd s c = IsFirst (λ k. has_ended (mono s k).end) c

-- The run ends behind `c` cycles, and behind no other number of them.
pub record EndsOnce (s : Setup) (c : ℕ) : Type 0 where
  pub first : IsFirstEnd s c
  pub only : (k : ℕ) → IsFirstEnd s k → k ≡ c
  -- it doesn't go beyond its limit
  pub within : c ≤ s.cycles
  -- until then each cycle is counted, and from then on the machine stands still
  pub counted : (k : ℕ) → k ≤ c → (mono s k).cycle ≡ k
  pub still : (k : ℕ) → c ≤ k → mono s k ≡ mono s c
  -- so what stands there at the limit is what that cycle left
  pub reported : final s s.cycles ≡ final s c
  pub written : text s s.cycles ≡ text s c

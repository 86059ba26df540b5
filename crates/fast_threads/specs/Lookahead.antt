-- How far the functional side may run ahead.
use Rattle.std.specs.Prelude.{◌≡◌, ℕ, ◌≤◌, ◌<◌, ◌+◌, ◌*◌}
use Rattle.fast_threads.specs.declared.lookahead.Lookahead.{Lookahead}

-- no order is waited for, and the allowance is the greatest
pub record IsWide (l : Lookahead) : Type 0 where
  pub patience : l.patience ≡ 0
  pub allowed : l.allowed ≡ 512

-- The allowance grew: it doubles up to 64, and goes on one by one up to the greatest.
pub record IsWidened (old new : ℕ) : Type 0 where
  pub doubles : old < 64 → new ≡ old * 2
  pub grows : 64 ≤ old → old < 512 → new ≡ old + 1
  pub most : 512 ≤ old → new ≡ 512

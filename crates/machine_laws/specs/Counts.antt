-- What a run counts.
use Rattle.std.specs.Prelude.{◌≡◌, ℕ, ◌+◌, ◌≤◌, length}
use Rattle.mono_model.specs.Demand.{Demand}

-- after so many steps
pub record AreCounted (k : ℕ) (d : Demand) : Type 0 where
  -- each record that was fetched was committed, was squashed or is in the window
  pub records : d.machine.counts.fetched ≡ d.to_commit + d.machine.counts.squashed + length d.machine.window
  -- what happens at most once in a step
  pub fetched : d.machine.counts.fetched ≤ k
  pub interrupts : d.machine.counts.interrupts ≤ k
  pub replays : d.machine.counts.replays ≤ k
  pub mispredicted : d.machine.counts.mispredicted ≤ k
  -- what is counted of records that leave
  pub exceptions : d.machine.counts.exceptions ≤ d.to_commit
  pub branches : d.machine.counts.branches ≤ d.to_commit

-- Where the numbers of the timing side are small enough that none of a phase's sums leaves 64 bits; and its slots stand in
-- the order of their fetch.
use Rattle.std.specs.Prelude.{ℕ, ◌+◌, ◌≤◌, ◌<◌, ◌^◌, List, [], ◌∷◌}
use Rattle.reorder_buffer.specs.declared.slot.Slot.{Slot}
use Rattle.timing_side.specs.Timing.{Timing}

-- each slot was fetched no earlier than the one before it, the first no earlier than in cycle `from`, and none later than
-- in cycle `to`
abbrev pub IsInOrder : ℕ → ℕ → List Slot → Type 0
IsInOrder from to [] = from ≤ to
IsInOrder from to (slot ∷ rest) = (from ≤ slot.fetched) × IsInOrder slot.fetched to rest

-- the cycle, the numbers and all counts are below a limit, and the slots stand in the order of their fetch
pub record IsBelow (limit : ℕ) (t : Timing) : Type 0 where
  pub cycle : t.cycle < limit
  pub to_commit : t.to_commit < limit
  pub resume : t.resume < limit
  pub exceptions : t.counts.exceptions < limit
  pub interrupts : t.counts.interrupts < limit
  pub replays : t.counts.replays < limit
  pub fetched : t.counts.fetched < limit
  pub squashed : t.counts.squashed < limit
  pub branches : t.counts.branches < limit
  pub mispredicted : t.counts.mispredicted < limit
  pub retired : t.retired < limit
  pub output : t.output < limit
  pub order : IsInOrder 0 t.cycle t.slots

abbrev pub IsSmall : Timing → Type 0
IsSmall t = IsBelow (2 ^ 63) t

-- small, but for what a phase has added so far
abbrev pub IsAlmostSmall : Timing → Type 0
IsAlmostSmall t = IsBelow (2 ^ 63 + 2 ^ 32) t

use Rattle.std.specs.Prelude.{ℕ, ◌+◌, ◌≤◌, nat_le, Bool, ◌&&◌}
use Rattle.fsim_base.specs.declared.access.RamRange.{RamRange}

-- `count` bytes from `addr` all lie in RAM; sums don't wrap
abbrev pub IsInside : RamRange → ℕ → ℕ → Type 0
IsInside ram addr count = (ram.base ≤ addr) × (addr + count ≤ ram.base + ram.size)

-- the same as a test
abbrev pub is_inside : RamRange → ℕ → ℕ → Bool
is_inside ram addr count = nat_le ram.base addr && nat_le (addr + count) (ram.base + ram.size)

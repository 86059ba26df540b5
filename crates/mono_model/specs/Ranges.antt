-- The ranges of the parameters of a machine file, by kinds.
use Rattle.std.specs.Prelude.{ℕ, ◌+◌, ◌^◌, ◌%◌, ◌==◌, ◌&&◌, nat_le, Bool}
use Rattle.std.specs.Int.{is_power_of_two}

-- from `low` to `high`
abbrev pub is_between : ℕ → ℕ → ℕ → Bool
is_between low high n = nat_le low n && nat_le n high

-- a power of two from `low` to `high`
abbrev pub is_power_between : ℕ → ℕ → ℕ → Bool
is_power_between low high n = is_between low high n && is_power_of_two n

-- pages of 4,096 bytes that end below 2^32
abbrev pub is_ram : ℕ → ℕ → Bool
is_ram base size =
    is_between 0x20000000 0xfffff000 base && base % 4096 == 0 && is_between 4096 67108864 size && size % 4096 == 0 && nat_le (base + size) (2 ^ 32)

-- so many units with this latency
abbrev pub is_unit : ℕ → ℕ → Bool
is_unit count latency = is_between 1 8 count && is_between 1 64 latency

-- a cache with at most so many sets
abbrev pub is_cache : ℕ → ℕ → ℕ → ℕ → ℕ → Bool
is_cache most_sets line sets ways miss = is_power_between 4 256 line && is_power_between 1 most_sets sets && nat_le ways 16 && nat_le miss 1000

-- The positions of a window: how many they are, and which one a mask gives.
use Rattle.std.proofs.Common.{◌≡◌, ℕ, zero, suc, ◌+◌, ◌-◌, ◌/◌, ◌%◌, ◌^◌, ◌<◌, ◌≤◌, max, inl, inr, arith, ap, sym, ◌∙◌, pow_pos, pow_mono}
use Rattle.std.specs.Prelude.{bit_and}
use Rattle.std.specs.Int.{IsPowerOfTwo, IsNextPowerOfTwo}
use Rattle.std.proofs.lemmas.Bool.{cases_lt}
use Rattle.std.proofs.lemmas.Nat.{and_mask}
use Rattle.reorder_buffer.specs.Window.{position_of, doubled_to, room_of}

-- there is one
pub some_position : (room : ℕ) → IsPowerOfTwo room → 0 < room
some_position room power = omega (arith, power.1, pow_pos power.0)

-- a power of two that fits 32 bits
pub half_fits : (room : ℕ) → IsPowerOfTwo room → room < 2 ^ 32 → room ≤ 2 ^ 31
half_fits room power below = elim (cases_lt power.0 32) [
  | inl few ↦ let most : 2 ^ power.0 ≤ 2 ^ 31 = pow_mono {j = 31} (omega (arith, few)) in omega (arith, power.1, most)
  | inr many ↦ let least : 2 ^ 32 ≤ 2 ^ power.0 = pow_mono {i = 32} many in absurd (omega (arith, power.1, least, below))
]

-- the mask gives the position
pub masked_position : (mask n : ℕ) → IsPowerOfTwo (mask + 1) → bit_and n mask ≡ position_of (mask + 1) n
masked_position mask n power =
    let e : mask ≡ 2 ^ power.0 - 1 = omega (arith, power.1) in
    ap (bit_and n) e ∙ and_mask n power.0 ∙ ap (λ k. n % k) (sym power.1)

-- a power that is the capacity or more, and no more than the least one, is that
reached : (capacity k least : ℕ) → k ≤ least → capacity ≤ 2 ^ k → 2 ^ least / 2 < max 1 capacity → k ≡ least
reached capacity k least within enough low = elim (cases_lt k least) [
  | inl less ↦
      let most : 2 ^ suc k ≤ 2 ^ least = pow_mono {j = least} (omega (arith, less)) in
      let some = pow_pos k in
      absurd (grind (arith, most, some, enough, low))
  | inr others ↦ omega (arith, within, others)
]

-- doublings come to the least power
doubles : (capacity doublings k least : ℕ) → k ≤ least → capacity ≤ doublings + 2 ^ k → capacity ≤ 2 ^ least → 2 ^ least / 2 < max 1 capacity
    → 2 ^ least ≡ doubled_to capacity doublings (2 ^ k)
doubles capacity zero k least within few enough low = ap (λ j. 2 ^ j) (sym (reached capacity k least within (omega (arith, few)) low))
doubles capacity (suc doublings) k least within few enough low = elim (cases_lt (2 ^ k) capacity) [
  | inl below ↦
      let more : suc k ≤ least = elim (cases_lt k least) [
        | inl less ↦ omega (arith, less)
        | inr others ↦ let same : k ≡ least = omega (arith, within, others) in absurd (let e : 2 ^ k ≡ 2 ^ least = ap (λ j. 2 ^ j) same in omega (arith, e, below, enough))
      ]
      in
      let rest = doubles capacity doublings (suc k) least more (omega (arith, few, pow_pos k)) enough low in
      grind (arith, below, rest)
  | inr reaches ↦
      let same = reached capacity k least within (omega (arith, reaches)) low in
      let here : 2 ^ least ≡ 2 ^ k = ap (λ j. 2 ^ j) (sym same) in
      grind (arith, reaches, here)
]

-- the least power of two that is the capacity or more is one
pub the_room : (capacity room : ℕ) → IsNextPowerOfTwo capacity room → room ≡ room_of capacity
unfolding room_of
the_room capacity room next =
    let least = next.0.0 in
    let is : room ≡ 2 ^ least = next.0.1 in
    is ∙ doubles capacity capacity 0 least (omega arith) (omega arith) (omega (arith, is, next.1)) (rw is at next.2)

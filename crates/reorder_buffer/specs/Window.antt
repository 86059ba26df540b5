-- The instructions in the window (Hennessy and Patterson, Computer Architecture, section 3.6, the reorder buffer).
use Rattle.std.specs.Prelude.{◌≡◌, ◌≢◌, ℕ, zero, suc, ◌+◌, ◌-◌, ◌*◌, ◌/◌, ◌%◌, if◌then◌else◌, max, List, Option, IfSome, nat_lt, nat_le, length, filter, count_by, AllPairs, slice_get, ◌<◌, ◌≤◌, ◌^◌, ◌++◌, take, drop}
use Rattle.std.specs.List.{AllAdjacentBelow}
use Rattle.std.specs.Int.{IsPowerOfTwo}
use Rattle.reorder_buffer.specs.declared.slot.Slot.{Slot}

-- how many slots a window has room for, and those that it holds, the oldest first
pub record Contents : Type 0 where
  pub capacity : ℕ
  pub slots : List Slot

-- each number is one above that of the slot in front
abbrev pub IsConsecutive : List Slot → Type 0
IsConsecutive slots = AllAdjacentBelow (λ older younger. younger.number ≡ older.number + 1) slots (length slots)

-- the youngest slot, where there is one
abbrev pub youngest : List Slot → Option Slot
youngest slots = slice_get slots (length slots - 1)

-- the index of an instruction's slot: the numbers in the window follow one another, at most `capacity` of them, so each
-- has its own
abbrev pub index_of : ℕ → ℕ → ℕ
index_of capacity number = number % capacity

-- a number that is doubled until it is the capacity or more, at most so many times
abbrev pub doubled_to : ℕ → ℕ → ℕ → ℕ
doubled_to capacity zero room = room
doubled_to capacity (suc doublings) room = if nat_le capacity room then room else doubled_to capacity doublings (2 * room)

-- how many positions a window has: the least power of two that is the capacity or more
unfoldable pub room_of : ℕ → ℕ
room_of capacity = doubled_to capacity capacity 1

-- the position of an instruction's slot: where it stands in a vector of `room` items
abbrev pub position_of : ℕ → ℕ → ℕ
position_of room number = number % room

-- the position of the oldest slot, where there is one
abbrev pub IsFirst : List Slot → ℕ → ℕ → Type 0
IsFirst slots room first = IfSome (slice_get slots 0) (λ oldest. first ≡ position_of room oldest.number)

-- no two slots have one index
abbrev pub HasOwnIndices : ℕ → List Slot → Type 0
HasOwnIndices capacity slots = AllPairs (λ older younger. index_of capacity older.number ≢ index_of capacity younger.number) slots

-- no two slots have one position
abbrev pub HasOwnPositions : ℕ → List Slot → Type 0
HasOwnPositions room slots = AllPairs (λ older younger. position_of room older.number ≢ position_of room younger.number) slots

-- the slots whose numbers are below n
abbrev pub below_number : ℕ → List Slot → List Slot
below_number n slots = filter (λ s. nat_lt s.number n) slots

-- how many slots have the number n or one above
abbrev pub count_from : ℕ → List Slot → ℕ
count_from n slots = count_by (λ s. nat_le n s.number) slots

-- the `count` items from position `first` on, going on at 0 behind the last position
unfoldable pub ring_slots : List Slot → ℕ → ℕ → List Slot
ring_slots items first count = take count (drop first items ++ take first items)

-- what holds of the slots from position `first` on, in a vector of `room` items
pub record IsRing (room first count : ℕ) (slots : List Slot) : Type 0 where
  pub within : count ≤ room
  pub held : length slots ≡ count
  pub inside : 0 < room → first < room
  pub first_is : IsFirst slots room first
  pub consecutive : IsConsecutive slots

-- what holds of the positions, which are as many as the vector has items
pub record HasPositions (room capacity mask : ℕ) : Type 0 where
  -- one for each slot that has room
  pub enough : capacity ≤ room
  -- so many that a mask takes the remainder
  pub power : IsPowerOfTwo room
  -- and no more than that takes
  pub least : room / 2 < max 1 capacity
  -- the mask is the last one
  pub masked : mask + 1 ≡ room
  -- so few that a position and a place add up to less than 2 ^ 32
  pub fits : room ≤ 2 ^ 31

-- what holds of the fields of a window that holds these slots
pub record IsWindow (room capacity mask first count : ℕ) (slots : List Slot) : Type 0 where
  pub positions : HasPositions room capacity mask
  -- the slots have room
  pub within : count ≤ capacity
  -- and stand one behind the other from `first` on
  pub ring : IsRing room first count slots

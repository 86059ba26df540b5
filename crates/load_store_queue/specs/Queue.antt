-- The stores in the window and which are done. A load waits for the stores that are older than it (Hennessy and
-- Patterson, Computer Architecture, section 3.6, loads and stores in the reorder buffer).
use Rattle.std.specs.Prelude.{◌≡◌, ℕ, ◌^◌, ◌<◌, ◌-◌, true, List, Option, IsTrue, nat_lt, ◌==◌, if◌then◌else◌, length, filter, map, All, AllPairs, slice_get}
use Rattle.std.specs.List.{prefix_len}
use Rattle.load_store_queue.specs.declared.queued.Queued.{Queued}

-- how many stores a queue has room for, and those that it holds, the oldest first
pub record Contents : Type 0 where
  pub capacity : ℕ
  pub stores : List Queued

-- each store's number is below that of every later one
abbrev pub IsRising : List Queued → Type 0
IsRising stores = AllPairs (λ older younger. older.number < younger.number) stores

-- the youngest store, where there is one
abbrev pub youngest : List Queued → Option Queued
youngest stores = slice_get stores (length stores - 1)

-- a store after the one of this number was marked as done
abbrev pub done_if : ℕ → Queued → Queued
done_if number store = if store.number == number then record store { is_done = true } else store

-- the stores after the one of this number was marked as done
abbrev pub marked : ℕ → List Queued → List Queued
marked number stores = map (done_if number) stores

-- each store of a lower number is done
abbrev pub AreOlderDone : ℕ → List Queued → Type 0
AreOlderDone number stores = All (λ q. q.number < number → IsTrue q.is_done) stores

-- the stores whose numbers are below this one
abbrev pub below_number : ℕ → List Queued → List Queued
below_number number stores = filter (λ q. nat_lt q.number number) stores

-- how many of the oldest stores are done in a row
abbrev pub done_in_a_row : List Queued → ℕ
done_in_a_row stores = prefix_len (λ q. q.is_done) stores

-- what is always so of a queue's fields
pub record IsInOrder (capacity settled : ℕ) (stores : List Queued) : Type 0 where
  pub room : capacity < 2 ^ 32
  pub rising : IsRising stores
  pub settled_is : settled ≡ done_in_a_row stores

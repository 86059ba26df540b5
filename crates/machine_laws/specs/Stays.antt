-- What is committed stays.
use Rattle.std.specs.Prelude.{◌≡◌, ℕ, ◌≤◌, ◌<◌, ◌==◌, true, if◌then◌else◌, List, [], ◌∷◌, ◌++◌}
use Rattle.rollback_cmds.specs.declared.order.Order.{Order}
use Rattle.rollback_cmds.specs.declared.order.Order.TheVariants.{Set, Commit, Interrupt, Time, Stop, Sync}
use Rattle.mono_model.specs.declared.setup.Setup.{Setup}
use Rattle.mono_model.specs.Arch.{Arch, interrupted}
use Rattle.mono_model.specs.Path.{path}
use Rattle.mono_model.specs.Demand.{Place, told}
use Rattle.mono_model.specs.Split.{Split, is_boundary}

-- a state with the traps of those interrupts taken, among orders with the newest first, that come before instruction `n`
abbrev pub with_interrupts : List Order → ℕ → Arch → Arch
with_interrupts [] n a = a
with_interrupts (Set m addr ∷ os) n a = with_interrupts os n a
with_interrupts (Commit m ∷ os) n a = with_interrupts os n a
with_interrupts (Interrupt m ∷ os) n a = if m == n then interrupted (with_interrupts os n a) else with_interrupts os n a
with_interrupts (Time m v ∷ os) n a = with_interrupts os n a
with_interrupts (Stop m ∷ os) n a = with_interrupts os n a
with_interrupts (Sync m ∷ os) n a = with_interrupts os n a

-- the path up to the next instruction to commit, at a place and at a later one: below it the path stays
abbrev pub StaysBelow : Setup → Place → Place → Type 0
StaysBelow s p q = (n : ℕ) → n < p.run.demand.to_commit → path s (told q) n ≡ path s (told p) n

-- and at it only interrupts change the path, each by its trap
pub record StaysAt (s : Setup) (p q : Place) : Type 0 where
  -- the orders told since, the newest first
  pub later : List Order
  pub orders : told q ≡ later ++ told p
  pub state : path s (told q) p.run.demand.to_commit ≡ with_interrupts later p.run.demand.to_commit (path s (told p) p.run.demand.to_commit)

-- The same of a functional side: under the orders `os` it has committed the instructions below `n`, and after these it
-- obeys `later`, both lists with the newest first.
abbrev pub KeepsBelow : Setup → ℕ → List Order → List Order → Type 0
KeepsBelow s n os later = (i : ℕ) → i < n → path s (later ++ os) i ≡ path s os i

abbrev pub KeepsAt : Setup → ℕ → List Order → List Order → Type 0
KeepsAt s n os later = path s (later ++ os) n ≡ with_interrupts later n (path s os n)

-- From one split state to a later one the functional side keeps what it has committed.
pub record CommittedStays (s : Setup) (x y : Split) : Type 0 where
  -- the orders obeyed since, the newest first
  pub later : List Order
  pub obeyed : y.obeyed ≡ later ++ x.obeyed
  -- no number that is committed is taken back
  pub number : x.committed_number ≤ y.committed_number
  -- below it the path stays
  pub below : KeepsBelow s x.committed_number x.obeyed later
  -- and at it, from a boundary on, only interrupts change the path, each by its trap
  pub at : is_boundary x ≡ true → KeepsAt s x.committed_number x.obeyed later

-- The path of the functional side: the instructions one after the other under the orders obeyed so far, the newest order
-- first. Nothing is undone here: a path is computed from the start.
use Rattle.std.specs.Prelude.{◌≤◌, ℕ, zero, suc, ◌+◌, ◌-◌, ◌==◌, ◌||◌, nat_lt, if◌then◌else◌, Bool, true, false, Option, Some, None, List, [], ◌∷◌}
use Rattle.rollback_cmds.specs.declared.order.Order.{Order}
use Rattle.rollback_cmds.specs.declared.order.Order.TheVariants.{Set, Commit, Interrupt, Time, Stop, Sync}
use Rattle.rollback_cmds.specs.Order.{opens_epoch_of}
use Rattle.trace_entry.specs.declared.Entry.{Entry}
use Rattle.mono_model.specs.declared.setup.Setup.{Setup}
use Rattle.mono_model.specs.Arch.{Arch, start, interrupted, synced}
use Rattle.mono_model.specs.Sequence.{seq, entry_at}

-- the time that an instruction was given: by the newest order that is a Time or an Interrupt, if that is a Time for it
abbrev pub time_of : List Order → ℕ → Option ℕ
time_of [] n = None
time_of (Set m addr ∷ os) n = time_of os n
time_of (Commit m ∷ os) n = time_of os n
time_of (Interrupt m ∷ os) n = None
time_of (Time m v ∷ os) n = if n == m then Some v else None
time_of (Stop m ∷ os) n = time_of os n
time_of (Sync m ∷ os) n = time_of os n

-- `count` steps from instruction `first` on, each with its time
abbrev pub runs : Setup → (ℕ → Option ℕ) → ℕ → ℕ → Arch → Arch
runs s times first zero a = a
runs s times first (suc count) a = seq s (times (first + count)) (runs s times first count a)

-- a path that is another one below a number, and goes on from a state at it
abbrev pub spliced : Setup → (ℕ → Option ℕ) → (ℕ → Arch) → ℕ → Arch → ℕ → Arch
spliced s times below m a n = if nat_lt n m then below n else runs s times m (n - m) a

-- the state before instruction `n` under a list of orders, the newest first
unfoldable pub path : Setup → List Order → ℕ → Arch
path s [] n = runs s (λ k. None) 0 n (start s)
path s (Set m addr ∷ os) n = spliced s (time_of os) (path s os) m (record (path s os m) { pc = addr }) n
path s (Commit m ∷ os) n = path s os n
path s (Interrupt m ∷ os) n = spliced s (time_of (Interrupt m ∷ os)) (path s os) m (interrupted (path s os m)) n
path s (Time m v ∷ os) n = spliced s (time_of (Time m v ∷ os)) (path s os) m (path s os m) n
path s (Stop m ∷ os) n = path s os n
path s (Sync m ∷ os) n = spliced s (time_of os) (path s os) m (synced s (path s os m)) n

-- how many orders opened an epoch
abbrev pub openings : List Order → ℕ
openings [] = 0
openings (o ∷ os) = (if opens_epoch_of o then 1 else 0) + openings os

-- what is told of instruction `n` under a list of orders
unfoldable pub entry : Setup → List Order → ℕ → Entry
entry s os n = entry_at s (time_of os n) (path s os n) n (openings os)

-- the path goes on by execution from instruction `n`: the newest order that bent it speaks of `n` or an earlier instruction
abbrev pub GoesOn : List Order → ℕ → Type 0
GoesOn [] n = Unit {0}
GoesOn (Set m addr ∷ os) n = m ≤ n
GoesOn (Commit m ∷ os) n = GoesOn os n
GoesOn (Interrupt m ∷ os) n = m ≤ n
GoesOn (Time m v ∷ os) n = m ≤ n
GoesOn (Stop m ∷ os) n = GoesOn os n
GoesOn (Sync m ∷ os) n = m ≤ n

-- whether an order stops the functional side, and whether one of a list does
abbrev pub stops : Order → Bool
stops (Set m addr) = false
stops (Commit m) = false
stops (Interrupt m) = false
stops (Time m v) = false
stops (Stop m) = true
stops (Sync m) = false

abbrev pub has_stop : List Order → Bool
has_stop [] = false
has_stop (o ∷ os) = stops o || has_stop os

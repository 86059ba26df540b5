-- What a functional side stands for: a setup, the orders obeyed, and a position on their path.
use Rattle.std.specs.Prelude.{◌≡◌, ◌⊎◌, ◌≤◌, ◌<◌, ℕ, zero, suc, ◌+◌, ◌-◌, ◌^◌, ◌==◌, ◌||◌, if◌then◌else◌, Bool, true, false, IfSome, List, [], ◌∷◌, ◌++◌, length, filter, nat_le, Option, Some, None}
use Rattle.fsim_base.specs.declared.access.RamRange.{RamRange}
use Rattle.rollback_cmds.specs.declared.order.Order.{Order}
use Rattle.rollback_cmds.specs.declared.order.Order.TheVariants.{Set, Commit, Interrupt, Time, Stop, Sync}
use Rattle.undo_journal.specs.declared.past.Past.{Past}
use Rattle.undo_journal.specs.Journal.{from_number}
use Rattle.mono_model.specs.declared.setup.Setup.{Setup}
use Rattle.mono_model.specs.Setup.{ram_range}
use Rattle.mono_model.specs.Arch.{Arch}
use Rattle.mono_model.specs.Effect.{effect}
use Rattle.rollback_cmds.specs.Order.{opens_epoch_of}
use Rattle.trace_entry.specs.declared.Entry.{Entry}
use Rattle.mono_model.specs.Path.{path, entry, time_of, openings, GoesOn, stops, has_stop}
use Rattle.mono_model.specs.Split.{room}
use Rattle.func_model.specs.declared.walk.Walk.{Walk}
use Rattle.phys_mem.specs.Ram.{exec_of, range_of}
use Rattle.func_model.specs.Hart.{arch_of, found_by}
use Rattle.func_model.specs.Steps.{result_of}
use Rattle.func_model.specs.Contents.{ContentsStandFor, output_in}
use Rattle.func_model.specs.Undo.{undone, IsRestorable}

-- one undo step leads back along a path, from behind instruction `n` to before it
pub record IsStep (range : RamRange) (at : ℕ → Arch) (n : ℕ) (past : Past) : Type 0 where
  pub number : past.number ≡ n
  pub back : undone range past (at (suc n)) ≡ at n
  pub restorable : IsRestorable past

-- undo steps, the oldest first, lead back along a path to before instruction `n`
abbrev pub LeadsBack : RamRange → (ℕ → Arch) → ℕ → List Past → Type 0
LeadsBack range at n [] = Unit {0}
LeadsBack range at n (past ∷ later) = IsStep range at n past × LeadsBack range at (suc n) later

-- the time of an instruction, where one was given
abbrev pub given_at : Option (ℕ × ℕ) → ℕ → Option ℕ
given_at None n = None
given_at (Some given) n = if n == given.0 then Some given.1 else None

-- the number that is committed once an order is obeyed
abbrev pub committed_by : Order → ℕ → ℕ
committed_by (Set m addr) committed = committed
committed_by (Commit m) committed = m
committed_by (Interrupt m) committed = m
committed_by (Time m v) committed = committed
committed_by (Stop m) committed = committed
committed_by (Sync m) committed = m

-- the number that a list of orders commits
abbrev pub committed_of : List Order → ℕ
committed_of [] = 0
committed_of (o ∷ os) = committed_by o (committed_of os)

-- The side's contents are those of the path before the instruction at its position, and its journal leads back from there
-- to its committed number.
pub record IsOnPath {D : Type 0} (s : Setup) (os : List Order) (walk : Walk D) : Type 0 where
  pub contents : ContentsStandFor s (path s os walk.position) walk.contents
  pub back : LeadsBack (ram_range s.params) (path s os) walk.committed walk.journal.steps
  pub held : length walk.journal.steps ≡ walk.position - walk.committed
  pub capacity : walk.journal.room ≡ room s
  pub limit : walk.limit ≡ s.output
  pub space : walk.contents.hart.room ≡ s.output + room s
  pub given : (n : ℕ) → given_at walk.given n ≡ time_of os n
  pub epoch : walk.epoch ≡ openings os
  -- what is committed has room in the output
  pub within : length (path s os walk.committed).output ≤ s.output

-- It stands for the setup, the orders and its position: what is committed and whether it is stopped is as the orders say,
-- and where it isn't stopped, the path goes on from there by execution.
pub record WalkStandsFor {D : Type 0} (s : Setup) (os : List Order) (walk : Walk D) : Type 0 where
  pub holds : IsOnPath s os walk
  pub done : walk.committed ≡ committed_of os
  pub stopped : walk.is_stopped ≡ has_stop os
  pub on : walk.is_stopped ≡ false → GoesOn os walk.position

-- there are a setup and orders for which it stands
pub record IsStanding {D : Type 0} (walk : Walk D) : Type 0 where
  pub setup : Setup
  pub orders : List Order
  pub stands : WalkStandsFor setup orders walk

pub record IsOnSomePath {D : Type 0} (walk : Walk D) : Type 0 where
  pub setup : Setup
  pub orders : List Order
  pub holds : IsOnPath setup orders walk

-- a walk can be taken to instruction `n`: back by its journal, or on by execution, where it isn't stopped
pub record CanReach {D : Type 0} (n : ℕ) (walk : Walk D) : Type 0 where
  pub back : n < walk.position → IsOnSomePath walk
  pub on : walk.position < n → IsStanding walk
  pub running : walk.position < n → walk.is_stopped ≡ false

-- an order can take a walk to instruction `n`: it can be taken there, what is committed stays, and the journal has room up to there
pub record CanGoTo {D : Type 0} (n : ℕ) (walk : Walk D) : Type 0 where
  pub reach : CanReach n walk
  pub from : walk.committed ≤ n
  pub room : n ≤ walk.committed + walk.journal.room
  pub bounded : n < 2 ^ 63

-- a walk whose run is over: it is stopped at what is committed
pub record IsOver {D : Type 0} (walk : Walk D) : Type 0 where
  pub stopped : walk.is_stopped ≡ true
  pub here : walk.position ≡ walk.committed

-- what a walk keeps as it goes back or on
pub record IsSameBut {D : Type 0} (old new : Walk D) : Type 0 where
  pub committed : new.committed ≡ old.committed
  pub room : new.journal.room ≡ old.journal.room
  pub running : new.is_stopped ≡ old.is_stopped
  pub epoch : new.epoch ≡ old.epoch
  pub limit : new.limit ≡ old.limit

-- nothing was produced and no order obeyed
pub record IsFresh {D : Type 0} (walk : Walk D) : Type 0 where
  pub position : walk.position ≡ 0
  pub committed : walk.committed ≡ 0
  pub running : walk.is_stopped ≡ false
  pub epoch : walk.epoch ≡ 0

-- what an order that opens an epoch makes of position, committed number and stop
pub record IsMoved {D : Type 0} (n done : ℕ) (halts : Bool) (old new : Walk D) : Type 0 where
  pub position : new.position ≡ n
  pub committed : new.committed ≡ done
  pub stopped : new.is_stopped ≡ halts
  pub epoch : new.epoch ≡ old.epoch + 1
  pub room : new.journal.room ≡ old.journal.room
  pub limit : new.limit ≡ old.limit

-- one instruction further
pub record IsForward {D : Type 0} (old new : Walk D) : Type 0 where
  pub position : new.position ≡ old.position + 1
  pub others : IsSameBut old new

-- nothing is produced: the side is stopped, or its journal is full
abbrev pub IsAtRest : {D : Type 0} → Walk D → Type 0
IsAtRest walk = (walk.is_stopped ≡ true) ⊎ (length walk.journal.steps ≡ walk.journal.room)

-- a walk behind an instruction that was executed, with what takes that back, unless it is committed
abbrev pub noted_in : {D : Type 0} → Past → Walk D → Walk D
noted_in past walk = record walk {
  journal = if nat_le walk.committed walk.position then record walk.journal { steps = walk.journal.steps ++ past ∷ [] } else walk.journal;
  position = walk.position + 1;
}

-- the entry of the path at the position, if one was produced
pub record IsProduced {D : Type 0} (s : Setup) (os : List Order) (old new : Walk D) (result : Option Entry) : Type 0 where
  pub entry_is : IfSome result (λ e. e ≡ entry s os old.position)
  pub stands : WalkStandsFor s os new

-- the entry that a place has, if one was written there
abbrev pub entry_if : Bool → Entry → Option Entry
entry_if written place = if written then Some place else None

-- one instruction, by the addresses of RAM and of text alone
unfoldable pub seq_by : RamRange → (ℕ → Bool) → Option ℕ → Arch → Arch
seq_by range is_text time a =
    effect (found_by is_text a.text a.pc) (result_of range (found_by is_text a.text a.pc) time a) time a.pc a

-- so many instructions from number `n` on
unfoldable pub ahead : RamRange → (ℕ → Bool) → (ℕ → Option ℕ) → ℕ → ℕ → Arch → Arch
ahead range is_text times n zero a = a
ahead range is_text times n (suc count) a = seq_by range is_text (times (n + count)) (ahead range is_text times n count a)

-- how many bytes undo steps take back
abbrev pub bytes_sent : List Past → ℕ
bytes_sent steps = length (filter (λ past. past.out) steps)

-- how many bytes of output there are before instruction `n`: counted back by the journal, or ahead by execution
unfoldable pub bytes_before : {D : Type 0} → Walk D → ℕ → ℕ
bytes_before walk n =
    if nat_le n walk.position
    then length (output_in walk.contents) - bytes_sent (from_number n walk.journal.steps)
    else length (ahead (range_of walk.contents.hart.memory) (exec_of walk.contents.hart.memory) (given_at walk.given) walk.position
    (n - walk.position) (arch_of walk.contents.hart walk.contents.bus)).output

-- what is committed by an order has room in the output
abbrev pub HasRoom : {D : Type 0} → Order → Walk D → ℕ → Type 0
HasRoom (Set m addr) walk limit = Unit {0}
HasRoom (Commit m) walk limit = bytes_before walk m ≤ limit
HasRoom (Interrupt m) walk limit = bytes_before walk m ≤ limit
HasRoom (Time m v) walk limit = Unit {0}
HasRoom (Stop m) walk limit = Unit {0}
HasRoom (Sync m) walk limit = bytes_before walk m ≤ limit

-- the position once an order is obeyed
abbrev pub position_by : Order → ℕ → ℕ
position_by (Set m addr) position = m
position_by (Commit m) position = position
position_by (Interrupt m) position = m
position_by (Time m v) position = m
position_by (Stop m) position = m
position_by (Sync m) position = m

-- what an order makes of the numbers
pub record IsObeyed {D : Type 0} (order : Order) (old new : Walk D) : Type 0 where
  pub position : new.position ≡ position_by order old.position
  pub committed : new.committed ≡ committed_by order old.committed
  pub stopped : new.is_stopped ≡ (stops order || old.is_stopped)
  pub epoch : new.epoch ≡ old.epoch + (if opens_epoch_of order then 1 else 0)
  pub room : new.journal.room ≡ old.journal.room
  pub limit : new.limit ≡ old.limit

-- The law of the split state: what holds of functional side, timing side, and the entries and orders between them, after
-- every list of events.
use Rattle.std.specs.Prelude.{◌≡◌, ℕ, ◌+◌, ◌^◌, ◌≤◌, ◌<◌, true, false, None, IfSome, List, [], ◌∷◌, ◌++◌, reverse, length}
use Rattle.rollback_cmds.specs.declared.order.Order.{Order}
use Rattle.trace_entry.specs.declared.Entry.{Entry}
use Rattle.mono_model.specs.declared.setup.Setup.{Setup}
use Rattle.mono_model.specs.Path.{path, entry, openings, GoesOn, has_stop}
use Rattle.mono_model.specs.Demand.{told, needs_entry, needed_entry, number_of}
use Rattle.mono_model.specs.Split.{Split, room, is_boundary, is_place_boundary, committed}
use Rattle.machine_laws.specs.Numbers.{last_commit, AreAtCommit}
use Rattle.machine_laws.specs.Output.{IsInRoom}
use Rattle.machine_laws.specs.Runs.{IsByCycles}
use Rattle.machine_laws.specs.DemandRun.{DemandRun, mono_run}
use Rattle.machine_laws.specs.Telling.{with_order}

-- The functional side's numbers are as the orders obeyed say.
pub record IsCounted (s : Setup) (x : Split) : Type 0 where
  pub committed : x.committed_number ≡ last_commit x.obeyed
  -- the position is at or above what is committed, as far as the journal has room
  pub least : x.committed_number ≤ x.position
  pub most : x.position ≤ x.committed_number + room s
  pub stopped : x.is_stopped ≡ has_stop x.obeyed
  -- where the side isn't stopped, the path goes on from the position by execution
  pub on : x.is_stopped ≡ false → GoesOn x.obeyed x.position

-- How far its numbers go.
pub record IsSmallIn (s : Setup) (r : DemandRun) (x : Split) : Type 0 where
  pub committed : x.committed_number ≤ r.commits
  pub position : x.position ≤ r.commits + room s
  pub obeyed : openings x.obeyed ≤ openings (told x.place)
  pub epoch : openings (told x.place) ≤ r.bound

-- The functional side may obey an order: it speaks of what isn't committed, and of nothing that was not computed.
pub record MayObey (s : Setup) (x : Split) (o : Order) : Type 0 where
  pub least : x.committed_number ≤ number_of o
  pub most : number_of o ≤ x.position
  pub window : number_of o ≤ x.committed_number + s.params.core_window
  pub running : x.is_stopped ≡ false
  pub output : IsInRoom s x.obeyed o

-- An entry is that of its number under those orders of a list, the newest first, that were there when it was made; its
-- epoch is the number of openings among them.
pub record IsEntry (s : Setup) (os : List Order) (e : Entry) : Type 0 where
  pub later : List Order
  pub before : List Order
  pub orders : os ≡ later ++ before
  pub made : e ≡ entry s before e.number

-- An entry under way: its epoch isn't above the functional side's, and it is the entry of its epoch and number.
pub record IsUnderWayIn (s : Setup) (r : DemandRun) (x : Split) (e : Entry) : Type 0 where
  pub is : IsEntry s (told x.place) e
  pub epoch : e.epoch ≤ openings x.obeyed
  pub named : 1 ≤ s.cycles → e ≡ r.entry_of e.epoch e.number

abbrev pub Each : (Entry → Type 0) → List Entry → Type 0
Each P [] = Unit {0}
Each P (e ∷ es) = P e × Each P es

-- The lists between the sides stay within their lengths.
pub record IsListed (s : Setup) (x : Split) : Type 0 where
  pub entries : length x.entries ≤ s.ring
  pub orders : length x.listed_orders ≤ 64

-- At a boundary all orders are obeyed, and what the functional side has committed is the state of the machine.
pub record IsLevelIn (s : Setup) (r : DemandRun) (x : Split) : Type 0 where
  pub obeyed : x.obeyed ≡ told x.place
  pub to_commit : x.committed_number ≡ x.place.run.demand.to_commit
  pub state : path s x.obeyed x.committed_number ≡ (r.machines x.place.run.demand.machine.cycle).arch

-- The law, where the timing side goes along a demand run.
pub record IsRunIn (s : Setup) (r : DemandRun) (x : Split) : Type 0 where
  -- the timing side is at a place of the demand run
  pub steps : ℕ
  pub at : x.place ≡ r.places steps
  -- the orders told there are those obeyed, those listed and the one in hand
  pub orders : told x.place ≡ with_order x.hand (reverse x.listed_orders ++ x.obeyed)
  -- where a cycle starts and at the end, the machine is that of the run by cycles, and what is committed is its state
  pub machine : is_place_boundary x.place ≡ true → IsByCycles r.machines x.place
  pub state : is_place_boundary x.place ≡ true → committed s x ≡ (r.machines x.place.run.demand.machine.cycle).arch
  pub level : is_boundary x ≡ true → IsLevelIn s r x
  -- the functional side's numbers, and what it needs of the next order
  pub counted : IsCounted s x
  pub kinds : AreAtCommit x.obeyed
  pub small : 1 ≤ s.cycles → IsSmallIn s r x
  pub obeys : (o : Order) (os : List Order) → x.listed_orders ≡ o ∷ os → MayObey s x o
  pub listed : IsListed s x
  -- each entry, listed, computed or held, is that of its number in its epoch
  pub entries : Each (IsUnderWayIn s r x) x.entries
  pub computed : IfSome x.computed (IsUnderWayIn s r x)
  pub holds : IfSome x.held (IsUnderWayIn s r x)
  -- the held entry is the one that the place needs, where all orders of its turn are told
  pub held : x.place.owed ≡ 0 → IfSome x.held (λ e. e ≡ needed_entry s x.place)
  -- and so is the one to be held next
  pub next : (e : Entry) (es : List Entry) → needs_entry x.place ≡ true → x.held ≡ None → x.entries ≡ e ∷ es → e.epoch ≡ openings (told x.place) → e ≡ needed_entry s x.place

-- Of the monolithic machine's demand run.
abbrev pub IsRun : Setup → Split → Type 0
IsRun s x = IsRunIn s (mono_run s) x

-- In a run that is allowed the numbers are small.
pub record IsRanged (x : Split) : Type 0 where
  pub committed : x.committed_number < 2 ^ 62
  pub position : x.position < 2 ^ 62
  pub obeyed : openings x.obeyed < 2 ^ 62
  pub epoch : openings (told x.place) < 2 ^ 62

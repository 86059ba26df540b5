-- The split state: the functional side, the timing side, and the entries and orders under way between them; its six
-- events; and what is committed (Chiou et al., FPGA-Accelerated Simulation Technologies, MICRO 2007).
use Rattle.std.specs.Prelude.{ℕ, zero, suc, ◌+◌, ◌*◌, ◌==◌, ◌&&◌, ◌||◌, not, nat_lt, if◌then◌else◌, Bool, true, false, is_none, Option, Some, None, List, [], ◌∷◌, ◌++◌, length}
use Rattle.rollback_cmds.specs.declared.order.Order.{Order}
use Rattle.rollback_cmds.specs.declared.order.Order.TheVariants.{Set, Commit, Interrupt, Time, Stop, Sync}
use Rattle.rollback_cmds.specs.Order.{opens_epoch_of}
use Rattle.trace_entry.specs.declared.Entry.{Entry}
use Rattle.mono_model.specs.declared.setup.Setup.{Setup}
use Rattle.mono_model.specs.Arch.{Arch}
use Rattle.mono_model.specs.Path.{path, entry, openings}
use Rattle.mono_model.specs.Demand.{At, interrupting, committing, completing, issuing, trying, ending, stopping, halted, Place, place_start, step, told, needs_entry}

pub record Split : Type 0 where
  -- the functional side: the orders obeyed, the newest first; its position; its committed number; the computed entry
  pub obeyed : List Order
  pub position : ℕ
  pub committed_number : ℕ
  pub computed : Option Entry
  pub is_stopped : Bool
  -- the timing side: its place, the entry held for the next try, the order in hand
  pub place : Place
  pub held : Option Entry
  pub hand : Option Order
  -- the entries and orders under way, the first to arrive in front
  pub entries : List Entry
  pub listed_orders : List Order

unfoldable pub split_start : Setup → Split
split_start s = record {
  obeyed = [];
  position = 0;
  committed_number = 0;
  computed = None;
  is_stopped = false;
  place = place_start s;
  held = None;
  hand = None;
  entries = [];
  listed_orders = [];
}

pub data Event : Type 0 where
  compute : Event
  push : Event
  obey : Event
  tick : Event
  take : Event
  send : Event

-- how many steps the functional side may be ahead of what is committed
abbrev pub room : Setup → ℕ
room s = s.params.core_window + s.ring + 2

-- Compute: the entry at the position, where the journal has room.
abbrev pub may_compute : Setup → Split → Bool
may_compute s x = is_none x.computed && not x.is_stopped && nat_lt x.position (x.committed_number + room s)

abbrev pub on_compute : Setup → Split → Split
on_compute s x = if may_compute s x then record x { computed = Some (entry s x.obeyed x.position); position = x.position + 1 } else x

-- Push: the computed entry goes to the end of the list.
abbrev pub pushed : Setup → Option Entry → Split → Split
pushed s None x = x
pushed s (Some e) x = if nat_lt (length x.entries) s.ring then record x { computed = None; entries = x.entries ++ e ∷ [] } else x

-- Obey: the oldest listed order.
abbrev pub goes_to : Order → ℕ → Split → Split
goes_to o n x = record x { obeyed = o ∷ x.obeyed; position = n; computed = None }

abbrev pub obeys : Order → Split → Split
obeys (Set n addr) x = goes_to (Set n addr) n x
obeys (Commit n) x = record x { obeyed = Commit n ∷ x.obeyed; committed_number = n }
obeys (Interrupt n) x = record (goes_to (Interrupt n) n x) { committed_number = n }
obeys (Time n v) x = goes_to (Time n v) n x
obeys (Stop n) x = record (goes_to (Stop n) n x) { is_stopped = true }
obeys (Sync n) x = record (goes_to (Sync n) n x) { committed_number = n }

abbrev pub on_obey : List Order → Split → Split
on_obey [] x = x
on_obey (o ∷ os) x = obeys o (record x { listed_orders = os })

-- Tick: one step of the demand run, where no order is in hand and the entry that the place needs is held.
abbrev pub is_halted : At → Bool
is_halted halted = true
is_halted interrupting = false
is_halted committing = false
is_halted completing = false
is_halted issuing = false
is_halted (trying more) = false
is_halted ending = false
is_halted stopping = false

abbrev pub may_tick : Split → Bool
may_tick x = is_none x.hand && not (is_halted x.place.run.at && x.place.owed == 0) && not (needs_entry x.place && is_none x.held)

-- the order that a step tells, if it tells one
abbrev pub newest : List Order → Option Order
newest [] = None
newest (o ∷ os) = Some o

abbrev pub told_by : Place → Place → Option Order
told_by before after = if length (told before) == length (told after) then None else newest (told after)

-- the held entry: dropped by an order that opens an epoch, spent by a try that appends a record, else kept
abbrev pub opens : Option Order → Bool
opens None = false
opens (Some o) = opens_epoch_of o

abbrev pub has_appended : Place → Place → Bool
has_appended before after = not (after.run.demand.machine.counts.fetched == before.run.demand.machine.counts.fetched)

abbrev pub held_after : Option Order → Place → Place → Option Entry → Option Entry
held_after o before after held = if opens o || has_appended before after then None else held

abbrev pub ticked_to : Place → Split → Split
ticked_to after x =
    let o = told_by x.place after in
    record x { place = after; hand = o; held = held_after o x.place after x.held }

abbrev pub on_tick : Setup → Split → Split
on_tick s x = if may_tick x then ticked_to (step s x.place) x else x

-- Take: the oldest listed entry is held where its epoch is the timing side's, else it is dropped.
abbrev pub may_take : Split → Bool
may_take x = needs_entry x.place && is_none x.held

abbrev pub taken : Entry → List Entry → Split → Split
taken e rest x = record x { entries = rest; held = if e.epoch == openings (told x.place) then Some e else x.held }

abbrev pub on_take : List Entry → Split → Split
on_take [] x = x
on_take (e ∷ rest) x = if may_take x then taken e rest x else x

-- Send: the order in hand goes to the end of the list.
abbrev pub sent : Option Order → Split → Split
sent None x = x
sent (Some o) x = if nat_lt (length x.listed_orders) 64 then record x { hand = None; listed_orders = x.listed_orders ++ o ∷ [] } else x

-- an event that can't happen changes nothing
unfoldable pub event_at : Setup → Event → Split → Split
event_at s compute x = on_compute s x
event_at s push x = pushed s x.computed x
event_at s obey x = on_obey x.listed_orders x
event_at s tick x = on_tick s x
event_at s take x = on_take x.entries x
event_at s send x = sent x.hand x

-- the state after a list of events, from a state on
abbrev pub played : Setup → List Event → Split → Split
played s [] x = x
played s (e ∷ es) x = played s es (event_at s e x)

-- the state after the events, from the start on
abbrev pub run : Setup → List Event → Split
run s events = played s events (split_start s)

-- the committed state: that of the path before the next instruction to commit, under the orders told so far
unfoldable pub committed : Setup → Split → Arch
committed s x = path s (told x.place) x.place.run.demand.to_commit

-- A boundary: the start of a cycle, or the end, with no order in hand or listed.
abbrev pub is_cycle_start : At → Bool
is_cycle_start interrupting = true
is_cycle_start committing = false
is_cycle_start completing = false
is_cycle_start issuing = false
is_cycle_start (trying more) = false
is_cycle_start ending = false
is_cycle_start stopping = true
is_cycle_start halted = true

abbrev pub is_place_boundary : Place → Bool
is_place_boundary p = p.owed == 0 && is_cycle_start p.run.at

abbrev pub is_boundary : Split → Bool
is_boundary x = is_place_boundary x.place && is_none x.hand && length x.listed_orders == 0

-- A round of events, which leaves out the step of the timing side where that stands at a boundary.
abbrev pub round : Setup → Split → Split
round s x =
    let a = event_at s push (event_at s compute (event_at s obey x)) in
    let b = event_at s take a in
    event_at s send (if is_place_boundary b.place then b else event_at s tick b)

-- at most so many rounds to a boundary
unfoldable pub rounds_to_boundary : Setup → ℕ → Split → Split
rounds_to_boundary s zero x = x
rounds_to_boundary s (suc more) x = if is_boundary x then x else rounds_to_boundary s more (round s x)

-- A boundary is never further than these rounds: behind the orders and entries under way, each of the turns of a cycle
-- waits at most until the orders before it were obeyed and the entries of older epochs were dropped.
abbrev pub boundary_rounds : Setup → ℕ
boundary_rounds s = (s.ring + 128) * (s.params.core_fetch + 8)

abbrev pub to_boundary : Setup → Split → Split
to_boundary s x = rounds_to_boundary s (boundary_rounds s) x

-- the cycle whose start is reached by the events and the rounds to the next boundary
abbrev pub reach : Setup → List Event → ℕ
reach s events = (to_boundary s (run s events)).place.run.demand.machine.cycle

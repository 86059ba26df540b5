-- What each end of the two queues knows.
use Rattle.std.specs.Prelude.{◌≡◌, ℕ, ◌+◌, Option, None, Some, length}
use Rattle.trace_entry.specs.declared.Entry.{Entry}
use Rattle.rollback_cmds.specs.declared.order.Order.{Order}
use Rattle.mono_model.specs.declared.setup.Setup.{Setup}
use Rattle.trace_ring.specs.Ring.{last_of}
use Rattle.trace_ring.specs.Line.{OutletAt, InletAt}

-- the functional end
pub record FuncAt : Type 0 where
  pub setup : Setup
  -- how many entries it has pushed
  pub pushed : ℕ
  -- epoch and number of the last of them
  pub last : Option (ℕ × ℕ)
  -- how many of them are known to be handed out
  pub known : ℕ
  -- how many of them wait at this end
  pub waiting : ℕ
  -- how many orders it has taken
  pub taken : ℕ

-- the timing end
pub record TimeAt : Type 0 where
  pub setup : Setup
  -- how many orders it has pushed
  pub pushed : ℕ
  -- how many of them are known to be handed out
  pub known : ℕ
  -- how many of them wait at this end
  pub waiting : ℕ
  -- how many entries it has taken
  pub taken : ℕ
  -- epoch and number of the last of them
  pub last : Option (ℕ × ℕ)

-- nothing was handed over yet
abbrev pub func_start : Setup → FuncAt
func_start setup =
    record { setup = setup; pushed = 0; last = None; known = 0; waiting = 0; taken = 0 }

abbrev pub time_start : Setup → TimeAt
time_start setup =
    record { setup = setup; pushed = 0; known = 0; waiting = 0; taken = 0; last = None }

-- the entry was pushed, so many are known to be handed out, and so many wait now
abbrev pub func_pushed : FuncAt → Entry → ℕ → ℕ → FuncAt
func_pushed e x known waiting =
    record e {
      pushed = e.pushed + 1;
      last = Some (x.epoch, x.number);
      known = known;
      waiting = waiting;
    }

-- so many are known to be handed out
abbrev pub func_read : FuncAt → ℕ → FuncAt
func_read e known = record e { known = known }

-- none waits
abbrev pub func_flushed : FuncAt → FuncAt
func_flushed e = record e { waiting = 0 }

-- the next order was taken
abbrev pub func_taken : FuncAt → FuncAt
func_taken e = record e { taken = e.taken + 1 }

-- the next order was pushed
abbrev pub time_pushed : TimeAt → ℕ → ℕ → TimeAt
time_pushed e known waiting =
    record e { pushed = e.pushed + 1; known = known; waiting = waiting }

abbrev pub time_read : TimeAt → ℕ → TimeAt
time_read e known = record e { known = known }

abbrev pub time_flushed : TimeAt → TimeAt
time_flushed e = record e { waiting = 0 }

-- the entry was taken
abbrev pub time_taken : TimeAt → Entry → TimeAt
time_taken e x = record e { taken = e.taken + 1; last = Some (x.epoch, x.number) }

-- an end of both queues, as it stands to callers
abbrev pub func_at : OutletAt Entry → InletAt Order → FuncAt
func_at entries orders =
    record {
      setup = entries.setup;
      pushed = length entries.values;
      last = last_of entries.values;
      known = entries.known;
      waiting = entries.waiting;
      taken = length orders.values;
    }

abbrev pub time_at : OutletAt Order → InletAt Entry → TimeAt
time_at orders entries =
    record {
      setup = orders.setup;
      pushed = length orders.values;
      known = orders.known;
      waiting = orders.waiting;
      taken = length entries.values;
      last = last_of entries.values;
    }

-- the ends are of one run, and no more may be under way than it says
pub record IsFuncEnd (entries : OutletAt Entry) (orders : InletAt Order) : Type 0 where
  pub same_run : orders.setup ≡ entries.setup
  pub bound_is : entries.bound ≡ entries.setup.ring

pub record IsTimeEnd (orders : OutletAt Order) (entries : InletAt Entry) : Type 0 where
  pub same_run : entries.setup ≡ orders.setup
  pub bound_is : orders.bound ≡ 64

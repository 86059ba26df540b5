-- What callers see of a session, what stays of it, and when its run has ended.
use Rattle.std.specs.Prelude.{◌≡◌, ◌≤◌, ℕ, Bool, true, List, ◌++◌}
use Rattle.rollback_cmds.specs.declared.order.Order.{Order}
use Rattle.mono_model.specs.declared.setup.Setup.{Setup}
use Rattle.mono_model.specs.Cycle.{mono}
use Rattle.mono_model.specs.Demand.{place, told}
use Rattle.machine_laws.specs.Stays.{KeepsBelow, KeepsAt}
use Rattle.func_model.specs.declared.contents.Contents.{Contents}
use Rattle.func_model.specs.declared.walk.Walk.{Walk}
use Rattle.func_model.specs.Contents.{ContentsStandFor}
use Rattle.fast_threads.specs.Workers.{FuncWork, TimeWork, HasObeyed}

-- the run's setup, how many orders of it were obeyed, the functional side, and whether the run has
-- ended
pub record SessionAt (D : Type 0) : Type 0 where
  pub setup : Setup
  pub obeyed : ℕ
  pub func : Walk D
  pub ended : Bool

abbrev pub session_at : {D : Type 0} → FuncWork D → Bool → SessionAt D
session_at func ended =
    record { setup = func.setup; obeyed = func.obeyed; func = func.side; ended = ended }

-- What the functional side has committed under these orders, the newest first, stays from one state
-- of the session to a later one.
pub record HoldsCommitted {D : Type 0} (orders : List Order) (old new : SessionAt D) : Type 0 where
  -- the orders that were obeyed since
  pub later : List Order
  pub obeyed : HasObeyed new.setup new.obeyed new.func (later ++ orders)
  -- no number that is committed is taken back
  pub number : old.func.committed ≤ new.func.committed
  -- below it the path stays
  pub below : KeepsBelow old.setup old.func.committed orders later
  -- and at it, where all orders of the turns made so far were obeyed, only interrupts change the
  -- path, each by its trap
  pub at : (k : ℕ) → (place old.setup k).owed ≡ 0 → told (place old.setup k) ≡ orders
      → KeepsAt old.setup old.func.committed orders later

-- Whatever orders of its run it had obeyed, what it had committed under them stays.
abbrev pub Keeps : {D : Type 0} → SessionAt D → SessionAt D → Type 0
Keeps old new =
    (orders : List Order) → HasObeyed old.setup old.obeyed old.func orders
    → HoldsCommitted orders old new

-- what a functional side holds is the state of the monolithic machine behind all its cycles:
-- registers, memory, devices and output
abbrev pub HoldsEnd : {D : Type 0} → Setup → Contents D → Type 0
HoldsEnd s contents = ContentsStandFor s (mono s s.cycles).arch contents

-- the run has ended: the timing side has told its last order, and the functional side has obeyed it
pub record IsOver {D : Type 0} (func : FuncWork D) (time : TimeWork) : Type 0 where
  pub halted : time.is_halted ≡ true
  pub contents : HoldsEnd func.setup func.side.contents

-- the two sides are of one run
pub record IsRunning {D : Type 0} (func : FuncWork D) (time : TimeWork)
    (ended : Bool) : Type 0 where
  pub same : time.setup ≡ func.setup
  pub over : ended ≡ true → IsOver func time

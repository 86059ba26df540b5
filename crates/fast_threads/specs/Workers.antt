-- What each side at its end of the queues stands for: how far it has come in the run. The two come
-- on at their own pace.
use Rattle.std.specs.Prelude.{◌≡◌, ℕ, ◌+◌, ◌≤◌, Bool, true, Option, Some, None, IfSome, List}
use Rattle.std.specs.Prelude.{◌++◌, length}
use Rattle.rollback_cmds.specs.declared.order.Order.{Order}
use Rattle.trace_entry.specs.declared.Entry.{Entry}
use Rattle.mono_model.specs.declared.setup.Setup.{Setup}
use Rattle.mono_model.specs.Setup.{is_setup}
use Rattle.mono_model.specs.Demand.{place, told}
use Rattle.side_laws.specs.Along.{IsAlong}
use Rattle.func_model.specs.declared.walk.Walk.{Walk}
use Rattle.time_model.specs.OutOfOrder.{TimeState, TimeSideStandsFor}
use Rattle.time_model.specs.Standing.{is_told_out}
use Rattle.trace_ring.specs.Ring.{IsNamed, Follows}
use Rattle.trace_ring.specs.Orders.{IsInPlace}
use Rattle.trace_ring.specs.Ends.{FuncAt, TimeAt}
use Rattle.fast_threads.specs.declared.lookahead.Lookahead.{Lookahead}

-- what callers see of the functional side at work: its run, how many orders of it were obeyed, the
-- side, the entry that was computed and not pushed yet, and how far it may run ahead
pub record FuncWork (D : Type 0) : Type 0 where
  pub setup : Setup
  pub obeyed : ℕ
  pub side : Walk D
  pub computed : Option Entry
  pub lookahead : Lookahead

abbrev pub func_work : {D : Type 0} → FuncAt → Walk D → Option Entry → Lookahead → FuncWork D
func_work end side computed lookahead =
    record {
      setup = end.setup;
      obeyed = end.taken;
      side = side;
      computed = computed;
      lookahead = lookahead;
    }

-- and of the timing side: its run, the side, the order that was told and not pushed yet, and
-- whether it was told that the run is over
pub record TimeWork : Type 0 where
  pub setup : Setup
  pub side : TimeState
  pub hand : Option Order
  pub is_halted : Bool

abbrev pub time_work : Setup → TimeState → Option Order → Bool → TimeWork
time_work setup side hand is_halted =
    record { setup = setup; side = side; hand = hand; is_halted = is_halted }

-- A computed entry is the one of its epoch and number, follows the last one pushed, and is the last
-- of the side's path so far.
pub record IsReady {D : Type 0} (end : FuncAt) (side : Walk D) (entry : Entry) : Type 0 where
  pub named : IsNamed end.setup entry
  pub follows : Follows end.setup end.last entry.epoch entry.number
  pub epoch : entry.epoch ≡ side.epoch
  pub position : side.position ≡ entry.number + 1

-- the entry to push next follows the last one pushed: the computed one, or else the one at the
-- side's position
abbrev pub GoesOn : {D : Type 0} → FuncAt → Walk D → Option Entry → Type 0
GoesOn end side None = Follows end.setup end.last side.epoch side.position
GoesOn end side (Some entry) = IsReady end side entry

-- The functional side has obeyed the orders that were taken from the queue, which are the first
-- ones of the run.
pub record IsFuncAt {D : Type 0} (end : FuncAt) (side : Walk D)
    (computed : Option Entry) : Type 0 where
  pub sound : is_setup end.setup ≡ true
  -- the orders, the newest first
  pub orders : List Order
  pub taken : end.taken ≡ length orders
  pub along : IsAlong end.setup orders side
  -- no entry of a later epoch was pushed
  pub epochs : IfSome end.last (λ last. last.0 ≤ side.epoch)
  pub goes_on : GoesOn end side computed

-- A functional side has obeyed these orders, the newest first: so many, which are the first ones of
-- the run.
pub record HasObeyed {D : Type 0} (s : Setup) (count : ℕ) (side : Walk D)
    (orders : List Order) : Type 0 where
  pub count_is : count ≡ length orders
  pub along : IsAlong s orders side

-- It has obeyed these orders, and maybe others after them.
pub record HasGoneOn {D : Type 0} (s : Setup) (count : ℕ) (side : Walk D)
    (orders : List Order) : Type 0 where
  pub later : List Order
  pub obeyed : HasObeyed s count side (later ++ orders)

-- Whatever orders it had obeyed, it has obeyed these, and maybe others after them.
pub record KeepsObeyed {D : Type 0} (old new : FuncWork D) : Type 0 where
  pub on : (orders : List Order) → HasGoneOn old.setup old.obeyed old.side orders
      → HasGoneOn new.setup new.obeyed new.side orders

-- how many orders are in hand
abbrev pub in_hand : Option Order → ℕ
in_hand None = 0
in_hand (Some o) = 1

-- The timing side has told the orders that were pushed to the queue, and the one in hand.
pub record IsTimeAt (end : TimeAt) (side : TimeState) (hand : Option Order)
    (is_halted : Bool) : Type 0 where
  pub sound : is_setup end.setup ≡ true
  -- so many steps of the demand run were made
  pub steps : ℕ
  pub stands : TimeSideStandsFor end.setup steps side
  pub orders : length (told (place end.setup steps)) ≡ end.pushed + in_hand hand
  -- the one in hand is the next to push
  pub next : IfSome hand (λ o. IsInPlace end.setup end.pushed o)
  -- it is told halted only where the run is over
  pub over : is_halted ≡ true → is_told_out (place end.setup steps) ≡ true
  -- and no order of it waits at this end
  pub sent : is_halted ≡ true → end.waiting ≡ 0

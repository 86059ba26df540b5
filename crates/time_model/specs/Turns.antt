-- What is told of a step.
use Rattle.std.specs.Prelude.{Bool, true, false, Option, Some, None}
use Rattle.rollback_cmds.specs.declared.order.Order.{Order}
use Rattle.mono_model.specs.Demand.{At, interrupting, committing, completing, issuing, trying, ending, stopping, halted}
use Rattle.time_model.specs.declared.turn.Turn.{Turn}
use Rattle.time_model.specs.declared.turn.Turn.TheVariants.{Moved, Ordered, Want, CycleEnd, Halted}

-- the turn that ends a cycle
abbrev pub is_ending : At → Bool
is_ending interrupting = false
is_ending committing = false
is_ending completing = false
is_ending issuing = false
is_ending (trying more) = false
is_ending ending = true
is_ending stopping = false
is_ending halted = false

-- a step that tells no order, by whether its turn ends a cycle
abbrev pub untold_by : Bool → Turn
untold_by true = CycleEnd
untold_by false = Moved

-- the same, by the turn that it makes
abbrev pub turn_untold : At → Turn
turn_untold at = untold_by (is_ending at)

-- any step, by the order that it tells, or else by what it did that tells none
abbrev pub told_or : Option Order → Turn → Turn
told_or None what = what
told_or (Some o) what = Ordered o

-- any step, by the order that it tells, if it tells one, and the turn that it makes
abbrev pub turn_told : Option Order → At → Turn
turn_told o at = told_or o (turn_untold at)

-- the order that a turn tells, if it tells one
abbrev pub order_told : Turn → Option Order
order_told Moved = None
order_told (Ordered o) = Some o
order_told Want = None
order_told CycleEnd = None
order_told Halted = None

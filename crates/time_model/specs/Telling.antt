-- What a timing side keeps between its turns and the steps that tell of them.
use Rattle.std.specs.Prelude.{ℕ, ◌+◌, ◌-◌, ◌^◌, min, if◌then◌else◌, Option, Some, None}
use Rattle.rollback_cmds.specs.declared.order.Order.{Order}
use Rattle.trace_entry.specs.declared.Entry.{Entry}
use Rattle.mono_model.specs.Split.{opens}
use Rattle.timing_core.specs.declared.orders.Orders.{Orders}
use Rattle.time_model.specs.declared.telling.Telling.{Telling}

-- before the first turn
abbrev pub telling_start : Telling
telling_start = record { owed = None; epoch = 0; held = None }

-- the order that stays owed, where a first one is told
abbrev pub behind_first : Option Order → Option Order → Option Order
behind_first None second = None
behind_first (Some first) second = second

abbrev pub owed_by : Orders → Option Order
owed_by orders = behind_first orders.first orders.second

-- the epoch behind an order: one more where it opens one, in 64 bits
abbrev pub epoch_by : Option Order → ℕ → ℕ
epoch_by told epoch = if opens told then min (epoch + 1) (2 ^ 64 - 1) else epoch

-- the held entry behind an order: dropped where it opens an epoch
abbrev pub kept_by : Option Order → Option Entry → Option Entry
kept_by told held = if opens told then None else held

-- behind the first of a turn's orders
abbrev pub told_behind : Orders → Telling → Telling
told_behind orders telling = record {
  owed = owed_by orders;
  epoch = epoch_by orders.first telling.epoch;
  held = kept_by orders.first telling.held;
}

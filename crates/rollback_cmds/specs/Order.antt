use Rattle.std.specs.Prelude.{Bool, true, false}
use Rattle.rollback_cmds.specs.declared.order.Order.{Order}
use Rattle.rollback_cmds.specs.declared.order.Order.TheVariants.{Set, Commit, Interrupt, Time, Stop, Sync}

-- whether entries made before the order are of no use behind it
abbrev pub opens_epoch_of : Order → Bool
opens_epoch_of (Set n addr) = true
opens_epoch_of (Commit n) = false
opens_epoch_of (Interrupt n) = true
opens_epoch_of (Time n v) = true
opens_epoch_of (Stop n) = true
opens_epoch_of (Sync n) = true

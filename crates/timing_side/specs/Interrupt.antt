-- The first phase of a cycle: the timer interrupt, taken before the next instruction to commit.
use Rattle.std.specs.Prelude.{◌+◌, ◌&&◌, nat_le, if◌then◌else◌, Bool, false, []}
use Rattle.rollback_cmds.specs.declared.order.Order.TheVariants.{Interrupt}
use Rattle.timing_side.specs.Timing.{Timing, cut_to, Phase, quiet, ordering}

-- it is enabled, and its cycle has come
abbrev pub is_pending : Timing → Bool
is_pending t = t.irq_on && nat_le t.cmp t.cycle

-- all slots are flushed, and in the trap no interrupt is enabled
abbrev pub take_interrupt : Timing → Timing
take_interrupt t = let f = cut_to [] t in record f { irq_on = false; counts = record f.counts { interrupts = f.counts.interrupts + 1 } }

unfoldable pub timing_interrupt : Timing → Phase
timing_interrupt t = if is_pending t then ordering (Interrupt t.to_commit) (take_interrupt t) else quiet t

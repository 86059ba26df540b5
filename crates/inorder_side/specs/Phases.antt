-- The first four phases of a cycle: the timer interrupt, Write, Memory and Execute.
use Rattle.std.specs.Prelude.{ℕ, ◌+◌, ◌&&◌, nat_le, if◌then◌else◌, Bool, is_none, Option, Some, None}
use Rattle.cache_timing.specs.Caches.{CachesState}
use Rattle.mono_model.specs.declared.setup.Setup.{Setup}
use Rattle.mono_model.specs.Issue.{cached}
use Rattle.timing_side.specs.Timing.{Timing, quiet}
use Rattle.timing_side.specs.Interrupt.{timing_interrupt}
use Rattle.timing_side.specs.Commit.{commits, committed_phase}
use Rattle.timing_side.specs.Complete.{completes, completed_phase}
use Rattle.inorder_machine.specs.Memory.{went_on}
use Rattle.inorder_machine.specs.Execute.{memory_latency}
use Rattle.inorder_side.specs.Timing.{InorderTiming, Executing, in_execute, has_write, InorderPhase, flushing, keeping}

unfoldable pub timing_inorder_interrupt : InorderTiming → InorderPhase
timing_inorder_interrupt l = flushing (timing_interrupt l.timing) l.memory

-- the slot in Write, where there is one, leaves
abbrev pub write_width : InorderTiming → ℕ
write_width l = if has_write l then 1 else 0

unfoldable pub timing_inorder_write : Setup → InorderTiming → InorderPhase
timing_inorder_write s l = flushing (committed_phase (commits s (write_width l) 0 l.timing)) l.memory

-- the slot in Memory goes on to Write once its access is over
unfoldable pub timing_inorder_memory : InorderTiming → InorderTiming
timing_inorder_memory l = record l { memory = went_on l.timing.cycle l.memory }

-- The slot in Execute goes on to Memory once its latency is over and Memory is empty. A load of RAM without a cause
-- accesses the data cache then, and a misprediction flushes all younger slots.
abbrev pub with_caches : CachesState → Timing → Timing
with_caches caches t = record t { caches = caches }

abbrev pub moved : Setup → Executing → InorderTiming → InorderPhase
moved s x l =
    let d = cached s x.slot.cause x.slot.access l.timing.caches in
    keeping (completed_phase (completes x.from l.timing.slots) (with_caches d.state l.timing))
    (Some (l.timing.cycle + memory_latency s.params x.slot.class + d.cycles))

abbrev pub may_move : InorderTiming → Executing → Bool
may_move l x = is_none l.memory && nat_le x.from l.timing.cycle

abbrev pub moving_by : Setup → Option Executing → InorderTiming → InorderPhase
moving_by s None l = keeping (quiet l.timing) l.memory
moving_by s (Some x) l = if may_move l x then moved s x l else keeping (quiet l.timing) l.memory

unfoldable pub timing_inorder_execute : Setup → InorderTiming → InorderPhase
timing_inorder_execute s l = moving_by s (in_execute l.timing.slots) l

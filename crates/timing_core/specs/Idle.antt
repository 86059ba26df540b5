-- A cycle in which nothing happens.
use Rattle.std.specs.Prelude.{◌≡◌, ◌<◌, ℕ, ◌+◌, ◌&&◌, Bool, true, false, List, [], ◌∷◌}
use Rattle.reorder_buffer.specs.declared.slot.Slot.{Slot}
use Rattle.mono_model.specs.declared.params.Params.{Params}
use Rattle.mono_model.specs.declared.setup.Setup.{Setup}
use Rattle.mono_model.specs.Final.{has_ended}
use Rattle.mono_model.specs.Issue.{none_used, has_unit}
use Rattle.timing_side.specs.Timing.{Timing, quiet}
use Rattle.timing_side.specs.Interrupt.{timing_interrupt}
use Rattle.timing_side.specs.Commit.{timing_commit}
use Rattle.timing_side.specs.Complete.{timing_complete}
use Rattle.timing_side.specs.Issue.{busy_divisions, class_allows, timing_issue}
use Rattle.timing_side.specs.Fetch.{may_fetch}
use Rattle.in_flight.specs.Flight.{older_at, is_executing_state}

-- The first four phases of the cycle change nothing and make no order, fetch makes no try, and the
-- run goes on.
pub record IsIdle (s : Setup) (t : Timing) : Type 0 where
  pub interrupt : timing_interrupt t ≡ quiet t
  pub commit : timing_commit s t ≡ quiet t
  pub complete : timing_complete t ≡ quiet t
  pub issue : timing_issue s t ≡ quiet t
  pub fetch : may_fetch s t ≡ false
  pub running : has_ended t.end ≡ false
  pub limit : t.cycle < s.cycles

-- none stands first, or one that executes: so none leaves, and none is sent back for the time
abbrev pub is_held_up : List Slot → Bool
is_held_up [] = true
is_held_up (slot ∷ rest) = is_executing_state slot.state

-- whether a slot's class, and the units that no other takes in this cycle, let it begin
abbrev pub could_begin : Params → List Slot → ℕ → Slot → Bool
could_begin p slots place slot =
    class_allows slot.class slot.access (older_at slots place) && has_unit p (busy_divisions slots + none_used.div) none_used slot.class

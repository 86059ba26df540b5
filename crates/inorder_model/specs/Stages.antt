-- What is taken of the slots in the stages.
use Rattle.std.specs.Prelude.{ℕ, ◌&&◌, Bool, false, Option, Some, None, List, [], ◌∷◌}
use Rattle.reorder_buffer.specs.declared.slot.Slot.{Slot}
use Rattle.mono_model.specs.Found.{destination_in}
use Rattle.mono_model.specs.declared.setup.Setup.{Setup}
use Rattle.timing_side.specs.Slots.{found_in}
use Rattle.timing_side.specs.Timing.{Phase}
use Rattle.timing_side.specs.Commit.{commits, committed_phase}
use Rattle.in_flight.specs.Flight.{reads_from}
use Rattle.inorder_machine.specs.Issue.{is_load_class}
use Rattle.inorder_side.specs.Timing as place
use Rattle.inorder_side.specs.Timing.{InorderTiming}
use Rattle.inorder_side.specs.Phases.{write_width}
use Rattle.inorder_model.specs.declared.stages.Executing as code

-- the slot in Execute
abbrev pub executing_as : code.Executing → place.Executing
executing_as x = record { slot = x.slot; from = x.from }

abbrev pub executing_in : Option code.Executing → Option place.Executing
executing_in None = None
executing_in (Some x) = Some (executing_as x)

-- whether a slot reads what a load in Memory, the youngest of the older slots, writes
abbrev pub reads_load : List Slot → Slot → Bool
reads_load [] slot = false
reads_load (youngest ∷ older) slot = is_load_class youngest.class && reads_from (found_in slot) (destination_in (found_in youngest))

abbrev pub waits_for_load : Option ℕ → List Slot → Slot → Bool
waits_for_load None older slot = false
waits_for_load (Some e) older slot = reads_load older slot

-- Write, with Memory as it was
abbrev pub write_phase : Setup → InorderTiming → Phase
write_phase s l = committed_phase (commits s (write_width l) 0 l.timing)

-- What the turn of one slot comes to, on what the timing side keeps.
use Rattle.std.specs.Prelude.{ℕ, ◌≡◌, ◌<◌, ◌^◌, Some, slice_get, slice_set}
use Rattle.fsim_base.specs.declared.instruction.Class.TheVariants.{Alu}
use Rattle.fsim_base.specs.declared.access.Access.TheVariants.{Nothing}
use Rattle.reorder_buffer.specs.declared.slot.Slot.{Slot}
use Rattle.mono_model.specs.declared.setup.Setup.{Setup}
use Rattle.timing_side.specs.Timing.{Timing}
use Rattle.timing_side.specs.Issue.{turn_of}
use Rattle.in_flight.specs.Flight.{older_at}
use Rattle.timing_core.specs.declared.state.TimingCore.{TimingCore}
use Rattle.timing_core.specs.declared.units.Used.{Used}
use Rattle.timing_core.specs.CoreStandsFor.{CoreStandsFor}
use Rattle.timing_core.specs.Units.{used_in}

-- a slot that only computes in the ALU: it goes to no memory
abbrev pub OnlyComputes : Slot → Type 0
OnlyComputes slot = (slot.class ≡ Alu) × (slot.access ≡ Nothing)

-- the slot at a place and the caches, behind its turn
abbrev pub KeepsTurn : ℕ → ℕ → Used → TimingCore → TimingCore → Type 0
KeepsTurn place busy used old new =
    (s : Setup) (t : Timing) (slot : Slot) → CoreStandsFor s t old → t.cycle < 2 ^ 63 → slice_get t.slots place ≡ Some slot →
    let turned = turn_of s t.cycle busy (older_at t.slots place) slot (used_in used) t.caches in
    CoreStandsFor s (record t { slots = slice_set t.slots place turned.turned; caches = turned.caches }) new

-- the units used, behind it
abbrev pub CountsTurn : ℕ → ℕ → Used → TimingCore → Used → Type 0
CountsTurn place busy used old after =
    (s : Setup) (t : Timing) (slot : Slot) → CoreStandsFor s t old → t.cycle < 2 ^ 63 → slice_get t.slots place ≡ Some slot →
    used_in after ≡ (turn_of s t.cycle busy (older_at t.slots place) slot (used_in used) t.caches).used

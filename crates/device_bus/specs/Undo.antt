-- How an access to a device is taken back.
use Rattle.std.specs.Prelude.{◌≡◌, ℕ, ◌<◌, List, Some, None, IfSome, Option, slice_set}
use Rattle.device_bus.specs.declared.kind.DeviceKind.{DeviceKind}
use Rattle.device_bus.specs.declared.undo.DevUndo.{DevUndo}
use Rattle.device_bus.specs.Device.{DeviceState, renumbered, slots_of}

-- no slot, or one that a device of this kind has
abbrev pub NamesSlot : DeviceKind → DevUndo → Type 0
NamesSlot kind undo = IfSome undo.slot (λ slot. slot < slots_of kind)

-- the numbers with the one of a slot, if any, replaced
abbrev pub set_slot : Option ℕ → ℕ → List ℕ → List ℕ
set_slot None number numbers = numbers
set_slot (Some slot) number numbers = slice_set numbers slot number

-- the numbers with the one that an undo names set back
abbrev pub set_back : DevUndo → List ℕ → List ℕ
set_back undo numbers = set_slot undo.slot undo.old numbers

-- the device once an access is taken back
abbrev pub state_undone : DeviceState → DevUndo → DeviceState
state_undone state undo = renumbered state (set_back undo state.numbers)

-- the undo takes a device of this kind from the state after an access to the one before it
pub record Undoes (kind : DeviceKind) (undo : DevUndo) (before after : DeviceState) : Type 0 where
  pub exists : NamesSlot kind undo
  pub back : state_undone after undo ≡ before

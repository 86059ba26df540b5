-- The three devices on one bus.
use Rattle.std.specs.Prelude.{◌≡◌, ℕ, zero, suc, ◌+◌, ◌-◌, ◌≤◌, ◌==◌, if◌then◌else◌}
use Rattle.std.specs.Prelude.{List, [], ◌∷◌, ◌++◌, Option, Some, None}
use Rattle.fsim_base.specs.declared.access.Width.{Width}
use Rattle.device_bus.specs.declared.kind.DeviceKind.{DeviceKind}
use Rattle.device_bus.specs.declared.kind.DeviceKind.TheVariants.{Console, Timer, Finisher}
use Rattle.device_bus.specs.declared.place.Place.{Place}
use Rattle.device_bus.specs.declared.undo.DevUndo.{DevUndo}
use Rattle.device_bus.specs.Undo.{state_undone}
use Rattle.device_bus.specs.Device.{DeviceAccess, DeviceAnswer, answer_of, state_after}
pub use Rattle.device_bus.specs.Device.{DeviceState, opening_state}
pub use Rattle.device_bus.specs.Range.{DeviceRange, range_of, IsInRange, is_in_range}
unfoldable pub use Rattle.device_bus.specs.Range.{accepts_of}

-- the devices in the order in which they are counted
abbrev pub device_order : List DeviceKind
device_order = Console ∷ Timer ∷ Finisher ∷ []

-- the kinds of so many sets of devices, one set behind the other
abbrev pub sets_order : ℕ → List DeviceKind
sets_order zero = []
sets_order (suc sets) = device_order ++ sets_order sets

-- from 1 to 64 sets of devices, one behind the other
pub record AreSets (sets : ℕ) (kinds : List DeviceKind) : Type 0 where
  pub some : 1 ≤ sets
  pub most : sets ≤ 64
  pub order : kinds ≡ sets_order sets

-- the kind of the device that has this number
abbrev pub kind_at : ℕ → DeviceKind
kind_at device = if device == 0 then Console else (if device == 1 then Timer else Finisher)

-- the first of some devices, counted from `device` on, whose range has the address
abbrev pub find_among : List DeviceKind → ℕ → ℕ → Width → Option Place
find_among [] device addr width = None
find_among (kind ∷ kinds) device addr width =
    if is_in_range kind addr
    then Some (record {
      device = device;
      off = addr - (range_of kind).base;
      accepted = accepts_of kind (addr - (range_of kind).base) width;
    })
    else find_among kinds (device + 1) addr width

-- the device whose range has the address, and whether it accepts an access of this width there
unfoldable pub find_of : ℕ → Width → Option Place
find_of addr width = find_among device_order 0 addr width

-- the states of the three
pub record Devices : Type 0 where
  pub console : DeviceState
  pub timer : DeviceState
  pub finisher : DeviceState

-- the three devices at the start of a run with this input
abbrev pub opening_devices : List ℕ → Devices
opening_devices input = record {
  console = opening_state Console input;
  timer = opening_state Timer input;
  finisher = opening_state Finisher input;
}

abbrev pub state_of : Devices → DeviceKind → DeviceState
state_of devices Console = devices.console
state_of devices Timer = devices.timer
state_of devices Finisher = devices.finisher

-- the devices with one of them in another state
abbrev pub with_state : Devices → DeviceKind → DeviceState → Devices
with_state devices Console state = record devices { console = state }
with_state devices Timer state = record devices { timer = state }
with_state devices Finisher state = record devices { finisher = state }

-- what one of the devices does at an access
abbrev pub answer_at : Devices → DeviceKind → DeviceAccess → DeviceAnswer
answer_at devices kind access = answer_of kind (state_of devices kind) access

-- the devices after an access to one of them
abbrev pub devices_after : Devices → DeviceKind → DeviceAccess → Devices
devices_after devices kind access =
    with_state devices kind (state_after kind (state_of devices kind) access)

-- the devices once an access to one of them is taken back
abbrev pub devices_undone : Devices → DeviceKind → DevUndo → Devices
devices_undone devices kind undo =
    with_state devices kind (state_undone (state_of devices kind) undo)

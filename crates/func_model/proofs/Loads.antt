-- Loads of devices: the time changes no number.
use Rattle.std.proofs.Common.{◌≡◌, ℕ, ◌%◌, List, Bool, true, false, if◌then◌else◌, Some, None, is_some, refl, ap, ◌∙◌}
use Rattle.fsim_base.specs.Width.{width_bytes}
use Rattle.fsim_base.specs.Range.{is_inside}
use Rattle.fsim_base.specs.declared.access.RamRange.{RamRange}
use Rattle.fsim_base.specs.declared.access.Access.TheVariants as access
use Rattle.fsim_base.specs.declared.access.Spot.TheVariants.{Device}
use Rattle.device_bus.specs.declared.place.Place.{Place}
use Rattle.fsim_base.specs.declared.access.Width.{Width}
use Rattle.device_bus.specs.declared.kind.DeviceKind.{DeviceKind}
use Rattle.device_bus.specs.Device.{Register, transfer, line_control, line_status, compare_low, compare_high, time_low, time_high, finish, reserved, register_at, load_answer, loading, dev, renumbered}
use Rattle.device_bus.specs.Bus.{Devices, state_of, with_state, devices_after, kind_at, find_of}
use Rattle.mono_model.specs.Effect.{with_access}
use Rattle.mono_model.specs.Result.{spot_of}
use Rattle.phys_mem.specs.Ram.{loaded}

numbers_alike : (register : Register) (input numbers : List ℕ) (time : ℕ) → (load_answer register input numbers time).numbers ≡ (load_answer register input numbers 0).numbers
numbers_alike transfer input numbers time = refl
numbers_alike line_control input numbers time = refl
numbers_alike line_status input numbers time = refl
numbers_alike compare_low input numbers time = refl
numbers_alike compare_high input numbers time = refl
numbers_alike time_low input numbers time = refl
numbers_alike time_high input numbers time = refl
numbers_alike finish input numbers time = refl
numbers_alike reserved input numbers time = refl

pub loads_alike : (devices : Devices) (kind : DeviceKind) (off : ℕ) (width : Width) (time : ℕ) → devices_after devices kind (loading off width time) ≡ devices_after devices kind (loading off width 0)
unfolding dev
loads_alike devices kind off width time =
    ap (λ numbers. with_state devices kind (renumbered (state_of devices kind) numbers)) (numbers_alike (register_at kind off) (state_of devices kind).given (state_of devices kind).numbers time)

-- an access that isn't inside RAM but at a device is at the device
none_outside : (inside : Bool) (x : ℕ) → is_some (if inside then Some x else None) ≡ false → inside ≡ false
none_outside true x none = cc
none_outside false x none = refl

pub spot_device : (range : RamRange) (ram : ℕ → ℕ) (addr : ℕ) (width : Width) (place : Place) → addr % width_bytes width ≡ 0 →
    is_some (loaded range ram addr width) ≡ false → find_of addr width ≡ Some place → spot_of range addr width ≡ Device
spot_device range ram addr width place aligned none there =
    let outside : is_inside range addr (width_bytes width) ≡ false = none_outside _ _ none in
    rw (aligned, outside, there) refl

-- what a load from a device changes
pub device_read : (range : RamRange) (ram : ℕ → ℕ) (addr : ℕ) (width : Width) (place : Place) (time : ℕ) (old new : Devices) → addr % width_bytes width ≡ 0 →
    is_some (loaded range ram addr width) ≡ false → find_of addr width ≡ Some place → new ≡ devices_after old (kind_at place.device) (loading place.off width time) →
    new ≡ with_access (access.Load addr width (spot_of range addr width)) 0 old
device_read range ram addr width place time old new aligned none there made =
    rw (spot_device range ram addr width place aligned none there, there) (made ∙ loads_alike old (kind_at place.device) place.off width time)

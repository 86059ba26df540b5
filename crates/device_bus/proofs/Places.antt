-- What the devices' ranges say of an address.
use Rattle.std.proofs.Common.{◌≡◌, ℕ, None, arith}
use Rattle.fsim_base.specs.declared.access.Width.{Width}
use Rattle.device_bus.specs.declared.kind.DeviceKind.{DeviceKind}
use Rattle.device_bus.specs.declared.kind.DeviceKind.TheVariants.{Console, Timer, Finisher}
use Rattle.device_bus.specs.Range.{IsInRange}
use Rattle.device_bus.specs.Bus.{find_of}

-- an address outside the three ranges has no place
pub find_of-outside : (addr : ℕ) (width : Width) → ((kind : DeviceKind) → ¬ IsInRange kind addr) → find_of addr width ≡ None
unfolding find_of
find_of-outside addr width outside =
    let console : ¬ IsInRange Console addr = outside Console in
    let timer : ¬ IsInRange Timer addr = outside Timer in
    let finisher : ¬ IsInRange Finisher addr = outside Finisher in
    grind arith

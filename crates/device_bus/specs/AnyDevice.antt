-- Which device a value of the type of all three is, and its state.
use Rattle.std.specs.Prelude.{[]}
use Rattle.device_bus.specs.declared.any_device.AnyDevice.{AnyDevice}
use Rattle.device_bus.specs.declared.any_device.AnyDevice.TheVariants.{Console, Timer, Finisher}
use Rattle.device_bus.specs.declared.kind.DeviceKind.{DeviceKind}
use Rattle.device_bus.specs.declared.kind.DeviceKind.TheVariants as kind
use Rattle.device_bus.specs.Device.{DeviceState}

-- which device it is
abbrev pub kind_of_any : AnyDevice → DeviceKind
kind_of_any (Console console) = kind.Console
kind_of_any (Timer timer) = kind.Timer
kind_of_any (Finisher finisher) = kind.Finisher

-- its state; a finisher has none
abbrev pub state_of_any : AnyDevice → DeviceState
state_of_any (Console console) = console
state_of_any (Timer timer) = timer
state_of_any (Finisher finisher) = record { given = []; numbers = [] }

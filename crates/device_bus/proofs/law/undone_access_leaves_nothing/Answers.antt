use Rattle.device_bus.specs.Device.{state_after}
use Rattle.device_bus.specs.Bus.{state_of}
use Rattle.device_bus.proofs.Numbers.{devices_undone-with_state}
use Rattle.device_bus.proofs.law.undone_access_leaves_nothing.Goals as goal

pub returns : goal.returns
returns c = record {
  restored = λ devices kind access undo undoes.
      devices_undone-with_state devices kind undo (state_after kind (state_of devices kind) access) undoes;
}

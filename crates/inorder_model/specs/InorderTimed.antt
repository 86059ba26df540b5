-- The in-order machine's timing side, as the split state takes it.
use Rattle.mono_model.specs.declared.setup.Setup.{Setup}
use Rattle.inorder_machine.specs.Demand.{inorder_place}
use Rattle.inorder_machine.specs.Split.{InorderSplit}
use Rattle.inorder_laws.specs.Rounds.{inorder_boundary_rounds}
use Rattle.split_core.specs.Along.{At}
use Rattle.split_core.specs.Timed.{Timed, timed_of}
use Rattle.inorder_model.specs.Standing.{InorderState, inorder_piped}

abbrev pub inorder_timed : Timed InorderState
inorder_timed = timed_of inorder_piped inorder_boundary_rounds

-- with the place that the timing side is at
abbrev pub inorder_at : Setup → At → InorderSplit
inorder_at s x = record { place = inorder_place s x.steps; split = x.split }

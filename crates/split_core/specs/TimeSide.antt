-- The monolithic machine's timing side, as the split state takes it.
use Rattle.mono_model.specs.Split.{boundary_rounds}
use Rattle.time_model.specs.OutOfOrder.{TimeState, core_piped}
use Rattle.split_core.specs.Timed.{Timed, timed_of}

abbrev pub mono_timed : Timed TimeState
mono_timed = timed_of core_piped boundary_rounds

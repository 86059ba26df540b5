-- The end of a cycle, seen from the timing side.
use Rattle.std.proofs.Common.{◌≡◌, refl}
use Rattle.mono_model.specs.declared.setup.Setup.{Setup}
use Rattle.mono_model.specs.Cycle.{end_of_cycle}
use Rattle.mono_model.specs.Demand.{Demand}
use Rattle.timing_side.specs.Turn.{timing_end_of_cycle}
use Rattle.timing_laws.specs.Seen.{seen}

pub tick_seen : (s : Setup) (d : Demand) → timing_end_of_cycle s (seen s d) ≡ seen s (record d { machine = end_of_cycle s d.machine })
unfolding seen end_of_cycle timing_end_of_cycle
tick_seen s d = refl

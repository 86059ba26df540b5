use Rattle.mono_model.specs.declared.setup.Setup.{Setup}
use Rattle.timing_side.specs.Timing.{Timing}
use Rattle.timing_core.specs.Small.{IsSmall}
use Rattle.timing_core.specs.CoreStandsFor.{CoreStandsFor}
use Rattle.timing_core.proofs.Leaving.{IsUnderWay}
use Rattle.timing_core.proofs.state.TimingCore.leave_in_order.Given as goal

-- what was kept has become another state, from which the phase goes on
abbrev pub invariant-loop-left : goal.invariant-loop-left
invariant-loop-left l =
    (s : Setup) (t : Timing) → CoreStandsFor s t l.fn.self → IsSmall t → (behind : Timing) × (CoreStandsFor s behind l.self) × IsUnderWay s l.most t l.left behind

use Rattle.std.proofs.Common.{◌≡◌, ◌+◌, ◌-◌, ◌≤◌, length}
use Rattle.mono_model.specs.declared.setup.Setup.{Setup}
use Rattle.timing_side.specs.Timing.{Timing}
use Rattle.in_flight.specs.Flight.{may_start_at}
use Rattle.in_flight.specs.Snapshot.{IsSnapshot}
use Rattle.timing_core.specs.CoreStandsFor.{CoreStandsFor}
use Rattle.timing_core.specs.Small.{IsSmall}
use Rattle.timing_core.specs.Units.{used_in}
use Rattle.timing_core.proofs.Issuing.{HasWalked}
use Rattle.timing_core.proofs.state.TimingCore.issue_fetched.Given as goal

abbrev pub invariant-loop-place : goal.invariant-loop-place
invariant-loop-place l = record {
  few : length l.self.flight.slots ≤ 256;
  latest : l.fn.latest + l.self.params.core_front ≡ l.self.cycle;
  ready : IsSnapshot (may_start_at l.self.flight.slots) l.from l.ready;
  walked : (s : Setup) (t : Timing) → CoreStandsFor s t l.fn.self → IsSmall t → HasWalked s t l.busy l.self l.from (used_in l.used);
}

abbrev pub decreases-loop-place : goal.decreases-loop-place
decreases-loop-place l = length l.self.flight.slots - l.from

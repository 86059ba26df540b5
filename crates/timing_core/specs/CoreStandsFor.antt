-- What the fields of the timing side stand for.
use Rattle.std.specs.Prelude.{◌≡◌}
use Rattle.branch_predictor.specs.PredictorStandsFor.{PredictorStandsFor}
use Rattle.cache_timing.specs.CachesStandFor.{CachesStandFor}
use Rattle.mono_model.specs.declared.setup.Setup.{Setup}
use Rattle.mono_model.specs.Setup.{predictor_params, caches_params}
use Rattle.timing_side.specs.Timing.{Timing}
use Rattle.timing_core.specs.declared.state.TimingCore.{TimingCore}
use Rattle.timing_core.specs.Counts.{counts_in}

-- the core has the parameters and limits of this setup, and stands for this state
pub record CoreStandsFor (s : Setup) (t : Timing) (core : TimingCore) : Type 0 where
  pub params : core.params ≡ s.params
  pub cycle_limit : core.cycle_limit ≡ s.cycles
  pub output_limit : core.output_limit ≡ s.output
  pub room : core.flight.capacity ≡ s.params.core_window
  pub slots : core.flight.slots ≡ t.slots
  pub predictor : PredictorStandsFor core.predictor (predictor_params s.params) t.predictor
  pub caches : CachesStandFor core.caches (caches_params s.params) t.caches
  pub cycle : core.cycle ≡ t.cycle
  pub to_commit : core.to_commit ≡ t.to_commit
  pub resume : core.resume ≡ t.resume
  pub paid : core.paid ≡ t.paid
  pub counts : counts_in core.counts ≡ t.counts
  pub retired : core.retired ≡ t.retired
  pub output : core.output ≡ t.output
  pub irq_on : core.irq.on ≡ t.irq_on
  pub cmp : core.irq.cmp ≡ t.cmp
  pub end : core.end ≡ t.end

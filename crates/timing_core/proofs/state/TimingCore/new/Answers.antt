use Rattle.std.proofs.Common.{ap, sym, subst, refl}
use Rattle.branch_predictor.specs.Params as predictor
use Rattle.branch_predictor.specs.Predictor.{untrained}
use Rattle.branch_predictor.specs.PredictorStandsFor.{PredictorStandsFor}
use Rattle.branch_predictor.specs.declared.params.PredParams.{PredParams}
use Rattle.cache_timing.specs.Caches.{cold}
use Rattle.cache_timing.specs.CachesStandFor.{CachesStandFor}
use Rattle.cache_timing.specs.Params as caches
use Rattle.cache_timing.specs.declared.params.AllCaches.{AllCaches}
use Rattle.reorder_buffer.specs.Window.{Contents}
use Rattle.timing_side.specs.Timing.{timing_start}
use Rattle.mono_model.proofs.Sound.{setup_facts}
use Rattle.timing_core.proofs.state.TimingCore.new.Goals as goal

pub new-requires : goal.new-requires
new-requires c = record { limit = (setup_facts c.args.setup.now c.requires.sound).window }

pub new-requires-2 : goal.new-requires-2
new-requires-2 c = record { in_range = subst predictor.IsInRange (sym c.predictor_params.ensures.sizes) (setup_facts c.args.setup.now c.requires.sound).predictor }

pub new-requires-3 : goal.new-requires-3
new-requires-3 c = record { in_range = subst caches.AreInRange (sym c.caches_params.ensures.sizes) (setup_facts c.args.setup.now c.requires.sound).caches }

pub returns : goal.returns
unfolding timing_start
returns c =
    let Learnt : PredParams → Type 0 = λ p. PredictorStandsFor c.in_ok-new-2.field-0 p untrained in
    let Kept : AllCaches → Type 0 = λ p. CachesStandFor c.in_ok-new-3.field-0 p cold in
    record {
      opening = record {
        params = refl;
        cycle_limit = refl;
        output_limit = refl;
        room = ap (λ (f : Contents). f.capacity) c.in_ok-new.ensures.opening;
        slots = ap (λ (f : Contents). f.slots) c.in_ok-new.ensures.opening;
        predictor = subst Learnt c.predictor_params.ensures.sizes c.in_ok-new-2.ensures.untrained;
        caches = subst Kept c.caches_params.ensures.sizes c.in_ok-new-3.ensures.cold;
        cycle = refl;
        to_commit = refl;
        resume = refl;
        paid = refl;
        counts = c.new-4.ensures.start;
        retired = refl;
        output = refl;
        irq_on = refl;
        cmp = refl;
        end = refl;
      };
    }

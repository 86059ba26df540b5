-- A write to some fields of the core is that write to the state: first to all that are written by themselves, and then to each.
use Rattle.std.proofs.Common.{◌≡◌, ℕ, Bool, List, refl, ◌∙◌}
use Rattle.timer_irq.specs.declared.view.IrqView.{IrqView}
use Rattle.cache_timing.specs.Caches.{CachesState}
use Rattle.cache_timing.specs.CachesStandFor.{CachesStandFor}
use Rattle.cache_timing.specs.declared.caches.Caches.{Caches}
use Rattle.reorder_buffer.specs.declared.slot.Slot.{Slot}
use Rattle.reorder_buffer.specs.Window.{Contents}
use Rattle.mono_model.specs.declared.setup.Setup.{Setup}
use Rattle.mono_model.specs.Machine as machine
use Rattle.mono_model.specs.Setup.{caches_params}
use Rattle.timing_side.specs.Timing.{Timing}
use Rattle.timing_core.specs.declared.counts.Counts.{Counts}
use Rattle.timing_core.specs.declared.state.TimingCore.{TimingCore}
use Rattle.timing_core.specs.Counts.{counts_in}
use Rattle.timing_core.specs.CoreStandsFor.{CoreStandsFor}

module _ (s : Setup) (t : Timing) (core : TimingCore) (k : CoreStandsFor s t core) where
  keeps : (counts : Counts) (counts' : machine.Counts) → counts_in counts ≡ counts' → (flight : Contents) (slots : List Slot) → flight.capacity ≡ core.flight.capacity → flight.slots ≡ slots →
      (caches : Caches) (caches' : CachesState) → CachesStandFor caches (caches_params s.params) caches' → (irq : IrqView) (on : Bool) (cmp : ℕ) → irq.on ≡ on → irq.cmp ≡ cmp →
      CoreStandsFor s (record t { counts = counts'; slots = slots; caches = caches'; irq_on = on; cmp = cmp }) (record core { counts = counts; flight = flight; caches = caches; irq = irq })
  keeps counts counts' same_counts flight slots room same_slots caches caches' stand irq on cmp same_on same_cmp = record {
    params = k.params;
    cycle_limit = k.cycle_limit;
    output_limit = k.output_limit;
    room = room ∙ k.room;
    slots = same_slots;
    predictor = k.predictor;
    caches = stand;
    cycle = k.cycle;
    to_commit = k.to_commit;
    resume = k.resume;
    paid = k.paid;
    counts = same_counts;
    retired = k.retired;
    output = k.output;
    irq_on = same_on;
    cmp = same_cmp;
    end = k.end;
  }

  pub keeps_counts : (x : Counts) (y : machine.Counts) → counts_in x ≡ y → CoreStandsFor s (record t { counts = y }) (record core { counts = x })
  keeps_counts x y is = keeps x y is core.flight t.slots refl k.slots core.caches t.caches k.caches core.irq t.irq_on t.cmp k.irq_on k.cmp

  pub keeps_slots : (x : Contents) (y : List Slot) → x.capacity ≡ core.flight.capacity → x.slots ≡ y →
      CoreStandsFor s (record t { slots = y }) (record core { flight = x })
  keeps_slots x y room is = keeps core.counts t.counts k.counts x y room is core.caches t.caches k.caches core.irq t.irq_on t.cmp k.irq_on k.cmp

  pub keeps_caches : (x : Caches) (y : CachesState) → CachesStandFor x (caches_params s.params) y →
      CoreStandsFor s (record t { caches = y }) (record core { caches = x })
  keeps_caches x y is = keeps core.counts t.counts k.counts core.flight t.slots refl k.slots x y is core.irq t.irq_on t.cmp k.irq_on k.cmp

  pub keeps_irq : (on on' : Bool) (cmp cmp' : ℕ) → on ≡ on' → cmp ≡ cmp' →
      CoreStandsFor s (record t { irq_on = on'; cmp = cmp' }) (record core { irq = record { on = on; cmp = cmp } })
  keeps_irq on on' cmp cmp' same_on same_cmp =
      keeps core.counts t.counts k.counts core.flight t.slots refl k.slots core.caches t.caches k.caches (record { on = on; cmp = cmp }) on' cmp' same_on same_cmp

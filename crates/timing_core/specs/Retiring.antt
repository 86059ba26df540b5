-- What the oldest slot does to the state where it leaves, and slots that do little of it.
use Rattle.std.specs.Prelude.{◌≡◌, ◌+◌, if◌then◌else◌, false, None, drop}
use Rattle.fsim_base.specs.declared.instruction.Flow.TheVariants as flow
use Rattle.branch_predictor.specs.Predictor.{trained}
use Rattle.cache_timing.specs.Caches.{CachesState}
use Rattle.cache_timing.specs.declared.params.AllCaches.{AllCaches}
use Rattle.reorder_buffer.specs.declared.slot.Slot.{Slot}
use Rattle.mono_model.specs.declared.setup.Setup.{Setup}
use Rattle.mono_model.specs.Setup.{predictor_params, caches_params}
use Rattle.mono_model.specs.Found.{flow_in, is_fence_i}
use Rattle.mono_model.specs.Commit.{branch_count, caches_after}
use Rattle.timing_side.specs.Slots.{found_in}
use Rattle.timing_side.specs.Timing.{Timing}

-- the predictor has learnt from a slot, which is counted where it branches or jumps, and the data cache was accessed where
-- it stores
abbrev pub noted : Setup → Slot → Timing → Timing
noted s slot t = record t {
  predictor = trained (predictor_params s.params) t.predictor slot.addr (flow_in (found_in slot)) slot.next;
  caches = caches_after (caches_params s.params) slot.access t.caches;
  counts = record t.counts { branches = t.counts.branches + branch_count (flow_in (found_in slot)) };
}

-- its byte was sent
abbrev pub told : Slot → Timing → Timing
told slot t = record t { output = t.output + (if slot.sends then 1 else 0) }

-- the oldest slot, this one, is gone, and one more retired
abbrev pub gone : Slot → Timing → Timing
gone slot t = record t {
  slots = drop 1 t.slots;
  retired = t.retired + 1;
  to_commit = t.to_commit + 1;
  irq_on = slot.irq_on;
  cmp = slot.cmp;
}

-- it has no cause and sends nothing, and the next may follow
pub record IsQuiet (slot : Slot) : Type 0 where
  pub fence : is_fence_i (found_in slot) ≡ false
  pub cause : slot.cause ≡ None
  pub sends : slot.sends ≡ false
  pub halt : slot.halt ≡ None

-- it changes no predictor
abbrev pub TeachesNothing : Slot → Type 0
TeachesNothing slot = flow_in (found_in slot) ≡ flow.Plain

-- it changes no cache
abbrev pub TouchesNothing : Slot → Type 0
TouchesNothing slot = (p : AllCaches) (c : CachesState) → caches_after p slot.access c ≡ c

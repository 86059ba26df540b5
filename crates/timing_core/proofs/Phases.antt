-- The phases by their tests, for the state that a core keeps.
use Rattle.std.proofs.Common.{◌≡◌, ℕ, ◌+◌, ◌==◌, Bool, true, false, if◌then◌else◌, refl, ap}
use Rattle.rollback_cmds.specs.declared.order.Order.TheVariants.{Interrupt}
use Rattle.mono_model.specs.declared.setup.Setup.{Setup}
use Rattle.mono_model.specs.declared.final_state.End.{End}
use Rattle.mono_model.specs.declared.final_state.End.TheVariants.{Limit}
use Rattle.mono_model.specs.Final.{has_ended}
use Rattle.timing_side.specs.Timing.{Timing, quiet, ordering}
use Rattle.timing_side.specs.Turn.{timing_end_of_cycle}
use Rattle.timing_side.specs.Interrupt.{is_pending, take_interrupt, timing_interrupt}
use Rattle.timing_core.specs.declared.state.TimingCore.{TimingCore}
use Rattle.timing_core.specs.CoreStandsFor.{CoreStandsFor}

-- the interrupt is taken where it is pending

pub interrupts : (t : Timing) (b : Bool) → is_pending t ≡ b → timing_interrupt t ≡ (if b then ordering (Interrupt t.to_commit) (take_interrupt t) else quiet t)
unfolding timing_interrupt
interrupts t b is = ap (λ (x : Bool). if x then ordering (Interrupt t.to_commit) (take_interrupt t) else quiet t) is

-- a run that has not ended ends with its last cycle
pub with_last : (last : Bool) (end : End) → last ≡ true → (if has_ended end then end else Limit) ≡ (if has_ended end then end else (if last then Limit else end))
with_last true end is = refl
with_last false end is = cc

-- and with no other
goes_on : (last ended : Bool) (end : End) → last ≡ false → end ≡ (if ended then end else (if last then Limit else end))
goes_on false true end is = refl
goes_on false false end is = refl
goes_on true ended end is = cc

pub without_last : (last : Bool) (end : End) → last ≡ false → end ≡ (if has_ended end then end else (if last then Limit else end))
without_last last end is = goes_on last (has_ended end) end is

-- the core behind a cycle
pub ends_cycle : (s : Setup) (t : Timing) (core : TimingCore) → CoreStandsFor s t core → (cycle : ℕ) (end : End) → cycle ≡ t.cycle + 1 →
    end ≡ (if has_ended t.end then t.end else (if t.cycle + 1 == s.cycles then Limit else t.end)) →
    CoreStandsFor s (timing_end_of_cycle s t) (record core { cycle = cycle; end = end })
unfolding timing_end_of_cycle
ends_cycle s t core k cycle end next ends = record {
  params = k.params;
  cycle_limit = k.cycle_limit;
  output_limit = k.output_limit;
  room = k.room;
  slots = k.slots;
  predictor = k.predictor;
  caches = k.caches;
  cycle = next;
  to_commit = k.to_commit;
  resume = k.resume;
  paid = k.paid;
  counts = k.counts;
  retired = k.retired;
  output = k.output;
  irq_on = k.irq_on;
  cmp = k.cmp;
  end = ends;
}

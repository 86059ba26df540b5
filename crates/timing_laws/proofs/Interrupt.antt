-- The timer interrupt, seen from the timing side.
use Rattle.std.proofs.Common.{◌≡◌, ◌+◌, Bool, true, false, if◌then◌else◌, [], ◌∷◌, refl, ap}
use Rattle.rollback_cmds.specs.declared.order.Order.TheVariants.{Interrupt}
use Rattle.mono_model.specs.declared.setup.Setup.{Setup}
use Rattle.mono_model.specs.Arch.{trapped, interrupted}
use Rattle.mono_model.specs.Machine.{flushed}
use Rattle.mono_model.specs.Interrupt as mono
use Rattle.mono_model.specs.Demand.{Demand, demand_interrupt}
use Rattle.timing_side.specs.Timing.{Timing, quiet, ordering}
use Rattle.timing_side.specs.Interrupt as timing
use Rattle.timing_laws.specs.Seen.{seen}
use Rattle.timing_laws.proofs.Entries.{cut_seen, IsPhase}

taken_seen : (s : Setup) (d : Demand) →
    timing.take_interrupt (seen s d) ≡ seen s (record d { machine = mono.take_interrupt d.machine; orders = Interrupt d.to_commit ∷ d.orders })
unfolding seen flushed trapped
taken_seen s d =
    ap (λ (f : Timing). record f { irq_on = false; counts = record f.counts { interrupts = f.counts.interrupts + 1 } })
    (cut_seen s d [] (interrupted d.machine.arch).pc (Interrupt d.to_commit ∷ d.orders) [] refl)

pub interrupt_seen : (s : Setup) (d : Demand) → IsPhase s d (demand_interrupt d) (timing.timing_interrupt (seen s d))
unfolding seen mono.interrupt_phase timing.timing_interrupt
interrupt_seen s d = by_test (mono.is_interrupted d.machine)
  where
    by_test : (b : Bool) → IsPhase s d
        (record d {
          machine = if b then mono.take_interrupt d.machine else d.machine;
          orders = if b then Interrupt d.to_commit ∷ d.orders else d.orders;
        })
        (if b then ordering (Interrupt d.to_commit) (timing.take_interrupt (seen s d)) else quiet (seen s d))
    by_test true = record { timing = taken_seen s d; orders = refl }
    by_test false = record { timing = refl; orders = refl }

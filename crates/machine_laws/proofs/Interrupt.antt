-- The relation through the timer interrupt.
use Rattle.std.proofs.Common.{◌≡◌, Bool, true, false, if◌then◌else◌, ◌∷◌, refl, ap, sym, ◌∙◌, arith}
use Rattle.rollback_cmds.specs.declared.order.Order.TheVariants.{Interrupt}
use Rattle.mono_model.specs.declared.setup.Setup.{Setup}
use Rattle.mono_model.specs.Arch.{Arch, interrupted}
use Rattle.mono_model.specs.Path.{path}
use Rattle.mono_model.specs.Machine.{flushed}
use Rattle.mono_model.specs.Interrupt.{is_interrupted, take_interrupt, interrupt_phase}
use Rattle.mono_model.specs.Demand.{Demand, demand_interrupt}
use Rattle.machine_laws.specs.Relation.{Related}
use Rattle.mono_model.proofs.Path.{path_at_interrupt}

taken_related : (s : Setup) (d : Demand) → Related s d → Related s (record d { machine = take_interrupt d.machine; orders = Interrupt d.to_commit ∷ d.orders })
unfolding flushed
taken_related s d related =
    let at : interrupted d.machine.arch ≡ path s (Interrupt d.to_commit ∷ d.orders) d.to_commit =
    ap (λ (a : Arch). interrupted a) related.arch ∙ sym (path_at_interrupt s d.to_commit d.orders) in
    record {
      arch = at;
      window = (sym (ap (λ (a : Arch). a.pc) at), refl);
      on = omega arith;
      within = (omega arith, related.within);
    }

pub interrupt_related : (s : Setup) (d : Demand) → Related s d → Related s (demand_interrupt d)
unfolding interrupt_phase
interrupt_related s d related = by_test (is_interrupted d.machine)
  where
    by_test : (b : Bool) → Related s (record d {
      machine = if b then take_interrupt d.machine else d.machine;
      orders = if b then Interrupt d.to_commit ∷ d.orders else d.orders;
    })
    by_test true = taken_related s d related
    by_test false = related

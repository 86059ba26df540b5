-- What holds of the next order of a run, behind those told before it.
use Rattle.std.proofs.Common.{◌≡◌, ◌≤◌, ℕ, suc, Bool, true, false, Option, Some, None, IfSome, List, length, refl, ap, sym, ◌∙◌, subst}
use Rattle.rollback_cmds.specs.declared.order.Order.{Order}
use Rattle.rollback_cmds.specs.Order.{opens_epoch_of}
use Rattle.mono_model.specs.declared.setup.Setup.{Setup}
use Rattle.mono_model.specs.Path.{openings, has_stop}
use Rattle.mono_model.specs.Demand.{Place, place, told, order, number_of, first}
use Rattle.mono_model.specs.Split.{told_by, is_halted}
use Rattle.machine_laws.specs.Numbers.{AreNumbered, AreAtCommit}
use Rattle.machine_laws.specs.Output.{AreInRoom}
use Rattle.machine_laws.specs.Told.{AreTold, IsToldBehind}
use Rattle.machine_laws.specs.NextOrder.{MayObeyNext}
use Rattle.machine_laws.proofs.Epochs.{first_is}
use Rattle.machine_laws.proofs.Numbering.{orders_numbered, orders_at_commit}
use Rattle.machine_laws.proofs.Owing.{halted_stays}
use Rattle.machine_laws.proofs.SplitOutput.{orders_have_room}
use Rattle.machine_laws.proofs.Stopping.{stop_told}
use Rattle.machine_laws.proofs.Telling.{by_none}
use Rattle.machine_laws.proofs.OrderSteps.{order_told_behind}

-- a run that has halted tells nothing
pub telling_goes_on : (s : Setup) (k : ℕ) (o : Order) → told_by (place s k) (place s (suc k)) ≡ Some o → is_halted (place s k).run.at ≡ false
telling_goes_on s k o tells = by_test (is_halted (place s k).run.at) refl
  where
    by_test : (b : Bool) → is_halted (place s k).run.at ≡ b → is_halted (place s k).run.at ≡ false
    by_test false on = on
    by_test true over =
        let none : told_by (place s k) (place s (suc k)) ≡ None = by_none (place s k) (place s (suc k)) (ap (λ (p : Place). told p) (halted_stays s k over)) in
        let impossible : None ≡ Some o = sym none ∙ tells in cc

pub may_obey_next : (s : Setup) (os : List Order) (o : Order) → 1 ≤ s.cycles → AreTold s os → order s (length os) ≡ Some o → MayObeyNext s os o
may_obey_next s os o limited are is =
    let t : IsToldBehind s os o = order_told_behind s os o are is in
    let P : Option Order → Type 0 = λ x. IfSome x (λ o. opens_epoch_of o ≡ true → first s (openings (told (place s (suc t.steps)))) ≡ number_of o) in
    record {
      told = record { steps = suc t.steps; are = t.behind };
      numbered = (subst (AreNumbered s) t.behind (orders_numbered s (suc t.steps))).0;
      kind = (subst AreAtCommit t.behind (orders_at_commit s (suc t.steps))).0;
      running = ap has_stop (sym t.before) ∙ stop_told s t.steps ∙ telling_goes_on s t.steps o t.tells;
      output = (subst (AreInRoom s) t.behind (orders_have_room s (suc t.steps))).0;
      opening = λ opens. ap (λ (l : List Order). first s (openings l)) (sym t.behind) ∙ subst P t.tells (first_is s t.steps limited) opens;
    }

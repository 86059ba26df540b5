-- What a timing side needs of the in-order machine's demand run and pipeline.
use Rattle.std.proofs.Common.{◌≡◌, ℕ, suc, ◌-◌, length, refl, ap, sym, ◌∙◌, subst}
use Rattle.mono_model.specs.declared.setup.Setup.{Setup}
use Rattle.mono_model.specs.Demand.{place_start}
use Rattle.inorder_machine.specs.Demand.{InorderRun, InorderPlace, inorder_place, inorder_step_by, inorder_step, seen_at, seen_of, seen}
use Rattle.inorder_laws.proofs.Owing.{inorder_place_suc, place_owes, place_stepped}
use Rattle.inorder_timing_laws.specs.Seen.{inorder_held}
use Rattle.time_model.specs.Piped.{IsPiped}
use Rattle.inorder_model.specs.declared.at.At.{At}
use Rattle.inorder_model.specs.declared.timing.InorderTimingCore.{InorderTimingCore}
use Rattle.inorder_model.specs.At.{at_in}
use Rattle.inorder_model.specs.InorderStandsFor.{InorderStandsFor}
use Rattle.inorder_model.specs.Standing.{InorderStandsAt, inorder_piped}
use Rattle.inorder_model.specs.SmallLaws.{place_small, epoch_small}

starts : (s : Setup) → seen s 0 ≡ place_start s
unfolding inorder_place
starts s = refl

-- a turn is made where nothing is owed, and else one that is owed is told
pub turn_next : (s : Setup) (k : ℕ) → (inorder_place s k).owed ≡ 0 → inorder_place s (suc k) ≡ inorder_step_by s 0 (inorder_place s k).run
unfolding inorder_step
turn_next s k none = inorder_place_suc s k ∙ ap (λ (n : ℕ). inorder_step_by s n (inorder_place s k).run) none

next_owing : (s : Setup) (k more : ℕ) → (inorder_place s k).owed ≡ suc more → inorder_place s (suc k) ≡ record { run = (inorder_place s k).run; owed = more }
unfolding inorder_step
next_owing s k more some = inorder_place_suc s k ∙ ap (λ (n : ℕ). inorder_step_by s n (inorder_place s k).run) some

turned : (s : Setup) (k : ℕ) → (inorder_place s k).owed ≡ 0 →
    (inorder_place s (suc k)).owed ≡ length (inorder_place s (suc k)).run.demand.orders - length (inorder_place s k).run.demand.orders - 1
turned s k none =
    ap (λ (p : InorderPlace). p.owed) (turn_next s k none)
    ∙ ap (λ (p : InorderPlace). length p.run.demand.orders - length (inorder_place s k).run.demand.orders - 1) (sym (turn_next s k none))

still : (s : Setup) (k more : ℕ) (inorder : InorderTimingCore) (at : At) → (inorder_place s k).owed ≡ suc more → InorderStandsAt s k inorder at → InorderStandsAt s (suc k) inorder at
still s k more inorder at some is =
    let same : (inorder_place s k).run ≡ (inorder_place s (suc k)).run = sym (ap (λ (p : InorderPlace). p.run) (next_owing s k more some)) in
    record {
      inorder = subst (λ (r : InorderRun). InorderStandsFor s (inorder_held s r.demand r.memory) inorder) same is.inorder;
      at = subst (λ (r : InorderRun). at_in at ≡ r.at) same is.at;
    }

pub inorder_laws : IsPiped inorder_piped
inorder_laws = record {
  sound = λ s allowed. allowed.sound;
  start = starts;
  owes = place_owes;
  stepped = place_stepped;
  turned = turned;
  owing = λ s k more some. ap seen_of (next_owing s k more some);
  still = still;
  at = λ s k inorder at is. ap seen_at is.at;
  core = λ s k inorder at is. is.inorder.core;
  small = λ s k allowed. place_small s k allowed;
  epoch = λ s k allowed. epoch_small s k allowed;
}

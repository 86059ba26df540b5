-- What a timing side needs of the monolithic machine's demand run and of the out-of-order machine's pipeline.
use Rattle.std.proofs.Common.{◌≡◌, ℕ, suc, ◌-◌, length, refl, ap, sym, ◌∙◌, subst}
use Rattle.mono_model.specs.declared.setup.Setup.{Setup}
use Rattle.mono_model.specs.Demand.{Run, Place, place, place_start, step_by, step}
use Rattle.mono_model.proofs.Next.{place-suc}
use Rattle.machine_laws.proofs.Owing.{place_owes}
use Rattle.machine_laws.proofs.SplitSteps.{Stepped, step_stepped}
use Rattle.mono_model.specs.Split.{is_halted}
use Rattle.std.specs.Prelude.{false}
use Rattle.timing_laws.specs.Seen.{seen}
use Rattle.timing_core.specs.declared.state.TimingCore.{TimingCore}
use Rattle.timing_core.specs.CoreStandsFor.{CoreStandsFor}
use Rattle.time_model.specs.declared.at.At.{At}
use Rattle.time_model.specs.At.{at_in}
use Rattle.time_model.specs.Piped.{IsPiped}
use Rattle.time_model.specs.OutOfOrder.{CoreStandsAt, core_piped}
use Rattle.time_model.specs.SmallLaws.{place_small, epoch_small}

starts : (s : Setup) → place s 0 ≡ place_start s
unfolding place
starts s = refl

stepped : (s : Setup) (k : ℕ) → is_halted (place s k).run.at ≡ false → Stepped (place s k) (place s (suc k))
stepped s k on = subst (λ (q : Place). Stepped (place s k) q) (sym (place-suc s k)) (step_stepped s (place s k) on (place_owes s k))

-- a turn is made where nothing is owed, and else one that is owed is told
pub turn_next : (s : Setup) (k : ℕ) → (place s k).owed ≡ 0 → place s (suc k) ≡ step_by s 0 (place s k).run
unfolding step
turn_next s k none = place-suc s k ∙ ap (λ (n : ℕ). step_by s n (place s k).run) none

owing : (s : Setup) (k more : ℕ) → (place s k).owed ≡ suc more → place s (suc k) ≡ record { run = (place s k).run; owed = more }
unfolding step
owing s k more some = place-suc s k ∙ ap (λ (n : ℕ). step_by s n (place s k).run) some

turned : (s : Setup) (k : ℕ) → (place s k).owed ≡ 0 → (place s (suc k)).owed ≡ length (place s (suc k)).run.demand.orders - length (place s k).run.demand.orders - 1
turned s k none =
    ap (λ (p : Place). p.owed) (turn_next s k none)
    ∙ ap (λ (p : Place). length p.run.demand.orders - length (place s k).run.demand.orders - 1) (sym (turn_next s k none))

still : (s : Setup) (k more : ℕ) (core : TimingCore) (at : At) → (place s k).owed ≡ suc more → CoreStandsAt s k core at → CoreStandsAt s (suc k) core at
still s k more core at some is =
    let same : (place s k).run ≡ (place s (suc k)).run = sym (ap (λ (p : Place). p.run) (owing s k more some)) in
    record {
      core = subst (λ (r : Run). CoreStandsFor s (seen s r.demand) core) same is.core;
      at = subst (λ (r : Run). at_in at ≡ r.at) same is.at;
    }

pub core_laws : IsPiped core_piped
core_laws = record {
  sound = λ s allowed. allowed;
  start = starts;
  owes = place_owes;
  stepped = stepped;
  turned = turned;
  owing = owing;
  still = still;
  at = λ s k core at is. is.at;
  core = λ s k core at is. is.core;
  small = λ s k allowed. place_small s k allowed;
  epoch = λ s k allowed. epoch_small s k allowed;
}

-- The demand run of the monolithic machine is one as the law of the split state takes it.
use Rattle.std.proofs.Common.{◌≡◌, ℕ, suc, false, [], reverse, sym, ap, subst, refl}
use Rattle.mono_model.specs.declared.setup.Setup.{Setup}
use Rattle.mono_model.specs.Path.{entry}
use Rattle.mono_model.specs.Demand.{Place, place, place_start, step, told, step_bound, orders, prefix_with, entry_in}
use Rattle.mono_model.specs.Split.{is_halted}
use Rattle.mono_model.proofs.Next.{place-suc}
use Rattle.machine_laws.specs.DemandRun.{mono_run}
use Rattle.machine_laws.proofs.Laws.{IsDemandRun}
use Rattle.machine_laws.proofs.Bounds.{run_bounded}
use Rattle.machine_laws.proofs.DemandRun.{is_mono}
use Rattle.machine_laws.proofs.Halting.{run_halts}
use Rattle.machine_laws.proofs.Numbering.{orders_numbered, orders_at_commit, window_within}
use Rattle.machine_laws.proofs.OutputRoom.{output_within}
use Rattle.machine_laws.proofs.Owing.{place_owes, halted_stays}
use Rattle.machine_laws.proofs.Places.{place_related}
use Rattle.machine_laws.proofs.SplitSteps.{Stepped, step_stepped}
use Rattle.machine_laws.proofs.Staying.{done_told}
use Rattle.machine_laws.proofs.Telling.{step_told}

starts : (s : Setup) → place s 0 ≡ place_start s
unfolding place
starts s = refl

pub step_is : (s : Setup) (k : ℕ) (p : Place) → p ≡ place s k → step s p ≡ place s (suc k)
unfolding place
step_is s k p e = ap (λ (q : Place). step s q) e

stepped : (s : Setup) (k : ℕ) → is_halted (place s k).run.at ≡ false → Stepped (place s k) (place s (suc k))
stepped s k on = subst (Stepped (place s k)) (sym (place-suc s k)) (step_stepped s (place s k) on (place_owes s k))

named : (s : Setup) (epoch n : ℕ) → entry_in s epoch n ≡ entry s (prefix_with [] (reverse (told (place s (step_bound s)))) epoch) n
unfolding entry_in orders
named s epoch n = refl

pub mono_laws : (s : Setup) → IsDemandRun s (mono_run s)
mono_laws s = record {
  start = starts s;
  tells = step_told s;
  owes = place_owes s;
  stepped = stepped s;
  stays = halted_stays s;
  halts = λ limited. ap is_halted (run_halts s limited).at;
  related = place_related s;
  numbered = orders_numbered s;
  kinds = orders_at_commit s;
  done = done_told s;
  window = window_within s;
  output = output_within s;
  commits = λ limited k. (run_bounded s k limited).to_commit;
  by_cycles = is_mono s;
  named = named s;
}

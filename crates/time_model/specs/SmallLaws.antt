-- The numbers of the timing side are small at each place of a run that is allowed.
use Rattle.std.proofs.Common.{◌≡◌, ℕ, ◌+◌, ◌*◌, ◌^◌, ◌≤◌, ◌<◌, ◌⊎◌, true, subst, sym, arith, inl, inr, mul-le-mul}
use Rattle.std.proofs.lemmas.Bool.{cases_lt}
use Rattle.mono_model.specs.declared.setup.Setup.{Setup}
use Rattle.mono_model.specs.Setup.{is_setup}
use Rattle.mono_model.specs.Path.{openings}
use Rattle.mono_model.specs.Demand.{Place, place, told, step_bound}
use Rattle.mono_model.proofs.Sound.{setup_facts}
use Rattle.machine_laws.proofs.SplitBounds.{told_count}
use Rattle.machine_laws.proofs.Counting.{run_counted}
use Rattle.machine_laws.proofs.Bounds.{run_bounded}
use Rattle.machine_laws.proofs.OutputRoom.{output_within}
use Rattle.machine_laws.proofs.Halting.{run_halts}
use Rattle.timing_laws.specs.Seen.{seen, seen_at}
use Rattle.timing_core.specs.Small.{IsSmall}
use Rattle.time_model.specs.BoundedLaws.{IsBounded, seen_bounded}

steps_small : (s : Setup) → is_setup s ≡ true → step_bound s ≤ 2 ^ 44
steps_small s sound =
    let r = setup_facts s sound in
    let fetches : s.params.core_fetch + 6 ≤ 14 = omega (arith, r.fetch) in
    let steps : s.cycles * (s.params.core_fetch + 6) ≤ 1099511627776 * 14 = mul-le-mul r.cycles fetches in
    omega (arith, steps)

-- behind no more steps than the bound
within_small : (s : Setup) (k : ℕ) → is_setup s ≡ true → k ≤ step_bound s → IsSmall (seen s (place s k).run.demand)
unfolding seen seen_at
within_small s k sound within =
    let r = setup_facts s sound in
    let steps = steps_small s sound in
    let counted = run_counted s k in
    let bounded = run_bounded s k r.some_cycle in
    let shown : IsBounded (seen s (place s k).run.demand) = seen_bounded s r k in
    let commits : s.params.core_commit * s.cycles ≤ 8 * 1099511627776 = mul-le-mul r.commit r.cycles in
    let done : (place s k).run.demand.to_commit ≤ 8 * 1099511627776 = omega (arith, bounded.to_commit, commits) in
    let cycle : (place s k).run.demand.machine.cycle ≤ 1099511627776 = omega (arith, bounded.cycle, r.cycles) in
    record {
      cycle = omega (arith, cycle);
      to_commit = omega (arith, done);
      resume = omega (arith, cycle, shown.resume);
      exceptions = omega (arith, done, counted.exceptions);
      interrupts = omega (arith, steps, counted.interrupts);
      replays = omega (arith, steps, counted.replays);
      fetched = omega (arith, steps, counted.fetched);
      squashed = omega (arith, steps, counted.fetched, counted.records);
      branches = omega (arith, done, counted.branches);
      mispredicted = omega (arith, steps, counted.mispredicted);
      retired = omega (arith, done, shown.retired);
      output = omega (arith, r.output, output_within s k);
      order = shown.order;
    }

pub place_small : (s : Setup) (k : ℕ) → is_setup s ≡ true → IsSmall (seen s (place s k).run.demand)
place_small s k sound = by_order (cases_lt k (step_bound s))
  where
    still : step_bound s ≤ k → IsSmall (seen s (place s k).run.demand)
    still more =
        subst (λ (p : Place). IsSmall (seen s p.run.demand)) (sym ((run_halts s (setup_facts s sound).some_cycle).still k more))
        (within_small s (step_bound s) sound (omega arith))

    by_order : (k < step_bound s) ⊎ (step_bound s ≤ k) → IsSmall (seen s (place s k).run.demand)
    by_order (inl less) = within_small s k sound (omega arith)
    by_order (inr more) = still more

-- and so is the epoch
pub epoch_small : (s : Setup) (k : ℕ) → is_setup s ≡ true → openings (told (place s k)) ≤ 2 ^ 44
epoch_small s k sound = omega (arith, told_count s k (setup_facts s sound).some_cycle, steps_small s sound)

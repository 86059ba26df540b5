-- The numbers of the timing side are small at each place of a run that is allowed.
use Rattle.std.proofs.Common.{◌≡◌, ℕ, ◌^◌, ◌≤◌, ◌<◌, ◌⊎◌, true, subst, sym, arith, inl, inr}
use Rattle.std.proofs.lemmas.Bool.{cases_lt}
use Rattle.mono_model.specs.declared.setup.Setup.{Setup}
use Rattle.mono_model.specs.Setup.{is_setup}
use Rattle.mono_model.specs.Path.{openings}
use Rattle.mono_model.specs.Demand.{told}
use Rattle.mono_model.proofs.Sound.{setup_facts}
use Rattle.machine_laws.proofs.SplitBounds.{openings_most}
use Rattle.timing_laws.specs.Seen as timing
use Rattle.timing_core.specs.Small.{IsSmall}
use Rattle.time_model.specs.BoundedLaws.{IsBounded}
use Rattle.inorder_machine.specs.Demand.{InorderPlace, inorder_place, inorder_step_bound, seen_of, seen}
use Rattle.inorder_laws.proofs.Counting.{run_counted}
use Rattle.inorder_laws.proofs.Bounds.{run_bounded}
use Rattle.inorder_laws.proofs.OutputRoom.{output_within}
use Rattle.inorder_laws.proofs.Halting.{run_halts}
use Rattle.inorder_timing_laws.specs.Seen.{inorder_held_at}
use Rattle.inorder_machine.specs.Setup.{IsInorder}
use Rattle.inorder_model.specs.BoundedLaws.{held_bounded}

steps_small : (s : Setup) → is_setup s ≡ true → inorder_step_bound s ≤ 2 ^ 44
steps_small s sound = let r = setup_facts s sound in omega (arith, r.cycles)

-- behind no more steps than the bound
within_small : (s : Setup) (k : ℕ) → IsInorder s → k ≤ inorder_step_bound s → IsSmall (timing.seen s (inorder_place s k).run.demand)
unfolding timing.seen inorder_held_at
within_small s k allowed within =
    let r = setup_facts s allowed.sound in
    let steps = steps_small s allowed.sound in
    let counted = run_counted s k in
    let bounded = run_bounded s k r.some_cycle allowed.window in
    let shown : IsBounded (timing.seen s (inorder_place s k).run.demand) = held_bounded s r k in
    let done : (inorder_place s k).run.demand.to_commit ≤ 1099511627776 = omega (arith, bounded.to_commit, r.cycles) in
    let cycle : (inorder_place s k).run.demand.machine.cycle ≤ 1099511627776 = omega (arith, bounded.cycle, r.cycles) in
    record {
      cycle = omega (arith, cycle);
      to_commit = omega (arith, done);
      resume = omega (arith, cycle, shown.resume);
      exceptions = omega (arith, done, counted.exceptions);
      interrupts = omega (arith, steps, counted.interrupts);
      replays = omega (arith, steps, counted.replays);
      fetched = omega (arith, steps, counted.fetched);
      squashed = omega (arith, steps, counted.fetched, counted.records);
      branches = omega (arith, done, counted.branches);
      mispredicted = omega (arith, steps, counted.mispredicted);
      retired = omega (arith, done, shown.retired);
      output = omega (arith, r.output, output_within s k);
      order = shown.order;
    }

pub place_small : (s : Setup) (k : ℕ) → IsInorder s → IsSmall (timing.seen s (inorder_place s k).run.demand)
place_small s k allowed = by_order (cases_lt k (inorder_step_bound s))
  where
    still : inorder_step_bound s ≤ k → IsSmall (timing.seen s (inorder_place s k).run.demand)
    still more =
        subst (λ (p : InorderPlace). IsSmall (timing.seen s p.run.demand)) (sym ((run_halts s (setup_facts s allowed.sound).some_cycle).still k more))
        (within_small s (inorder_step_bound s) allowed (omega arith))

    by_order : (k < inorder_step_bound s) ⊎ (inorder_step_bound s ≤ k) → IsSmall (timing.seen s (inorder_place s k).run.demand)
    by_order (inl less) = within_small s k allowed (omega arith)
    by_order (inr more) = still more

-- and so is the epoch
told_within : (s : Setup) (k : ℕ) → IsInorder s → k ≤ inorder_step_bound s → openings (told (seen s k)) ≤ 2 ^ 44
told_within s k allowed within =
    let bounded = run_bounded s k (setup_facts s allowed.sound).some_cycle allowed.window in
    omega (arith, openings_most (told (seen s k)), bounded.orders, steps_small s allowed.sound)

pub epoch_small : (s : Setup) (k : ℕ) → IsInorder s → openings (told (seen s k)) ≤ 2 ^ 44
epoch_small s k allowed = by_order (cases_lt k (inorder_step_bound s))
  where
    still : inorder_step_bound s ≤ k → openings (told (seen s k)) ≤ 2 ^ 44
    still more =
        subst (λ (p : InorderPlace). openings (told (seen_of p)) ≤ 2 ^ 44) (sym ((run_halts s (setup_facts s allowed.sound).some_cycle).still k more))
        (told_within s (inorder_step_bound s) allowed (omega arith))

    by_order : (k < inorder_step_bound s) ⊎ (inorder_step_bound s ≤ k) → openings (told (seen s k)) ≤ 2 ^ 44
    by_order (inl less) = told_within s k allowed (omega arith)
    by_order (inr more) = still more

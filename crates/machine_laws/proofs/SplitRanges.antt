-- How far the split state's numbers go in a run that is allowed.
use Rattle.std.proofs.Common.{◌≡◌, ◌+◌, ◌*◌, ◌≤◌, true, List, arith, mul-le-mul}
use Rattle.mono_model.specs.Setup.{is_setup}
use Rattle.mono_model.specs.declared.setup.Setup.{Setup}
use Rattle.mono_model.specs.Split.{Split, Event, run}
use Rattle.mono_model.proofs.Sound.{setup_facts}
use Rattle.machine_laws.specs.SplitLaw.{IsRun, IsRanged}
use Rattle.machine_laws.proofs.SplitRun.{is_run}

ranged : (s : Setup) (x : Split) → is_setup s ≡ true → IsRun s x → IsRanged x
ranged s x is law =
    let r = setup_facts s is in
    let small = law.small r.some_cycle in
    let commits : s.params.core_commit * s.cycles ≤ 8 * 1099511627776 = mul-le-mul r.commit r.cycles in
    let fetches : s.params.core_fetch + 6 ≤ 14 = omega (arith, r.fetch) in
    let steps : s.cycles * (s.params.core_fetch + 6) ≤ 1099511627776 * 14 = mul-le-mul r.cycles fetches in
    record {
      committed = omega (arith, small.committed, commits);
      position = omega (arith, small.position, commits, r.window, r.ring);
      obeyed = omega (arith, small.obeyed, small.epoch, steps);
      epoch = omega (arith, small.epoch, steps);
    }

pub run_ranged : (s : Setup) (events : List Event) → is_setup s ≡ true → IsRanged (run s events)
run_ranged s events is = ranged s (run s events) is (is_run s events)

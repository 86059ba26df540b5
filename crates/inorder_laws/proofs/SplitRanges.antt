-- How far the split state's numbers go in a run that is allowed.
use Rattle.std.proofs.Common.{◌≡◌, ◌≤◌, true, List, arith}
use Rattle.mono_model.specs.Setup.{is_setup}
use Rattle.mono_model.specs.declared.setup.Setup.{Setup}
use Rattle.mono_model.specs.Split.{Split, Event}
use Rattle.mono_model.proofs.Sound.{setup_facts}
use Rattle.machine_laws.specs.SplitLaw.{IsRunIn, IsRanged}
use Rattle.inorder_machine.specs.Split.{inorder_run}
use Rattle.inorder_laws.specs.SplitLaw.{inorder_demand_run}
use Rattle.inorder_laws.proofs.SplitRun.{is_inorder_run}

ranged : (s : Setup) (x : Split) → is_setup s ≡ true → IsRunIn s (inorder_demand_run s) x → IsRanged x
ranged s x is law =
    let r = setup_facts s is in
    let small = law.small r.some_cycle in
    record {
      committed = omega (arith, small.committed, r.cycles);
      position = omega (arith, small.position, r.cycles, r.window, r.ring);
      obeyed = omega (arith, small.obeyed, small.epoch, r.cycles);
      epoch = omega (arith, small.epoch, r.cycles);
    }

pub inorder_run_ranged : (s : Setup) (events : List Event) → is_setup s ≡ true → 4 ≤ s.params.core_window → IsRanged (inorder_run s events).split
inorder_run_ranged s events is room = ranged s (inorder_run s events).split is (is_inorder_run s events room).law

use Rattle.std.proofs.Common.{ap}
use Rattle.mono_model.proofs.Sound.{setup_facts}
use Rattle.trace_ring.specs.Ends.{FuncAt}
use Rattle.fast_threads.proofs.Functional.{func_starts, func_same, none_obeyed}
use Rattle.fast_threads.proofs.func_worker.FuncWorker.new.Goals as goal

pub new-requires-2 : goal.new-requires-2
new-requires-2 g c = record { in_range = (setup_facts c.args.setup.now c.requires.sound).predictor }

pub invariant_of-result : goal.invariant_of-result
invariant_of-result g c =
    func_same _ c.args.end c.in_ok-side.side _
    (func_starts c.args.setup.now c.in_ok-side.side c.requires.sound c.in_ok-side.ensures.stands c.in_ok-side.ensures.fresh) c.requires.end

pub returns-clause-start : goal.returns-clause-start
returns-clause-start g c =
    none_obeyed c.args.setup.now _ c.in_ok-side.side (ap (λ (e : FuncAt). e.taken) c.requires.end) c.in_ok-side.ensures.stands c.in_ok-side.ensures.fresh

use Rattle.fast_threads.proofs.Keeping.{keeps}
use Rattle.fast_threads.proofs.session.Session.take_turns.Goals as goal

pub returns-clause-kept : goal.returns-clause-kept
returns-clause-kept g c = keeps c.args.self.now _ c.loop.invariant.0 c.loop.invariant.3

use Rattle.insight_laws.proofs.Sights.{inorder_cycles, window_cycles}
use Rattle.insight_laws.proofs.following.cycles_are_seen_within_the_limit.Goals as goal

pub returns-clause-window : goal.returns-clause-window
returns-clause-window c = λ s n some. window_cycles s n some

pub returns-clause-inorder : goal.returns-clause-inorder
returns-clause-inorder c = λ s n some. inorder_cycles s n (c.run_in_order_ends_once.ensures.ends s some)

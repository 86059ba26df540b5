use Rattle.insight_laws.proofs.Sights.{inorder_sight_next, window_next}
use Rattle.insight_laws.proofs.following.cycles_are_seen_one_after_another.Goals as goal

pub returns-clause-window : goal.returns-clause-window
returns-clause-window c = λ s n some goes. window_next s n some goes

pub returns-clause-inorder : goal.returns-clause-inorder
returns-clause-inorder c = λ s n some goes. inorder_sight_next s n (c.run_in_order_ends_once.ensures.ends s some) goes

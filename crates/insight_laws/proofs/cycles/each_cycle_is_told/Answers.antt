use Rattle.insight_laws.proofs.Lengths.{window_cycles, inorder_cycles}
use Rattle.insight_laws.proofs.cycles.each_cycle_is_told.Goals as goal

pub returns-clause-window : goal.returns-clause-window
returns-clause-window c = λ s some. window_cycles s (c.run_ends_once.ensures.ends s some)

pub returns-clause-inorder : goal.returns-clause-inorder
returns-clause-inorder c = λ s some. inorder_cycles s (c.run_in_order_ends_once.ensures.ends s some)

-- One name that opens the definitions of the in-order machine beside those that it shares with the monolithic one.
use Rattle.std.proofs.Common.{ℕ}
use Rattle.worked_examples.proofs.Computing.{computing}
use Rattle.inorder_machine.specs.InorderMachine.{inorder_start}
use Rattle.inorder_machine.specs.Write.{inorder_interrupt, inorder_commit, inorder_write}
use Rattle.inorder_machine.specs.Memory.{inorder_memory}
use Rattle.inorder_machine.specs.Execute.{moving, inorder_execute}
use Rattle.inorder_machine.specs.Issue.{issue_of, issue_from, inorder_wants_time, inorder_issue}
use Rattle.inorder_machine.specs.Fetch.{inorder_may_fetch, inorder_fetch}
use Rattle.inorder_machine.specs.Cycle.{inorder_cycled, inorder, inorder_text}
use Rattle.inorder_machine.specs.Demand.{inorder_turn, inorder_step, inorder_place, inorder_orders}
use Rattle.inorder_machine.specs.Split.{inorder_split_start, inorder_event_at}

unfoldable pub inorder_computing : ℕ
unfolding computing inorder_start inorder_interrupt inorder_commit inorder_write inorder_memory moving inorder_execute issue_of issue_from inorder_wants_time inorder_issue inorder_may_fetch inorder_fetch inorder_cycled inorder inorder_text inorder_turn inorder_step inorder_place inorder_orders inorder_split_start inorder_event_at
inorder_computing = computing

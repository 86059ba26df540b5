use Rattle.std.proofs.Common.{rules}
use Rattle.inorder_side.specs.Turn.{timing_inorder_turn}
use Rattle.inorder_side.specs.Issue.{timing_inorder_issue}
use Rattle.inorder_model.specs.declared.at.At.TheVariants.{Issuing}
use Rattle.inorder_model.proofs.Turns.{turned_by, at_turned}
use Rattle.inorder_model.proofs.in_order.IssuingPhaseInorderTimingCoreAt.make.Goals as goal

pub returns : goal.returns
unfolding timing_inorder_turn
returns c = record {
  made = record {
    plain = search rules;
    goes = search rules;
    made = at_turned Issuing c.args.next.now c.args.timing.now _ _ _ c.requires.comes (turned_by c.args.timing.now Issuing _ _ _ (λ s l e h small.
        let kept = c.issue-orders.ensures.kept s l h small in
        record { inorder = kept; at = c.at_after_issue.ensures.at s (timing_inorder_issue s l).inorder kept; orders = c.issue-orders.ensures.orders s l h small }));
  };
}

use Rattle.std.proofs.Common.{rules}
use Rattle.inorder_side.specs.Turn.{timing_inorder_turn}
use Rattle.inorder_side.specs.Phases.{timing_inorder_write}
use Rattle.inorder_model.specs.declared.at.At.TheVariants.{Writing}
use Rattle.inorder_model.proofs.Turns.{turned_by, at_turned}
use Rattle.inorder_model.proofs.in_order.WritingPhaseInorderTimingCoreAt.make.Goals as goal

pub returns : goal.returns
unfolding timing_inorder_turn
returns c = record {
  made = record {
    plain = search rules;
    goes = search rules;
    made = at_turned Writing c.args.next.now c.args.timing.now _ _ _ c.requires.comes (turned_by c.args.timing.now Writing _ _ _ (λ s l e h small.
        let kept = c.write-orders.ensures.kept s l h small in
        record { inorder = kept; at = c.at_after_write.ensures.at s (timing_inorder_write s l).inorder kept; orders = c.write-orders.ensures.orders s l h small }));
  };
}

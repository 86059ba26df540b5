use Rattle.std.proofs.Common.{rules}
use Rattle.inorder_side.specs.Turn.{timing_inorder_turn}
use Rattle.timing_side.specs.Turn.{timing_end_of_cycle}
use Rattle.inorder_model.specs.declared.at.At.TheVariants.{Ending}
use Rattle.inorder_model.proofs.Turns.{turned_by, at_turned}
use Rattle.inorder_model.proofs.in_order.EndingPhaseInorderTimingCoreAt.make.Goals as goal

pub returns : goal.returns
unfolding timing_inorder_turn
returns c = record {
  made = record {
    plain = search rules;
    goes = search rules;
    made = at_turned Ending c.args.next.now c.args.timing.now _ _ _ c.requires.comes (turned_by c.args.timing.now Ending _ _ _ (λ s l e h small.
        let kept = c.end_cycle.ensures.kept s l h small in
        record { inorder = kept; at = c.at_after_end.ensures.at s (record l { timing = timing_end_of_cycle s l.timing }) kept; orders = c.none.ensures.none }));
  };
}

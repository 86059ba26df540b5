use Rattle.std.proofs.Common.{rules, refl}
use Rattle.inorder_side.specs.Turn.{timing_inorder_turn}
use Rattle.inorder_model.specs.declared.at.At.TheVariants.{Executing}
use Rattle.inorder_model.proofs.Turns.{turned_by, at_turned}
use Rattle.inorder_model.proofs.in_order.ExecutingPhaseInorderTimingCoreAt.make.Goals as goal

pub returns : goal.returns
unfolding timing_inorder_turn
returns c = record {
  made = record {
    plain = search rules;
    goes = search rules;
    made = at_turned Executing c.args.next.now c.args.timing.now _ _ _ c.requires.comes (turned_by c.args.timing.now Executing _ _ _ (λ s l e h small.
        record { inorder = c.execute.ensures.kept s l h small; at = refl; orders = c.execute.ensures.orders s l h small }));
  };
}

use Rattle.std.proofs.Common.{rules, refl}
use Rattle.inorder_side.specs.Turn.{timing_inorder_turn}
use Rattle.inorder_model.specs.declared.at.At.TheVariants.{Accessing}
use Rattle.inorder_model.proofs.Turns.{turned_by, at_turned}
use Rattle.inorder_model.proofs.in_order.AccessingPhaseInorderTimingCoreAt.make.Goals as goal

pub returns : goal.returns
unfolding timing_inorder_turn
returns c = record {
  made = record {
    plain = search rules;
    goes = search rules;
    made = at_turned Accessing c.args.next.now c.args.timing.now _ _ _ c.requires.comes (turned_by c.args.timing.now Accessing _ _ _ (λ s l e h small.
        record { inorder = c.access.ensures.kept s l h; at = refl; orders = c.none.ensures.none }));
  };
}

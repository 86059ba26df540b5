use Rattle.std.proofs.Common.{rules}
use Rattle.timing_side.specs.Turn.{timing_turn}
use Rattle.timing_side.specs.Commit.{timing_commit}
use Rattle.time_model.specs.declared.at.At.TheVariants.{Committing}
use Rattle.time_model.proofs.Turns.{turned_by, at_turned}
use Rattle.time_model.proofs.out_of_order.CommittingPhaseTimingCoreAt.make.Goals as goal

pub returns : goal.returns
unfolding timing_turn
returns c = record {
  made = record {
    plain = search rules;
    goes = search rules;
    made = at_turned Committing c.args.next.now c.args.core.now _ _ _ c.requires.comes (turned_by c.args.core.now Committing _ _ _ (λ s t e h small.
        let kept = c.commit-orders.ensures.kept s t h small in
        record { core = kept; at = c.at_after_commit.ensures.at s (timing_commit s t).timing kept; orders = c.commit-orders.ensures.orders s t h small }));
  };
}

use Rattle.std.proofs.Common.{rules}
use Rattle.timing_side.specs.Turn.{timing_turn}
use Rattle.timing_side.specs.Turn.{timing_end_of_cycle}
use Rattle.time_model.specs.declared.at.At.TheVariants.{Ending}
use Rattle.time_model.proofs.Turns.{turned_by, at_turned}
use Rattle.time_model.proofs.out_of_order.EndingPhaseTimingCoreAt.make.Goals as goal

pub returns : goal.returns
unfolding timing_turn
returns c = record {
  made = record {
    plain = search rules;
    goes = search rules;
    made = at_turned Ending c.args.next.now c.args.core.now _ _ _ c.requires.comes (turned_by c.args.core.now Ending _ _ _ (λ s t e h small.
        let kept = c.end_cycle.ensures.kept s t h small in
        record { core = kept; at = c.at_after_cycle.ensures.at s (timing_end_of_cycle s t) kept; orders = c.none.ensures.none }));
  };
}

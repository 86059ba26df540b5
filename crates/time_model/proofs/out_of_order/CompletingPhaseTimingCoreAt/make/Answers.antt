use Rattle.std.proofs.Common.{rules, refl}
use Rattle.timing_side.specs.Turn.{timing_turn}
use Rattle.time_model.specs.declared.at.At.TheVariants.{Completing}
use Rattle.time_model.proofs.Turns.{turned_by, at_turned}
use Rattle.time_model.proofs.out_of_order.CompletingPhaseTimingCoreAt.make.Goals as goal

pub returns : goal.returns
unfolding timing_turn
returns c = record {
  made = record {
    plain = search rules;
    goes = search rules;
    made = at_turned Completing c.args.next.now c.args.core.now _ _ _ c.requires.comes (turned_by c.args.core.now Completing _ _ _ (λ s t e h small.
        record { core = c.complete.ensures.kept s t h small; at = refl; orders = c.complete.ensures.orders s t h small }));
  };
}

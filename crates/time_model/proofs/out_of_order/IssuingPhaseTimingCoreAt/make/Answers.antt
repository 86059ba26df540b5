use Rattle.std.proofs.Common.{◌≡◌, ℕ, rules, ap, ◌∙◌}
use Rattle.timing_side.specs.Turn.{timing_turn}
use Rattle.timing_side.specs.Issue.{timing_issue}
use Rattle.timing_side.specs.Turn.{try_or_end}
use Rattle.time_model.specs.At.{at_in}
use Rattle.time_model.specs.declared.at.At.TheVariants.{Issuing}
use Rattle.time_model.proofs.Turns.{turned_by, at_turned}
use Rattle.time_model.proofs.out_of_order.IssuingPhaseTimingCoreAt.make.Goals as goal

pub returns : goal.returns
unfolding timing_turn
returns c = record {
  made = record {
    plain = search rules;
    goes = search rules;
    made = at_turned Issuing c.args.next.now c.args.core.now _ _ _ c.requires.comes (turned_by c.args.core.now Issuing _ _ _ (λ s t e h small.
        let kept = c.issue-orders.ensures.kept s t h small in
        let width : at_in c.try_or_end.result ≡ try_or_end s c.fetch_width.result (timing_issue s t).timing → at_in c.try_or_end.result ≡ try_or_end s s.params.core_fetch (timing_issue s t).timing =
        λ is. is ∙ ap (λ (n : ℕ). try_or_end s n (timing_issue s t).timing) (c.fetch_width.ensures.width s (timing_issue s t).timing kept) in
        record { core = kept; at = width (c.try_or_end.ensures.at s (timing_issue s t).timing kept); orders = c.issue-orders.ensures.orders s t h small }));
  };
}

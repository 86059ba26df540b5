use Rattle.std.proofs.Common.{◌≡◌, ◌∙◌, Option, Some, List, drop, option_map, ap, sym}
use Rattle.std.specs.Prelude.{option_copied, slice_get}
use Rattle.insight_model.specs.Cause.{charge}
use Rattle.insight_model.specs.Sight.{Shown}
use Rattle.cycle_watch.specs.Shown.{shown_in}
use Rattle.cycle_watch.proofs.Flushing.{replays_stay, staying_wrong, wrong_is}
use Rattle.cycle_watch.proofs.last.LastSight.staying_flush.Goals as goal

pub returns : goal.returns
returns c = record {
  flush = λ before after keeps seen.
      let last = c.args.self.now in
      let mark = c.in_ok-mark.mark.now in
      let here : slice_get (drop c.args.left last.marks.items) c.in_ok-wrong.field-0 ≡ Some mark = sym c.mark_after.ensures.mark ∙ ap option_copied c.in_ok-mark.was in
      let wrong = wrong_is last.marks.items before.window c.args.left c.args.wrong c.in_ok-wrong.field-0 mark keeps.window c.in_ok-wrong.was here in
      (λ i. Some (charge (c.new-2.ensures.cause i) (c.new-2.ensures.addr i)))
      ∙ sym (staying_wrong before after (drop c.args.left before.window) _ (shown_in mark.shown) (replays_stay before after last c.args.counts.now keeps seen c.if-self-counts.false) wrong);
}

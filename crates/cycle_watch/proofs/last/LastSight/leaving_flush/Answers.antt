use Rattle.std.proofs.Common.{◌≡◌, ◌∙◌, Some, ap, sym}
use Rattle.insight_model.specs.Cause.{Charge, charge}
use Rattle.cycle_watch.specs.Shown.{shown_in}
use Rattle.cycle_watch.proofs.Flushing.{exceptions_rose, exceptions_stay, leaver_is, leaving_fence, leaving_none, leaving_trap}
use Rattle.cycle_watch.proofs.last.LastSight.leaving_flush.Goals as goal

pub returns-then-trapped-2 : goal.returns-then-trapped-2
returns-then-trapped-2 c = record {
  flush = λ before after keeps seen.
      let last = c.args.self.now in
      let mark = c.mark.result.now in
      let leaver = leaver_is last.marks.items before.window c.args.left mark keeps.window c.if-left-eq0.false c.requires.within c.mark.ensures.mark in
      (λ i. Some (charge (c.new-then-trapped-2.ensures.cause i) (c.new-then-trapped-2.ensures.addr i)))
      ∙ sym (leaving_trap before after _ (shown_in mark.shown) leaver (exceptions_rose before after last c.args.counts.now keeps seen c.if-trapped-2.true));
}

pub returns-then-is_fence_i : goal.returns-then-is_fence_i
returns-then-is_fence_i c = record {
  flush = λ before after keeps seen.
      let last = c.args.self.now in
      let mark = c.mark.result.now in
      let leaver = leaver_is last.marks.items before.window c.args.left mark keeps.window c.if-left-eq0.false c.requires.within c.mark.ensures.mark in
      (λ i. Some (charge (c.new-then-is_fence_i.ensures.cause i) (c.new-then-is_fence_i.ensures.addr i)))
      ∙ sym (leaving_fence before after _ (shown_in mark.shown) leaver (exceptions_stay before after last c.args.counts.now keeps seen c.if-trapped-2.false)
      (sym c.is_fence_i.ensures.fence ∙ c.if-is_fence_i.true));
}

pub returns-else-is_fence_i : goal.returns-else-is_fence_i
returns-else-is_fence_i c = record {
  flush = λ before after keeps seen.
      let last = c.args.self.now in
      let mark = c.mark.result.now in
      let leaver = leaver_is last.marks.items before.window c.args.left mark keeps.window c.if-left-eq0.false c.requires.within c.mark.ensures.mark in
      sym (leaving_none before after _ (shown_in mark.shown) leaver (exceptions_stay before after last c.args.counts.now keeps seen c.if-trapped-2.false)
      (sym c.is_fence_i.ensures.fence ∙ c.if-is_fence_i.false));
}

use Rattle.std.proofs.Common.{◌≡◌, ◌∙◌, List, ap, refl, subst, sym}
use Rattle.insight_model.specs.declared.pipeline.Pipeline.{Pipeline}
use Rattle.insight_model.specs.declared.pipeline.Pipeline.TheVariants.{Inorder, Window}
use Rattle.insight_model.specs.declared.cycle_cause.CycleCause.TheVariants.{Interrupt}
use Rattle.insight_model.specs.Cause.{charge}
use Rattle.insight_model.specs.Sight.{Shown}
use Rattle.insight_model.specs.Facts.{Facts, facts as cycle_facts}
use Rattle.insight_model.specs.Head.{head, inorder_head, uninterrupted_head, window_head}
use Rattle.cycle_watch.proofs.Heading.{head_going, head_interrupted, told_before}
use Rattle.cycle_watch.proofs.heads.Heads.head.Goals as goal

pub returns-then-facts : goal.returns-then-facts
returns-then-facts g c = record {
  head = λ kind p before known stands follows told.
      let F : Facts = cycle_facts before (g.S.Watched.sight c.args.side.now) in
      (λ i. charge (c.new.ensures.cause i) (c.new.ensures.addr i))
      ∙ (λ i. charge Interrupt (told.facts i).fetch_at)
      ∙ sym (head_interrupted kind p F known (ap (λ (x : Facts). x.interrupted) (sym told.facts) ∙ c.if-facts.true));
}

pub returns-in-Window : goal.returns-in-Window
returns-in-Window g c = record {
  head = λ kind p before known stands follows told.
      let after = g.S.Watched.sight c.args.side.now in
      let F : Facts = cycle_facts before after in
      let going = head_going kind p F known (ap (λ (x : Facts). x.interrupted) (sym told.facts) ∙ c.if-facts.false) in
      let is : kind ≡ Window = sym stands.watches.pipeline ∙ c.in-Window.is in
      c.window_head.ensures.head kind p before known stands follows told
      ∙ ap (window_head p F known) (sym (told_before before after c.args.facts.now told follows))
      ∙ ap (λ (k : Pipeline). uninterrupted_head k p F known) (sym is)
      ∙ sym going;
}

pub returns-in-Inorder : goal.returns-in-Inorder
returns-in-Inorder g c = record {
  head = λ kind p before known stands follows told.
      let after = g.S.Watched.sight c.args.side.now in
      let F : Facts = cycle_facts before after in
      let going = head_going kind p F known (ap (λ (x : Facts). x.interrupted) (sym told.facts) ∙ c.if-facts.false) in
      let is : kind ≡ Inorder = sym stands.watches.pipeline ∙ c.in-Inorder.is in
      c.inorder_head.ensures.head known (stands.knows.holes c.in-Inorder.is)
      ∙ ap (inorder_head known) (stands.keeps.window ∙ sym (told_before before after c.args.facts.now told follows))
      ∙ ap (λ (k : Pipeline). uninterrupted_head k p F known) (sym is)
      ∙ sym going;
}

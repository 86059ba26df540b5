use Rattle.std.proofs.Common.{◌≡◌, ◌∙◌, Some, ap, sym}
use Rattle.std.specs.Prelude.{slice_get}
use Rattle.insight_model.specs.Cause.{Charge, charge}
use Rattle.insight_model.specs.Hole.{Holes}
use Rattle.insight_model.specs.Head.{inorder_head}
use Rattle.cycle_watch.specs.Facts.{window_in}
use Rattle.cycle_watch.proofs.Heading.{inorder_done, inorder_held, none_first}
use Rattle.cycle_watch.proofs.heads.Heads.inorder_head.Goals as goal

pub returns-then-is_done : goal.returns-then-is_done
returns-then-is_done c = record {
  head = λ known holes.
      let marks = c.args.self.now.last.marks.items in
      let mark = c.in-Some.mark.now in
      let first : slice_get marks 0 ≡ Some mark = sym c.in-Some.ensures.oldest in
      (λ i. charge (c.new.ensures.cause i) (c.new.ensures.addr i)) ∙ sym (inorder_done known marks mark first (sym c.is_done.ensures.done ∙ c.if-is_done.true));
}

pub returns-else-is_done : goal.returns-else-is_done
returns-else-is_done c = record {
  head = λ known holes.
      let marks = c.args.self.now.last.marks.items in
      let mark = c.in-Some.mark.now in
      let first : slice_get marks 0 ≡ Some mark = sym c.in-Some.ensures.oldest in
      ap (λ (h : Holes). h.write) holes ∙ sym (inorder_held known marks mark first (sym c.is_done.ensures.done ∙ c.if-is_done.false));
}

pub returns-in-None : goal.returns-in-None
returns-in-None c = record {
  head = λ known holes.
      let none = none_first c.args.self.now.last.marks.items (sym c.in-None.ensures.oldest) in
      ap (λ (h : Holes). h.write) holes ∙ sym (ap (λ marks. inorder_head known (window_in marks)) none);
}

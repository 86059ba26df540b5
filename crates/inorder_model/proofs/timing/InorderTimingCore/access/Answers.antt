use Rattle.std.proofs.Common.{true, false, ap, sym, ◌∙◌, arith}
use Rattle.std.proofs.lemmas.Bool.{le-leb, lt-leb}
use Rattle.inorder_machine.specs.Memory.{went_on}
use Rattle.inorder_side.specs.Phases.{timing_inorder_memory}
use Rattle.inorder_model.proofs.Relations.{went_by}
use Rattle.inorder_model.proofs.timing.InorderTimingCore.access.Goals as goal

pub returns-then-end-cycle : goal.returns-then-end-cycle
unfolding timing_inorder_memory
returns-then-end-cycle c = record {
  kept = λ s l h.
      let over = le-leb c.in-Some.end l.timing.cycle (omega (arith, c.if-end-cycle.true, c.cycle.ensures.cycle s l.timing h.core)) in
      record { core = h.core; memory = sym (went_by l.timing.cycle l.memory c.in-Some.end true (sym h.memory ∙ c.in-Some.is) over) };
}

pub returns-else-end-cycle : goal.returns-else-end-cycle
unfolding timing_inorder_memory
returns-else-end-cycle c = record {
  kept = λ s l h.
      let over = lt-leb c.in-Some.end l.timing.cycle (omega (arith, c.if-end-cycle.false, c.cycle.ensures.cycle s l.timing h.core)) in
      record { core = h.core; memory = c.in-Some.is ∙ sym (went_by l.timing.cycle l.memory c.in-Some.end false (sym h.memory ∙ c.in-Some.is) over) };
}

pub returns-in_default : goal.returns-in_default
unfolding timing_inorder_memory
returns-in_default c = record {
  kept = λ s l h. record { core = h.core; memory = c.in_default.is ∙ ap (went_on l.timing.cycle) (sym (sym h.memory ∙ c.in_default.is)) };
}

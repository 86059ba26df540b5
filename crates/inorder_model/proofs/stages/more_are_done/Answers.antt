use Rattle.std.proofs.Common.{true, false, sym, ◌∙◌, arith}
use Rattle.std.proofs.lemmas.Bool.{lt-ltb}
use Rattle.inorder_side.specs.Timing.{done_count}
use Rattle.inorder_model.proofs.Slots.{done_next}
use Rattle.inorder_model.proofs.stages.more_are_done.Goals as goal
use Rattle.inorder_model.proofs.stages.more_are_done.Goals.{then-is_done+else-left-eq0, else-is_done}

pub returns-then-left-eq0 : goal.returns-then-left-eq0
returns-then-left-eq0 c =
    let slots = c.args.flight.now.slots in
    let one = done_next slots c.loop-place.place c.at.result true c.at.ensures.slot (sym c.is_done.ensures.done ∙ c.if-is_done.true) in
    record { more = sym (lt-ltb c.args.than (done_count slots) (omega (arith, c.loop-place.invariant.counted, one, c.if-left-eq0.true))) }

pub loop-place-preserved : goal.loop-place-preserved
loop-place-preserved c = elim c.if-is_done.branch [
  | then-is_done+else-left-eq0 w ↦
      let one = done_next c.args.flight.now.slots c.loop-place.place c.at.result true c.at.ensures.slot (sym c.is_done.ensures.done ∙ w.if-is_done.true) in
      record { counted = omega (arith, c.loop-place.invariant.counted, one, w.if-left-eq0.false, w.left-is) }
  | else-is_done w ↦
      let none = done_next c.args.flight.now.slots c.loop-place.place c.at.result false c.at.ensures.slot (sym c.is_done.ensures.done ∙ w.if-is_done.false) in
      record { counted = omega (arith, c.loop-place.invariant.counted, none, w.left-is) }
]

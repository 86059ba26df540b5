use Rattle.std.proofs.Common.{◌≡◌, Option, Some, None, [], refl, ap, ◌∙◌}
use Rattle.rollback_cmds.specs.declared.order.Order.{Order}
use Rattle.timing_core.specs.Orders.{newest_first}
use Rattle.time_model.specs.Piped.{IsPhase, IsInnerPhase}
use Rattle.time_model.specs.Turns.{is_ending}
use Rattle.time_model.proofs.Striding.{stride_once, stride_none}
use Rattle.time_model.proofs.phase.over.Goals as goal

no_first : (first second : Option Order) → newest_first first second ≡ [] → first ≡ None
no_first None second is = refl
no_first (Some o) None is = cc
no_first (Some o) (Some p) is = cc

pub returns-then-comes : goal.returns-then-comes
returns-then-comes g c =
    let piped = g.H.Phase.piped in
    record {
      strode = stride_once (IsPhase piped) c.make.ensures.made;
      inner = λ off. stride_once (IsInnerPhase piped) (record { phase = c.make.ensures.made; inner = ap (λ at. is_ending (piped.seen at)) (c.comes.ensures.comes c.if-comes.true) ∙ off });
    }

pub returns-else-comes : goal.returns-else-comes
returns-else-comes g c =
    let none : c.none.result.first ≡ None = no_first c.none.result.first c.none.result.second c.none.ensures.none in
    record { strode = stride_none (IsPhase g.H.Phase.piped) none; inner = λ off. stride_none (IsInnerPhase g.H.Phase.piped) none }

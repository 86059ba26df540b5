use Rattle.std.proofs.Common.{◌≡◌, Bool, false, Option, Some, None, refl}
use Rattle.std.specs.Option.{is_some}
use Rattle.rollback_cmds.specs.declared.order.Order.{Order}
use Rattle.time_model.specs.Piped.{IsInnerPhase}
use Rattle.time_model.proofs.Striding.{quiet_on, stride_on, stride_quiet}
use Rattle.inorder_model.specs.Standing.{inorder_piped}
use Rattle.inorder_model.proofs.in_order.InorderTimingCorePipeline.phases.Goals as goal

none_first : (o : Option Order) (b : Bool) → b ≡ is_some o → b ≡ false → o ≡ None
none_first None b is none = refl
none_first (Some o) b is none = cc

pub returns-then-is_some : goal.returns-then-is_some
returns-then-is_some c = record { strode = c.over-interrupted.ensures.inner refl }

pub returns-then-is_some-2 : goal.returns-then-is_some-2
returns-then-is_some-2 c = record {
  strode = stride_on (IsInnerPhase inorder_piped) (stride_quiet (IsInnerPhase inorder_piped) (c.over-interrupted.ensures.inner refl) (none_first c.over-interrupted.result.first c.is_some.result c.is_some.ensures c.if-is_some.false))
      (c.over-written.ensures.inner refl);
}

pub returns-then-is_some-3 : goal.returns-then-is_some-3
returns-then-is_some-3 c = record {
  strode = stride_on (IsInnerPhase inorder_piped) (quiet_on (IsInnerPhase inorder_piped) (stride_quiet (IsInnerPhase inorder_piped) (c.over-interrupted.ensures.inner refl) (none_first c.over-interrupted.result.first c.is_some.result c.is_some.ensures c.if-is_some.false))
      (stride_quiet (IsInnerPhase inorder_piped) (c.over-written.ensures.inner refl) (none_first c.over-written.result.first c.is_some-2.result c.is_some-2.ensures c.if-is_some-2.false)))
      (c.over-accessed.ensures.inner refl);
}

pub returns-then-is_some-4 : goal.returns-then-is_some-4
returns-then-is_some-4 c = record {
  strode = stride_on (IsInnerPhase inorder_piped) (quiet_on (IsInnerPhase inorder_piped) (quiet_on (IsInnerPhase inorder_piped) (stride_quiet (IsInnerPhase inorder_piped) (c.over-interrupted.ensures.inner refl) (none_first c.over-interrupted.result.first c.is_some.result c.is_some.ensures c.if-is_some.false))
      (stride_quiet (IsInnerPhase inorder_piped) (c.over-written.ensures.inner refl) (none_first c.over-written.result.first c.is_some-2.result c.is_some-2.ensures c.if-is_some-2.false)))
      (stride_quiet (IsInnerPhase inorder_piped) (c.over-accessed.ensures.inner refl) (none_first c.over-accessed.result.first c.is_some-3.result c.is_some-3.ensures c.if-is_some-3.false)))
      (c.over-executed.ensures.inner refl);
}

pub returns : goal.returns
returns c = record {
  strode = stride_on (IsInnerPhase inorder_piped) (quiet_on (IsInnerPhase inorder_piped) (quiet_on (IsInnerPhase inorder_piped) (quiet_on (IsInnerPhase inorder_piped) (stride_quiet (IsInnerPhase inorder_piped) (c.over-interrupted.ensures.inner refl) (none_first c.over-interrupted.result.first c.is_some.result c.is_some.ensures c.if-is_some.false))
      (stride_quiet (IsInnerPhase inorder_piped) (c.over-written.ensures.inner refl) (none_first c.over-written.result.first c.is_some-2.result c.is_some-2.ensures c.if-is_some-2.false)))
      (stride_quiet (IsInnerPhase inorder_piped) (c.over-accessed.ensures.inner refl) (none_first c.over-accessed.result.first c.is_some-3.result c.is_some-3.ensures c.if-is_some-3.false)))
      (stride_quiet (IsInnerPhase inorder_piped) (c.over-executed.ensures.inner refl) (none_first c.over-executed.result.first c.is_some-4.result c.is_some-4.ensures c.if-is_some-4.false)))
      (c.over.ensures.inner refl);
}

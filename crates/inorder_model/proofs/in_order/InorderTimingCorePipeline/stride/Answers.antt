use Rattle.std.proofs.Common.{◌≡◌, Bool, false, Option, Some, None, refl}
use Rattle.std.specs.Option.{is_some}
use Rattle.rollback_cmds.specs.declared.order.Order.{Order}
use Rattle.time_model.specs.Piped.{IsPhase}
use Rattle.inorder_model.specs.Standing.{inorder_piped}
use Rattle.time_model.proofs.Striding.{stride_on, stride_quiet, outer_stride}
use Rattle.inorder_model.proofs.in_order.InorderTimingCorePipeline.stride.Goals as goal

none_first : (o : Option Order) (b : Bool) → b ≡ is_some o → b ≡ false → o ≡ None
none_first None b is none = refl
none_first (Some o) b is none = cc

pub returns : goal.returns
returns c = record {
  strode = stride_on (IsPhase inorder_piped) (stride_quiet (IsPhase inorder_piped) c.over-ended.ensures.strode (none_first c.over-ended.result.first c.is_some.result c.is_some.ensures c.if-is_some.false))
      (outer_stride inorder_piped c.phases.ensures.strode);
}

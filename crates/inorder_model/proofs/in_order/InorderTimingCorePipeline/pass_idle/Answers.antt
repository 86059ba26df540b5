use Rattle.time_model.specs.Piped.{start}
use Rattle.inorder_model.proofs.in_order.InorderTimingCorePipeline.pass_idle.Goals as goal

pub returns : goal.returns
returns c = record { quiet = start }

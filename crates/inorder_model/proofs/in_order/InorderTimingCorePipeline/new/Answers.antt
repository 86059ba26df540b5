use Rattle.inorder_model.proofs.Turns.{new_stands}
use Rattle.inorder_model.proofs.in_order.InorderTimingCorePipeline.new.Goals as goal

pub returns : goal.returns
returns c = record { stands = new_stands c.args.setup.now c.new.result c.new.ensures.opening }

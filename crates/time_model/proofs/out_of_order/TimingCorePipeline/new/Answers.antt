use Rattle.time_model.proofs.Turns.{new_stands}
use Rattle.time_model.proofs.out_of_order.TimingCorePipeline.new.Goals as goal

pub returns : goal.returns
returns c = record { stands = new_stands c.args.setup.now c.new.result c.new.ensures.opening }

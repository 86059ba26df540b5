use Rattle.inorder_model.proofs.InorderTimingCore.{starts}
use Rattle.inorder_model.proofs.split.InorderCore.new.Goals as goal

pub returns : goal.returns
returns g c = record { stands = starts c.args.setup.now c.in_ok-state.state c.in_ok-state.ensures.stands }

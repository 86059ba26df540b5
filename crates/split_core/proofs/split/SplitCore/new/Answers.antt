use Rattle.split_core.proofs.Mono.{starts}
use Rattle.split_core.proofs.split.SplitCore.new.Goals as goal

pub returns : goal.returns
returns g c = record { stands = starts c.args.setup.now c.in_ok-state.state c.in_ok-state.ensures.stands }

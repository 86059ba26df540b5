use Rattle.split_core.proofs.Mono.{tells_committed}
use Rattle.split_core.proofs.split.SplitCore.committed_output.Goals as goal

pub returns : goal.returns
returns g c = record {
  committed = tells_committed c.self.inside.state c.args.self.now c.self.view_is c.committed_output.result.now c.committed_output.ensures.output;
}

use Rattle.std.proofs.Common.{◌∙◌}
use Rattle.inorder_machine.specs.Cycle.{inorder}
use Rattle.func_model.proofs.Walking.{stands_output}
use Rattle.fast_jobs.proofs.played.InorderCorePlayed.output.Goals as goal

pub returns : goal.returns
returns g c = record { output = λ s told. c.output.ensures.output ∙ stands_output s (inorder s s.cycles).machine.arch c.args.self.now.func.contents told }

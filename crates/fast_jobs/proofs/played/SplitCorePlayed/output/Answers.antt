use Rattle.std.proofs.Common.{◌∙◌}
use Rattle.mono_model.specs.Cycle.{mono}
use Rattle.func_model.proofs.Walking.{stands_output}
use Rattle.fast_jobs.proofs.played.SplitCorePlayed.output.Goals as goal

pub returns : goal.returns
returns g c = record { output = λ s told. c.output.ensures.output ∙ stands_output s (mono s s.cycles).arch c.args.self.now.func.contents told }

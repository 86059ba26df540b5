use Rattle.std.proofs.Common.{◌≡◌, ℕ, min, ap, ◌∙◌, arith}
use Rattle.mono_model.specs.Path.{path}
use Rattle.split_core.proofs.Standing.{agrees}
use Rattle.split_core.proofs.state.SplitState.committed_output.Goals as goal

pub returns : goal.returns
returns g c = record {
  output = λ s x sound reached h.
      let timed = g.T.Timing.timed in
      let laws = g.met.T.Timing.laws in
      let same = agrees timed laws s x c.args.self.now sound reached h in
      let run = laws.law s x sound reached in
      let walk = c.args.self.now.func in
      let number : min walk.committed walk.position ≡ x.split.committed_number =
      omega (arith, same.committed, h.position, run.counted.least) in
      c.committed_output.ensures.output s x.split.obeyed h.func
      ∙ ap (λ (n : ℕ). (path s x.split.obeyed n).output) number;
}

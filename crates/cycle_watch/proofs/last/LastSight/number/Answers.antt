use Rattle.std.proofs.Common.{◌≡◌, ap, arith}
use Rattle.mono_model.specs.Machine as machine
use Rattle.cycle_watch.proofs.last.LastSight.number.Goals as goal

pub returns : goal.returns
returns c = record {
  number = λ s keeps small.
      let same : c.args.self.now.counts.exceptions ≡ s.counts.exceptions = ap (λ (n : machine.Counts). n.exceptions) keeps.noted.counts in
      omega (arith, same, keeps.noted.retired, small);
}

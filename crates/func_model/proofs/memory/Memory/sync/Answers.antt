use Rattle.std.proofs.Common.{arith}
use Rattle.func_model.proofs.memory.Memory.sync.Goals as goal

pub invariant_of-self : goal.invariant_of-self
invariant_of-self c = (
  c.self.invariant.0,
  omega arith,
  omega arith,
  λ k d below. record {
    found = λ is. absurd (omega (arith, is, (c.self.invariant.3 k d below).below));
    fits = λ is. absurd (omega (arith, is, (c.self.invariant.3 k d below).below));
    below = omega (arith, (c.self.invariant.3 k d below).below);
  },
)

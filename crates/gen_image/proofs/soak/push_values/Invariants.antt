use Rattle.std.proofs.Common.{◌≡◌, ◌+◌, ◌*◌, length}
use Rattle.gen_image.specs.Draws.{each}
use Rattle.gen_image.specs.Made.{Adds}
use Rattle.gen_image.specs.Soak.{first_value}
use Rattle.gen_image.proofs.soak.push_values.Given as goal

-- the parts so far were added
abbrev pub invariant-loop-k : goal.invariant-loop-k
invariant-loop-k l = record {
  added : Adds (each (λ k. first_value (5 + k)) l.k) l.initial.rng l.rng l.initial.bytes.items l.bytes.items;
  len : length l.bytes.items ≡ length l.initial.bytes.items + 4 * l.k;
}

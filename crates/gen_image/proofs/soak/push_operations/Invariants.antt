use Rattle.std.proofs.Common.{◌≡◌, ◌+◌, ◌*◌, length}
use Rattle.gen_image.specs.Draws.{each}
use Rattle.gen_image.specs.Made.{Adds}
use Rattle.gen_image.specs.Soak.{operation}
use Rattle.gen_image.proofs.soak.push_operations.Given as goal

-- the parts so far were added
abbrev pub invariant-loop-turn : goal.invariant-loop-turn
invariant-loop-turn l = record {
  added : Adds (each (λ k. operation) l._turn) l.initial.rng l.rng l.initial.bytes.items l.bytes.items;
  len : length l.bytes.items ≡ length l.initial.bytes.items + 4 * l._turn;
}

use Rattle.std.proofs.Common.{arith}
use Rattle.std.proofs.lemmas.List.{length-replicate, get_or-replicate}
use Rattle.func_model.specs.declared.memory.TextInsn.{TextInsn}
use Rattle.func_model.proofs.memory.Memory.new.Goals as goal

pub invariant_of-result : goal.invariant_of-result
invariant_of-result c =
    let none : TextInsn = record { key = 0; decoded = c.new-2.result } in
    rw (c.in-Ok.ensures.items_if_clones_equal (λ y is. is)) (
      length-replicate 131072 none,
      omega arith,
      omega arith,
      λ k d below. rw (get_or-replicate 131072 k none d below) (record { found = λ is. absurd (omega (arith, is)); fits = λ is. absurd (omega (arith, is)); below = omega arith }),
    )

use Rattle.std.proofs.Common.{◌≡◌, length}
use Rattle.std.specs.List.{AllWithin}
use Rattle.func_model.specs.declared.memory.TextInsn.{TextInsn}
use Rattle.func_model.proofs.memory.forget.Given as goal

abbrev pub invariant-loop-kept : goal.invariant-loop-kept
invariant-loop-kept l = record {
  length : length l.kept-items ≡ length l.fn.insns.items;
  none : AllWithin (λ (kept : TextInsn). kept.key ≡ 0) l.kept-items 0 l.kept-index;
}

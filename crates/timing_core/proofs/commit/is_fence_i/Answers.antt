use Rattle.std.proofs.Common.{sym, ◌∙◌}
use Rattle.timing_core.proofs.Opcodes.{no_fence, not_eq}
use Rattle.timing_core.proofs.commit.is_fence_i.Goals as goal

pub returns-else-bits-eq-FENCE : goal.returns-else-bits-eq-FENCE
returns-else-bits-eq-FENCE c = record {
  fence = not_eq c.bits.result 15 c.if-bits-eq-FENCE.false ∙ sym (no_fence c.args.word (λ is. c.if-bits-eq-FENCE.false (c.bits.ensures.field ∙ is)));
}

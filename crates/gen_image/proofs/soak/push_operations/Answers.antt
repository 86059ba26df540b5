use Rattle.std.proofs.Common.{◌++◌, length, ap, ◌∙◌, arith}
use Rattle.elf_image.specs.Write.{words}
use Rattle.gen_image.specs.Soak.{operation}
use Rattle.gen_image.proofs.Parts.{each_none, each_more}
use Rattle.gen_image.proofs.soak.push_operations.Goals as goal

pub loop-turn-init : goal.loop-turn-init
loop-turn-init c = record { added = each_none (λ k. operation) c.args.rng.now c.args.bytes.now.items; len = omega arith }

pub loop-turn-preserved : goal.loop-turn-preserved
loop-turn-preserved c = record {
  added =
      each_more (λ k. operation) c.loop-turn._turn c.args.rng.now c.loop-turn.rng c.operation.new.rng c.args.bytes.now.items c.loop-turn.bytes.items c.push_words.new.bytes.items c.loop-turn.invariant.added
      (c.in_ok-push_words.ensures.added ∙ ap (λ x. c.loop-turn.bytes.items ++ words x) c.operation.ensures.code) c.operation.ensures.next;
  len = omega (arith, ap length c.operation.ensures.code, c.in_ok-push_words.ensures.len);
}

use Rattle.std.proofs.Common.{arith}
use Rattle.gen_image.specs.Soak.{block}
use Rattle.gen_image.proofs.Parts.{each_none, each_more}
use Rattle.gen_image.proofs.soak.push_blocks.Goals as goal

pub loop-turn-init : goal.loop-turn-init
loop-turn-init c = record { added = each_none (λ k. block) c.args.rng.now c.args.bytes.now.items; len = omega arith }

pub loop-turn-preserved : goal.loop-turn-preserved
loop-turn-preserved c = record {
  added =
      each_more (λ k. block) c.loop-turn._turn c.args.rng.now c.loop-turn.rng c.push_block.new.rng c.args.bytes.now.items c.loop-turn.bytes.items c.push_block.new.bytes.items c.loop-turn.invariant.added
      c.in_ok-push_block.ensures.added.bytes c.in_ok-push_block.ensures.added.drawn;
  len = omega (arith, c.in_ok-push_block.ensures.len);
}

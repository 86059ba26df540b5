use Rattle.std.proofs.Common.{◌+◌, ◌++◌, length, ap, ◌∙◌, arith}
use Rattle.elf_image.specs.Write.{words}
use Rattle.gen_image.specs.Soak.{first_value}
use Rattle.gen_image.proofs.Parts.{each_none, each_more}
use Rattle.gen_image.proofs.soak.push_values.Goals as goal

pub loop-k-init : goal.loop-k-init
loop-k-init c = record { added = each_none (λ k. first_value (5 + k)) c.args.rng.now c.args.bytes.now.items; len = omega arith }

pub loop-k-preserved : goal.loop-k-preserved
loop-k-preserved c = record {
  added =
      each_more (λ k. first_value (5 + k)) c.loop-k.k c.args.rng.now c.loop-k.rng c.first_value.new.rng c.args.bytes.now.items c.loop-k.bytes.items c.push_words.new.bytes.items c.loop-k.invariant.added
      (c.in_ok-push_words.ensures.added ∙ ap (λ x. c.loop-k.bytes.items ++ words x) c.first_value.ensures.code) c.first_value.ensures.next;
  len = omega (arith, ap length c.first_value.ensures.code, c.in_ok-push_words.ensures.len);
}

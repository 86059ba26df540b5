use Rattle.std.proofs.Common.{◌≡◌, ◌%◌, [], ◌∷◌, refl, ap, arith}
use Rattle.gen_image.specs.Assembly.{ecall}
use Rattle.gen_image.specs.Draws.{plain}
use Rattle.gen_image.specs.Soak.{memory}
use Rattle.gen_image.proofs.Parts.{adds_kind}
use Rattle.gen_image.proofs.soak.push_block.Goals as goal

pub returns-in-2-clause-added : goal.returns-in-2-clause-added
returns-in-2-clause-added c =
    adds_kind c.push_words-in-2.result 2 memory c.args.rng.now c.draw.new.rng c.memory.new.rng c.draw.result c.args.bytes.now.items c.push_words-in-2.new.bytes.items c.memory.result
    c.draw.ensures.word c.draw.ensures.next c.in-2.is refl c.memory.ensures.code c.memory.ensures.next c.push_words-in-2.ensures.added

pub returns-in_default-clause-added : goal.returns-in_default-clause-added
returns-in_default-clause-added c =
    let last : c.draw.result % 6 ≡ 5 = omega arith in
    adds_kind c.push_words-in_default.result 5 (plain (ecall ∷ [])) c.args.rng.now c.draw.new.rng c.draw.new.rng c.draw.result c.args.bytes.now.items c.push_words-in_default.new.bytes.items (c.ecall.result ∷ [])
    c.draw.ensures.word c.draw.ensures.next last refl (ap (λ x. x ∷ []) c.ecall.ensures) refl c.push_words-in_default.ensures.added

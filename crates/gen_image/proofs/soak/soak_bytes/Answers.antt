use Rattle.std.proofs.Common.{◌++◌, map, ap, ◌∙◌}
use Rattle.elf_image.specs.Write.{words}
use Rattle.rv_decode.specs.Encode.{encode_of}
use Rattle.gen_image.specs.Soak.{soak_code}
use Rattle.gen_image.proofs.Parts.{whole_program}
use Rattle.gen_image.proofs.soak.soak_bytes.Goals as goal

pub returns-clause-bytes : goal.returns-clause-bytes
returns-clause-bytes c =
    whole_program c.args.blocks c.new-rng.result c.push_values.new.rng c.push_blocks.new.rng c.push_words.new.bytes.items c.push_words-2.new.bytes.items c.push_values.new.bytes.items c.push_blocks.new.bytes.items c.push_words-3.new.bytes.items
    (c.in_ok-push_words.ensures.added ∙ ap (λ x. x ++ words c.handler.result) c.new-bytes.ensures.items ∙ ap words c.handler.ensures.code)
    (c.in_ok-push_words-2.ensures.added ∙ ap (λ x. c.push_words.new.bytes.items ++ words x) c.opening.ensures.code)
    c.in_ok-push_values.ensures.added
    c.in_ok-push_blocks.ensures.added
    (c.in_ok-push_words-3.ensures.added ∙ ap (λ x. c.push_blocks.new.bytes.items ++ words x) c.ending.ensures.code)
    ∙ ap (λ g. words (map encode_of (soak_code c.args.blocks g).0)) c.new-rng.ensures

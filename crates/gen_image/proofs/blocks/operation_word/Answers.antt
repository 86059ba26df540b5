use Rattle.gen_image.proofs.blocks.operation_word.Goals as goal

pub returns-in-2 : goal.returns-in-2
returns-in-2 c = record { word = rw c.in-2.is c.xor.ensures }

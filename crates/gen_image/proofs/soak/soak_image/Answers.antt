use Rattle.std.proofs.Common.{sym, subst, arith}
use Rattle.elf_image.specs.declared.image.Image.{Image}
use Rattle.elf_image.specs.Sound.{IsSound}
use Rattle.gen_image.specs.Soak.{plain_ram}
use Rattle.gen_image.proofs.Parts.{program_sound}
use Rattle.gen_image.proofs.soak.soak_image.Goals as goal

pub returns-in-Ok-image_of-clause-sound : goal.returns-in-Ok-image_of-clause-sound
returns-in-Ok-image_of-clause-sound c =
    let P : Image → Type 0 = λ image. IsSound image plain_ram in
    subst P (sym c.in-Ok-image_of.ensures.image) (program_sound c.in-Ok.bytes.items c.in-Ok.ensures.some (omega (arith, c.in-Ok.ensures.len, c.requires.few)))

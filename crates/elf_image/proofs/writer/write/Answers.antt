use Rattle.std.proofs.Common.{List, ℕ, subst, sym}
use Rattle.elf_image.specs.Image.{IsImage}
use Rattle.elf_image.proofs.Written.{CanWrite, IsImage-file_of}
use Rattle.elf_image.proofs.writer.write.Goals as goal

pub returns-in-Ok-clause-image : goal.returns-in-Ok-clause-image
returns-in-Ok-clause-image c =
    let can : CanWrite c.args.image.now c.args.ram = record { sound = c.requires.sound; numbered = c.requires.numbered; small = c.requires.small; entry = c.in-Ok.ensures.entry; words = c.in-Ok.ensures.words } in
    subst (λ (file : List ℕ). IsImage file c.args.ram c.args.image.now) (sym c.in-Ok.ensures.bytes) (IsImage-file_of c.args.image.now c.args.ram can)

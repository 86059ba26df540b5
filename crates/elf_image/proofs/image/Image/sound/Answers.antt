use Rattle.std.proofs.Common.{arith}
use Rattle.std.proofs.lemmas.Grind.{common_steps}
use Rattle.elf_image.specs.Sound.{is_sound}
use Rattle.elf_image.proofs.Ordered.{sound_says}
use Rattle.elf_image.proofs.image.Image.sound.Goals as goal

pub returns-then-are_placed-clause-sound : goal.returns-then-are_placed-clause-sound
unfolding is_sound
returns-then-are_placed-clause-sound c =
    sound_says c.args.self.now c.args.ram c.are_ordered.result (grind (arith, common_steps))

pub returns-else-are_placed-clause-sound : goal.returns-else-are_placed-clause-sound
unfolding is_sound
returns-else-are_placed-clause-sound c =
    sound_says c.args.self.now c.args.ram c.if-segments.value (grind (arith, common_steps))

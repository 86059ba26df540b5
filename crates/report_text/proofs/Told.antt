-- Every fault but want of memory has a line.
use Rattle.std.proofs.Common.{◌≡◌, ◌≢◌, true, refl}
use Rattle.elf_image.specs.declared.fault.ImageFault.{ImageFault}
use Rattle.elf_image.specs.declared.fault.ImageFault.TheVariants as image
use Rattle.machine_file.specs.declared.fault.MachineFault.{MachineFault}
use Rattle.machine_file.specs.declared.fault.MachineFault.TheVariants as machine
use Rattle.report_text.specs.FaultText.{has_image_line, has_machine_line}

pub image_line_told : (fault : ImageFault) → fault ≢ image.Memory → has_image_line fault ≡ true
image_line_told image.Memory other = absurd (other refl)
image_line_told _ other = refl

pub machine_line_told : (fault : MachineFault) → fault ≢ machine.Memory → has_machine_line fault ≡ true
machine_line_told machine.Memory other = absurd (other refl)
machine_line_told _ other = refl

-- The answer to a fault of an image, a machine file or a script: want of memory is an answer of its
-- own.
use Rattle.elf_image.specs.declared.fault.ImageFault.{ImageFault}
use Rattle.elf_image.specs.declared.fault.ImageFault.TheVariants as image
use Rattle.machine_file.specs.declared.fault.MachineFault.{MachineFault}
use Rattle.machine_file.specs.declared.fault.MachineFault.TheVariants as machine
use Rattle.back_debug.specs.declared.script.ScriptFault.{ScriptFault}
use Rattle.back_debug.specs.declared.script.ScriptFault.TheVariants as script
use Rattle.report_text.specs.declared.status.Status.{Status}
use Rattle.report_text.specs.declared.status.Status.TheVariants.{BadScript, Image, Machine, Memory}

abbrev pub refused_image : ImageFault → Status
refused_image image.Memory = Memory
refused_image fault = Image fault

abbrev pub refused_machine : MachineFault → Status
refused_machine machine.Memory = Memory
refused_machine fault = Machine fault

abbrev pub refused_script : ScriptFault → Status
refused_script (script.BadLine line) = BadScript line
refused_script script.Memory = Memory

-- Exception codes (RISC-V privileged manual, section 3.1.15, "Machine Cause Register").
use Rattle.std.specs.Prelude.{ℕ}
use Rattle.fsim_base.specs.declared.cause.Cause.{Cause}
use Rattle.fsim_base.specs.declared.cause.Cause.TheVariants.{InstructionMisaligned, InstructionAccess, IllegalInstruction, Breakpoint, LoadMisaligned, LoadAccess, StoreMisaligned, StoreAccess, EnvironmentCall}

abbrev pub cause_number : Cause → ℕ
cause_number InstructionMisaligned = 0
cause_number InstructionAccess = 1
cause_number IllegalInstruction = 2
cause_number Breakpoint = 3
cause_number LoadMisaligned = 4
cause_number LoadAccess = 5
cause_number StoreMisaligned = 6
cause_number StoreAccess = 7
cause_number EnvironmentCall = 11

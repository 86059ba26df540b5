-- What is read of a functional side.
use Rattle.std.specs.Prelude.{ℕ, ◌%◌, ◌==◌, if◌then◌else◌, Option, None}
use Rattle.fsim_base.specs.declared.access.Width.TheVariants.{Word}
use Rattle.phys_mem.specs.Ram.{ram_of, range_of, loaded}
use Rattle.mono_model.specs.Arch.{Arch as State, compare_of}
use Rattle.mono_model.specs.Final.{registers_from}
use Rattle.mono_model.specs.declared.final_state.End.{End}
use Rattle.mono_model.specs.declared.final_state.Stats.{Stats}
use Rattle.mono_model.specs.declared.final_state.Final.{Final}
use Rattle.func_model.specs.declared.contents.Contents.{Contents}
use Rattle.func_model.specs.declared.side.Arch.{Arch}
use Rattle.func_model.specs.declared.walk.Walk.{Walk}

-- the registers
abbrev pub registers_in : {D : Type 0} → Contents D → Arch
registers_in contents = record {
  pc = contents.hart.pc;
  regs = contents.hart.regs;
  csrs = contents.hart.csrs;
  cmp = compare_of contents.bus;
}

abbrev pub arch_in : {D : Type 0} → Walk D → Arch
arch_in walk = registers_in walk.contents

-- the registers of a state
abbrev pub registers_at : State → Arch
registers_at a = record { pc = a.pc; regs = registers_from 32 a.regs; csrs = a.csrs; cmp = compare_of a.devices }

-- an end and counts, with these registers
abbrev pub reported_of : End → Stats → Arch → Final
reported_of end stats arch = record { end = end; stats = stats; pc = arch.pc; regs = arch.regs; csrs = arch.csrs; cmp = arch.cmp }

-- the word of RAM at an address
abbrev pub word_in : {D : Type 0} → Contents D → ℕ → Option ℕ
word_in contents addr =
    if addr % 4 == 0 then loaded (range_of contents.hart.memory) (ram_of contents.hart.memory) addr Word else None

-- What is reported of a run.
use Rattle.std.specs.Prelude.{ℕ, zero, suc, ◌-◌, List, [], ◌∷◌, Bool, true, false}
use Rattle.fsim_base.specs.declared.instruction.Halt.{Halt}
use Rattle.fsim_base.specs.declared.instruction.Halt.TheVariants as halt
use Rattle.mono_model.specs.declared.final_state.End.{End}
use Rattle.mono_model.specs.declared.final_state.End.TheVariants.{Pass, Fail, Limit, OutputFull, Running}
use Rattle.mono_model.specs.declared.final_state.Stats.{Stats}
use Rattle.mono_model.specs.declared.final_state.Final.{Final}
use Rattle.mono_model.specs.Arch.{Arch, compare_of}

-- the end that a finisher store brings
abbrev pub end_of : Halt → End
end_of halt.Pass = Pass
end_of (halt.Fail code) = Fail code

abbrev pub has_ended : End → Bool
has_ended Pass = true
has_ended (Fail code) = true
has_ended Limit = true
has_ended OutputFull = true
has_ended Running = false

-- `count` registers, the last being number 31
abbrev pub registers_from : ℕ → (ℕ → ℕ) → List ℕ
registers_from zero regs = []
registers_from (suc count) regs = regs (31 - count) ∷ registers_from count regs

-- an end and counts, with the committed state
abbrev pub final_of : End → Stats → Arch → Final
final_of end stats a = record { end = end; stats = stats; pc = a.pc; regs = registers_from 32 a.regs; csrs = a.csrs; cmp = compare_of a.devices }

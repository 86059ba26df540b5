-- What the contents of a functional side stand for.
use Rattle.std.specs.Prelude.{◌≡◌, ◌≤◌, ◌+◌, ℕ, List, if◌then◌else◌, Some}
use Rattle.elf_image.specs.Load.{is_executable}
use Rattle.mono_model.specs.declared.setup.Setup.{Setup}
use Rattle.mono_model.specs.Setup.{ram_range}
use Rattle.machine_csr.specs.Trap.{timer_pending}
use Rattle.mono_model.specs.Arch.{Arch, compare_of, interrupted}
use Rattle.mono_model.specs.Found.{Found}
use Rattle.mono_model.specs.Result.{Result}
use Rattle.mono_model.specs.Effect.{effect, note_of, is_fence_result}
use Rattle.mono_model.specs.Alone.{with_fence}
use Rattle.mono_model.specs.Sequence.{found_next, result_at}
use Rattle.func_model.specs.declared.contents.Contents.{Contents}
use Rattle.phys_mem.specs.Ram.{exec_of, range_of}
use Rattle.func_model.specs.Hart.{arch_of}
use Rattle.func_model.specs.declared.performed.Stepped.TheVariants.{On}
use Rattle.func_model.specs.Steps.{is_full, stepped_by}

-- this state, in a run of this setup
pub record ContentsStandFor {D : Type 0} (s : Setup) (a : Arch) (side : Contents D) : Type 0 where
  pub arch : arch_of side.hart side.bus ≡ a
  pub exec : exec_of side.hart.memory ≡ is_executable s.image
  pub range : range_of side.hart.memory ≡ ram_range s.params
  pub compare : side.cmp ≡ compare_of a.devices

-- how many instructions have retired
abbrev pub retired_in : {D : Type 0} → Contents D → ℕ
retired_in side = side.hart.csrs.retired

-- the output so far
abbrev pub output_in : {D : Type 0} → Contents D → List ℕ
output_in side = side.hart.output.items

-- the state behind an instruction with its time, where a FENCE.I lets fetch see memory; unchanged where its byte has no room
abbrev pub after_instruction : Setup → Found → Result → ℕ → Arch → Arch
after_instruction s found r time a =
    if is_full s.output a.output (note_of r a) then a else with_fence s (is_fence_result found r) (effect found r (Some time) a.pc a)

-- the state in which a step's instruction is executed: a pending timer interrupt is taken first
abbrev pub before : ℕ → Arch → Arch
before time a = if timer_pending a.csrs time (compare_of a.devices) then interrupted a else a

-- the next instruction is executed with a time, and the run goes on
pub record GoesOn {D : Type 0} (time : ℕ) (old new : Contents D) : Type 0 where
  pub stepped : (s : Setup) (a : Arch) → ContentsStandFor s a old → On ≡ stepped_by s.output a.output (note_of (result_at s (Some time) a) a)
  pub stands : (s : Setup) (a : Arch) → ContentsStandFor s a old → ContentsStandFor s (after_instruction s (found_next s a) (result_at s (Some time) a) time a) new
  pub bound : retired_in new ≤ retired_in old + 1

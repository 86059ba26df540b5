-- The run without a machine file, step by step, and how far back a bounded history of it leads.
use Rattle.std.specs.Prelude.{◌≡◌, ℕ, ◌+◌, ◌-◌, ◌==◌, max, if◌then◌else◌, Bool, false, is_some, Option, Some, None}
use Rattle.fsim_base.specs.declared.access.RamRange.{RamRange}
use Rattle.fsim_base.specs.declared.instruction.Halt.{Halt}
use Rattle.mono_model.specs.declared.final_state.End.{End}
use Rattle.mono_model.specs.declared.final_state.End.TheVariants.{Limit, Running}
use Rattle.mono_model.specs.declared.setup.Setup.{Setup}
use Rattle.mono_model.specs.Setup.{ram_range}
use Rattle.mono_model.specs.Arch.{Arch}
use Rattle.mono_model.specs.Found.{is_fence_i}
use Rattle.mono_model.specs.Effect.{note_of}
use Rattle.mono_model.specs.Sequence.{found_next, result_at, seq, byte_in, halt_in}
use Rattle.mono_model.specs.Final.{end_of}
use Rattle.mono_model.specs.Alone.{alone}
use Rattle.undo_journal.specs.declared.past.Past.{Past}
use Rattle.func_model.specs.declared.contents.Contents.{Contents}
use Rattle.func_model.specs.declared.performed.PastStep.{PastStep}
use Rattle.func_model.specs.declared.performed.Interrupted.{Interrupted}
use Rattle.func_model.specs.declared.performed.Made.{Made}
use Rattle.func_model.specs.Contents.{ContentsStandFor, before}
use Rattle.func_model.specs.Undo.{trap_back, undone, IsRestorable}

-- the state after so many steps
abbrev pub walk : Setup → ℕ → Arch
walk s made = (alone s made).arch

-- so many steps are made before the run ends
abbrev pub IsReached : Setup → ℕ → Type 0
IsReached s made = (alone s made).steps ≡ made

-- a further step is made behind so many
abbrev pub has_next : Setup → ℕ → Bool
has_next s made = (alone s (made + 1)).steps == made + 1

-- how the run has ended behind so many steps, where no further one is made
abbrev pub end_at : Setup → ℕ → Option End
end_at s made = if has_next s made then None else Some (alone s (made + 1)).end

-- the step behind so many executes a FENCE.I
abbrev pub fences : Setup → ℕ → Bool
fences s made = is_fence_i (found_next s (before made (walk s made)))

-- the oldest position that can be gone back to once the step behind so many is made, by what it was before
abbrev pub floor : ℕ → Setup → ℕ → ℕ → ℕ
floor history s made old = if fences s made then made + 1 else max old (made + 1 - history)

-- a step, but for what a FENCE.I lets fetch see
abbrev pub step_seq : Setup → ℕ → Arch → Arch
step_seq s number a = seq s (Some number) (before number a)

-- the state before a timer interrupt, from the one behind it
abbrev pub resumed : Option Interrupted → Arch → Arch
resumed None a = a
resumed (Some was) a = record a { pc = was.pc; csrs = trap_back was.trap a.csrs }

-- the state before a step, from the one behind it
abbrev pub step_undone : RamRange → PastStep → Arch → Arch
step_undone range past a = resumed past.interrupted (undone range past.past a)

-- what is told of a step at a state, and what takes it back
pub record IsMade (s : Setup) (number : ℕ) (a : Arch) (made : Made) : Type 0 where
  pub sent : made.has_sent ≡ is_some (byte_in (note_of (result_at s (Some number) (before number a)) (before number a)))
  pub halt : made.halt ≡ halt_in (note_of (result_at s (Some number) (before number a)) (before number a))
  pub fence : made.is_fence ≡ is_fence_i (found_next s (before number a))
  pub back : step_undone (ram_range s.params) made.past (step_seq s number a) ≡ a

-- what a step did that sends nothing, doesn't end the run, and lets fetch see nothing
abbrev pub going_on : PastStep → Made
going_on past = record { has_sent = false; halt = None; is_fence = false; past = past }

-- what takes a step back that took no interrupt
abbrev pub uninterrupted : Past → PastStep
uninterrupted past = record { past = past; interrupted = None }

-- a step was made that sends nothing, doesn't end the run, and lets fetch see nothing
pub record IsPlainStep {D : Type 0} (number : ℕ) (old new : Contents D) (past : PastStep) : Type 0 where
  pub stands : (s : Setup) (a : Arch) → ContentsStandFor s a old → ContentsStandFor s (step_seq s number a) new
  pub made : (s : Setup) (a : Arch) → ContentsStandFor s a old → IsMade s number a (going_on past)
  pub restorable : IsRestorable past.past

-- how the run stands behind a step: the program ended it, or it was the last one
abbrev pub end_by : Option Halt → Bool → End
end_by (Some halt) last = end_of halt
end_by None last = if last then Limit else Running

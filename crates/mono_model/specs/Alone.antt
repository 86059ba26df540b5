-- The run without a machine file: one instruction a step, and the step's number is the time.
use Rattle.std.specs.Prelude.{ℕ, zero, suc, ◌+◌, ◌==◌, nat_le, if◌then◌else◌, Bool, true, false, length, Option, Some, None}
use Rattle.device_bus.specs.declared.undo.Note.{Note}
use Rattle.device_bus.specs.declared.undo.Note.TheVariants as note
use Rattle.machine_csr.specs.Trap.{timer_pending}
use Rattle.mono_model.specs.declared.final_state.End.{End}
use Rattle.mono_model.specs.declared.final_state.End.TheVariants.{Limit, OutputFull, Running}
use Rattle.mono_model.specs.declared.final_state.Stats.{Stats}
use Rattle.mono_model.specs.declared.final_state.Final.{Final}
use Rattle.mono_model.specs.declared.setup.Setup.{Setup}
use Rattle.mono_model.specs.Arch.{Arch, start, compare_of, interrupted, synced}
use Rattle.mono_model.specs.Effect.{note_of, is_fence_result}
use Rattle.mono_model.specs.Sequence.{found_next, result_at, seq}
use Rattle.mono_model.specs.Final.{end_of, has_ended, final_of}

pub record Alone : Type 0 where
  pub arch : Arch
  -- how many steps were made; the number of the next one
  pub steps : ℕ
  pub exceptions : ℕ
  pub interrupts : ℕ
  pub end : End

unfoldable pub alone_start : Setup → Alone
alone_start s = record { arch = start s; steps = 0; exceptions = 0; interrupts = 0; end = Running }

-- a pending timer interrupt is taken first
abbrev pub is_pending : Alone → Bool
is_pending m = timer_pending m.arch.csrs m.steps (compare_of m.arch.devices)

abbrev pub after_interrupt : Alone → Alone
after_interrupt m = if is_pending m then record m { arch = interrupted m.arch; interrupts = m.interrupts + 1 } else m

-- the output has no room for the byte that an instruction sends
abbrev pub has_no_room : Setup → Note → Arch → Bool
has_no_room s note.Nothing a = false
has_no_room s (note.Out byte) a = nat_le s.output (length a.output)
has_no_room s (note.End halt) a = false

-- the state behind the instruction, where a FENCE.I that retired lets fetch see memory
abbrev pub with_fence : Setup → Bool → Arch → Arch
with_fence s true a = synced s a
with_fence s false a = a

-- how a step ends the run: by the finisher, else as the last one
abbrev pub end_after : Setup → Note → ℕ → End
end_after s (note.End halt) steps = end_of halt
end_after s note steps = if steps == s.cycles then Limit else Running

abbrev pub count_cause : {A : Type 0} → Option A → ℕ
count_cause None = 0
count_cause (Some cause) = 1

-- one instruction, in a state in which no interrupt is pending: the step's number is its time
abbrev pub instruction : Setup → Alone → Alone
instruction s m =
    let r = result_at s (Some m.steps) m.arch in
    if has_no_room s (note_of r m.arch) m.arch
    then record m { end = OutputFull }
    else record m {
      arch = with_fence s (is_fence_result (found_next s m.arch) r) (seq s (Some m.steps) m.arch);
      steps = m.steps + 1;
      exceptions = m.exceptions + count_cause r.cause;
      end = end_after s (note_of r m.arch) (m.steps + 1);
    }

-- one step, where the run has not ended
unfoldable pub alone_step : Setup → Alone → Alone
alone_step s m = if has_ended m.end then m else instruction s (after_interrupt m)

-- the run after so many steps
unfoldable pub alone : Setup → ℕ → Alone
alone s zero = alone_start s
alone s (suc n) = alone_step s (alone s n)

-- the counts of such a run: all that speaks of cycles is 0
abbrev pub alone_stats : Alone → Stats
alone_stats m = record {
  version = 0;
  cycles = 0;
  instructions = m.arch.csrs.retired;
  exceptions = m.exceptions;
  interrupts = m.interrupts;
  replays = 0;
  fetched = 0;
  squashed = 0;
  branches = 0;
  mispredicted = 0;
  icache_accesses = 0;
  icache_misses = 0;
  dcache_accesses = 0;
  dcache_misses = 0;
  l2_accesses = 0;
  l2_misses = 0;
  writebacks = 0;
  output = length m.arch.output;
}

unfoldable pub alone_final : Alone → Final
alone_final m = final_of m.end (alone_stats m) m.arch

-- What is told of an instruction that was executed, and what takes it back.
use Rattle.std.specs.Prelude.{◌≡◌, ℕ, ◌≤◌, ◌+◌, ◌&&◌, Bool, false, is_some, slice_index, Option, None}
use Rattle.fsim_base.specs.declared.instruction.Class.{Class}
use Rattle.trace_entry.specs.declared.Entry.{Entry}
use Rattle.undo_journal.specs.declared.past.Past.{Past}
use Rattle.mono_model.specs.declared.setup.Setup.{Setup}
use Rattle.mono_model.specs.Setup.{ram_range}
use Rattle.mono_model.specs.Arch.{Arch}
use Rattle.mono_model.specs.Found.{Found, word_in, class_in, destination_in, is_fence_i}
use Rattle.mono_model.specs.Sequence.{seq, entry_at, found_next}
use Rattle.func_model.specs.declared.contents.Named.{Named}
use Rattle.func_model.specs.declared.contents.Contents.{Contents}
use Rattle.func_model.specs.declared.hart.Hart.{Hart}
use Rattle.func_model.specs.declared.performed.Performed.{Performed}
use Rattle.func_model.specs.Contents.{ContentsStandFor, retired_in}
use Rattle.func_model.specs.Undo.{register_before, ended_in, undone}

-- a word at the next address of a hart, with its class, destination, number and epoch
abbrev pub named_by : Hart → ℕ → Class → Option ℕ → ℕ → ℕ → Named
named_by hart word class destination number epoch = record {
  number = number;
  epoch = epoch;
  addr = hart.pc;
  word = word;
  class = class;
  value = (register_before destination (λ r. slice_index hart.regs r)).value;
  register = (register_before destination (λ r. slice_index hart.regs r)).register;
}

-- what stands at the next address of a hart, with its number and epoch
abbrev pub named_at : Hart → Found → ℕ → ℕ → Named
named_at hart found number epoch = named_by hart (word_in found) (class_in found) (destination_in found) number epoch

-- its entry, from what it did, the hart behind it, and mtimecmp
abbrev pub entry_by : Named → Performed → Bool → Hart → ℕ → Entry
entry_by named done unserved behind cmp = record {
  number = named.number;
  epoch = named.epoch;
  addr = named.addr;
  word = named.word;
  access = done.access;
  next = behind.pc;
  cause = done.cause;
  class = named.class;
  unserved = unserved;
  out = done.sent;
  halt = ended_in done.stepped;
  irq_on = behind.csrs.mie && behind.csrs.mtie;
  cmp = cmp;
}

-- its undo step
abbrev pub past_by : Named → Performed → Past
past_by named done = record { number = named.number; addr = named.addr; out = is_some done.sent; value = named.value; register = named.register; change = done.change }

-- the next instruction was executed, with its number, epoch and time: its entry, and what takes it back
pub record IsNextStep {D : Type 0} (s : Setup) (time : Option ℕ) (number epoch : ℕ) (a : Arch) (new : Contents D) (told : Entry × Past) : Type 0 where
  pub stands : ContentsStandFor s (seq s time a) new
  pub entry : told.0 ≡ entry_at s time a number epoch
  pub back : undone (ram_range s.params) told.1 (seq s time a) ≡ a

-- it sent nothing, didn't end the run, and lets fetch see nothing
pub record IsQuiet {D : Type 0} (old new : Contents D) (told : Entry × Past) : Type 0 where
  pub silent : told.0.out ≡ None
  pub going : told.0.halt ≡ None
  pub no_fence : (s : Setup) (a : Arch) → ContentsStandFor s a old → is_fence_i (found_next s a) ≡ false
  pub bound : retired_in new ≤ retired_in old + 1

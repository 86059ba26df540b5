-- The sequential step: one instruction at the address of the next instruction, with a time or none, and what is told of it.
use Rattle.std.specs.Prelude.{ℕ, ◌&&◌, Bool, is_none, Option, Some, None}
use Rattle.fsim_base.specs.declared.instruction.Halt.{Halt}
use Rattle.device_bus.specs.declared.undo.Note.{Note}
use Rattle.device_bus.specs.declared.undo.Note.TheVariants as note
use Rattle.trace_entry.specs.declared.Entry.{Entry}
use Rattle.mono_model.specs.declared.setup.Setup.{Setup}
use Rattle.mono_model.specs.Setup.{ram_range}
use Rattle.mono_model.specs.Arch.{Arch, register_value, compare_of}
use Rattle.mono_model.specs.Found.{Found, found_at, first_source, second_source, word_in, class_in}
use Rattle.mono_model.specs.Result.{Result, Seen, executed, is_time_read}
use Rattle.mono_model.specs.Effect.{effect, note_of}

-- what stands at the next address
abbrev pub found_next : Setup → Arch → Found
found_next s a = found_at s.image a.text a.pc

-- what the next instruction sees
abbrev pub seen_in : Option ℕ → Arch → Seen
seen_in time a = record { bytes = a.ram; csrs = a.csrs; devices = a.devices; time = time }

-- what it comes to
unfoldable pub result_at : Setup → Option ℕ → Arch → Result
result_at s time a =
    executed (ram_range s.params) (found_next s a) a.pc
    (register_value a.regs (first_source (found_next s a))) (register_value a.regs (second_source (found_next s a))) (seen_in time a)

-- the state behind it. Neither a finisher store nor a byte beyond the output limit stops this step.
unfoldable pub seq : Setup → Option ℕ → Arch → Arch
seq s time a = effect (found_next s a) (result_at s time a) time a.pc a

-- it reads the time and was given none
abbrev pub is_unserved : Found → Result → Option ℕ → Bool
is_unserved found r time = is_time_read found r.access && is_none time

-- the byte that is sent, and how the run ends
abbrev pub byte_in : Note → Option ℕ
byte_in note.Nothing = None
byte_in (note.Out byte) = Some byte
byte_in (note.End halt) = None

abbrev pub halt_in : Note → Option Halt
halt_in note.Nothing = None
halt_in (note.Out byte) = None
halt_in (note.End halt) = Some halt

-- what is told of the next instruction, with its number and epoch
unfoldable pub entry_at : Setup → Option ℕ → Arch → ℕ → ℕ → Entry
entry_at s time a number epoch = record {
  number = number;
  epoch = epoch;
  addr = a.pc;
  word = word_in (found_next s a);
  access = (result_at s time a).access;
  next = (seq s time a).pc;
  cause = (result_at s time a).cause;
  class = class_in (found_next s a);
  unserved = is_unserved (found_next s a) (result_at s time a) time;
  out = byte_in (note_of (result_at s time a) a);
  halt = halt_in (note_of (result_at s time a) a);
  irq_on = (seq s time a).csrs.mie && (seq s time a).csrs.mtie;
  cmp = compare_of (seq s time a).devices;
}

-- What each access to a device does, register by register.
--
-- A device is its kind, what it was given of the input, and its numbers, which are counted by
-- slots: the console's are the line control register (0) and how many bytes of the input were
-- received (1), the timer's the low (0) and the high half (1) of mtimecmp; the finisher has none.
--
-- Console: National Semiconductor PC16550D data sheet, the receiver buffer and transmitter holding
-- registers, the line control register (bit 7 is the divisor latch access bit) and the line status
-- register (bit 0 says that data is ready, bits 5 and 6 that the transmitter is empty).
-- Timer: RISC-V privileged manual, section 3.2.1, at the offsets of SiFive's CLINT.
-- Finisher: SiFive's test finisher.
use Rattle.std.specs.Prelude.{◌≡◌, ◌≢◌, ℕ, zero, suc, ◌+◌, ◌/◌, ◌%◌, ◌^◌, nat_lt, ◌==◌}
use Rattle.std.specs.Prelude.{if◌then◌else◌, Bool, not, ◌||◌, List, [], ◌∷◌, length, slice_index}
use Rattle.std.specs.Prelude.{slice_set}
use Rattle.fsim_base.specs.declared.access.Width.{Width}
use Rattle.fsim_base.specs.declared.access.Width.TheVariants.{Byte, Half, Word}
use Rattle.fsim_base.specs.declared.instruction.Halt.TheVariants.{Pass, Fail}
use Rattle.device_bus.specs.declared.kind.DeviceKind.{DeviceKind}
use Rattle.device_bus.specs.declared.kind.DeviceKind.TheVariants.{Console, Timer, Finisher}
use Rattle.device_bus.specs.declared.undo.Note.{Note}
use Rattle.device_bus.specs.declared.undo.Note.TheVariants.{Nothing, Out, End}
unfoldable pub use Rattle.device_bus.specs.Range.{accepts_of}

-- how many numbers a device has
abbrev pub slots_of : DeviceKind → ℕ
slots_of Console = 2
slots_of Timer = 2
slots_of Finisher = 0

-- the numbers at the start of a run
abbrev pub opening : DeviceKind → List ℕ
opening Console = 0 ∷ 0 ∷ []
opening Timer = 0xFFFF_FFFF ∷ 0xFFFF_FFFF ∷ []
opening Finisher = []

-- what a device is given of the run's input: the console alone reads it
abbrev pub input_for : DeviceKind → List ℕ → List ℕ
input_for Console input = input
input_for Timer input = []
input_for Finisher input = []

-- what a device was given of the input, and its numbers
pub record DeviceState : Type 0 where
  pub given : List ℕ
  pub numbers : List ℕ

-- a device at the start of a run with this input
abbrev pub opening_state : DeviceKind → List ℕ → DeviceState
opening_state kind input = record { given = input_for kind input; numbers = opening kind }

-- the device with other numbers
abbrev pub renumbered : DeviceState → List ℕ → DeviceState
renumbered state numbers = record { given = state.given; numbers = numbers }

-- one access that a device accepts, at an offset in its range: a load at a time, or a store of a
-- value
pub data DeviceAccess : Type 0 where
  loading : ℕ → Width → ℕ → DeviceAccess
  storing : ℕ → Width → ℕ → DeviceAccess

-- what an access gives: the loaded value (0 of a store), the numbers after it, and what it does
-- outside the device
pub record DeviceAnswer : Type 0 where
  pub value : ℕ
  pub numbers : List ℕ
  pub note : Note

-- the registers: the console's receiver buffer and transmitter holding register, which are one
-- offset, its line control and its line status; the halves of mtimecmp and of mtime; the test
-- finisher; and what no device has
pub data Register : Type 0 where
  transfer : Register
  line_control : Register
  line_status : Register
  compare_low : Register
  compare_high : Register
  time_low : Register
  time_high : Register
  finish : Register
  reserved : Register

-- where the timer has the two words of its time
abbrev pub time_low_offset : ℕ
time_low_offset = 0xBFF8

abbrev pub time_high_offset : ℕ
time_high_offset = 0xBFFC

-- the register map of each device: offsets and registers
abbrev pub register_map : DeviceKind → List (ℕ × Register)
register_map Console = (0, transfer) ∷ (3, line_control) ∷ (5, line_status) ∷ []
register_map Timer =
    (0x4000, compare_low) ∷ (0x4004, compare_high) ∷ (time_low_offset, time_low) ∷ (time_high_offset, time_high) ∷ []
register_map Finisher = (0, finish) ∷ []

-- the register that a map has at an offset
abbrev pub register_in : List (ℕ × Register) → ℕ → Register
register_in [] off = reserved
register_in (entry ∷ entries) off = if off == entry.0 then entry.1 else register_in entries off

abbrev pub register_at : DeviceKind → ℕ → Register
register_at kind off = register_in (register_map kind) off

-- the divisor latch access bit is set, which hides the transfer register
abbrev pub has_latch : List ℕ → Bool
has_latch numbers = slice_index numbers 0 / 128 % 2 == 1

-- some of the input wasn't received yet
abbrev pub has_input : List ℕ → List ℕ → Bool
has_input input numbers = nat_lt (slice_index numbers 1) (length input)

-- an access that changes nothing
abbrev pub plain_answer : ℕ → List ℕ → DeviceAnswer
plain_answer value numbers = record { value = value; numbers = numbers; note = Nothing }

-- a store that puts a number into a slot
abbrev pub put_answer : ℕ → ℕ → List ℕ → DeviceAnswer
put_answer slot number numbers =
    record { value = 0; numbers = slice_set numbers slot number; note = Nothing }

-- a store that acts outside the device
abbrev pub note_answer : Note → List ℕ → DeviceAnswer
note_answer note numbers = record { value = 0; numbers = numbers; note = note }

-- a load that receives the next byte of the input
abbrev pub receive_answer : List ℕ → List ℕ → DeviceAnswer
receive_answer input numbers = record {
  value = slice_index input (slice_index numbers 1);
  numbers = slice_set numbers 1 (slice_index numbers 1 + 1);
  note = Nothing;
}

-- how a word stored to the test finisher ends the run, if it does
abbrev pub finish_note : ℕ → Note
finish_note value =
    if value == 0x5555 then End Pass
    else (if value % 2 ^ 16 == 0x3333 then End (Fail (value / 2 ^ 16)) else Nothing)

-- a load from each register, at a time
abbrev pub load_answer : Register → List ℕ → List ℕ → ℕ → DeviceAnswer
load_answer transfer input numbers time =
    if has_latch numbers || not (has_input input numbers)
    then plain_answer 0 numbers
    else receive_answer input numbers
load_answer line_control input numbers time = plain_answer (slice_index numbers 0) numbers
load_answer line_status input numbers time =
    plain_answer (if has_input input numbers then 0x61 else 0x60) numbers
load_answer compare_low input numbers time = plain_answer (slice_index numbers 0) numbers
load_answer compare_high input numbers time = plain_answer (slice_index numbers 1) numbers
load_answer time_low input numbers time = plain_answer (time % 2 ^ 32) numbers
load_answer time_high input numbers time = plain_answer (time / 2 ^ 32) numbers
load_answer finish input numbers time = plain_answer 0 numbers
load_answer reserved input numbers time = plain_answer 0 numbers

-- a store to each register
abbrev pub store_answer : Register → List ℕ → Width → ℕ → DeviceAnswer
store_answer transfer numbers width value =
    if has_latch numbers then plain_answer 0 numbers else note_answer (Out (value % 256)) numbers
store_answer line_control numbers width value = put_answer 0 (value % 256) numbers
store_answer line_status numbers width value = plain_answer 0 numbers
store_answer compare_low numbers width value = put_answer 0 value numbers
store_answer compare_high numbers width value = put_answer 1 value numbers
store_answer time_low numbers width value = plain_answer 0 numbers
store_answer time_high numbers width value = plain_answer 0 numbers
store_answer finish numbers Byte value = plain_answer 0 numbers
store_answer finish numbers Half value = plain_answer 0 numbers
store_answer finish numbers Word value = note_answer (finish_note value) numbers
store_answer reserved numbers width value = plain_answer 0 numbers

-- what a device of a kind, with its input and its numbers, does at an access
unfoldable pub dev : DeviceKind → List ℕ → List ℕ → DeviceAccess → DeviceAnswer
dev kind input numbers (loading off width time) =
    load_answer (register_at kind off) input numbers time
dev kind input numbers (storing off width value) =
    store_answer (register_at kind off) numbers width value

-- the same of a device's state
abbrev pub answer_of : DeviceKind → DeviceState → DeviceAccess → DeviceAnswer
answer_of kind state access = dev kind state.given state.numbers access

-- the device after an access: nothing but its numbers may have changed
abbrev pub state_after : DeviceKind → DeviceState → DeviceAccess → DeviceState
state_after kind state access = renumbered state (answer_of kind state access).numbers

-- at most one number differs, and none comes or goes
pub record ChangesAtMostOne (before after : List ℕ) : Type 0 where
  pub slot : ℕ
  pub others : (k : ℕ) → k ≢ slot → slice_index after k ≡ slice_index before k
  pub count : length after ≡ length before

-- the values that loads of the transfer register give, one after another
unfoldable pub received : ℕ → List ℕ → List ℕ → List ℕ
received zero input numbers = []
received (suc count) input numbers =
    let answer = dev Console input numbers (loading 0 Byte 0) in
    answer.value ∷ received count input answer.numbers

-- the timer's numbers once both halves of mtimecmp were stored
unfoldable pub compare_stored : ℕ → ℕ → List ℕ → List ℕ
compare_stored low high numbers =
    let after_low = (dev Timer [] numbers (storing 0x4000 Word low)).numbers in
    (dev Timer [] after_low (storing 0x4004 Word high)).numbers

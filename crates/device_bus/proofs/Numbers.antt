-- How an access changes a device's numbers.
use Rattle.std.proofs.Common.{◌≡◌, ℕ, ◌+◌, ◌%◌, Bool, true, false, if◌then◌else◌, not, ◌||◌, List, slice_index, slice_set, refl, ap}
use Rattle.std.proofs.lemmas.List.{get_or-set_other, length-set}
use Rattle.fsim_base.specs.declared.access.Width.{Width}
use Rattle.fsim_base.specs.declared.access.Width.TheVariants.{Byte, Half, Word}
use Rattle.device_bus.specs.declared.kind.DeviceKind.{DeviceKind}
use Rattle.device_bus.specs.declared.kind.DeviceKind.TheVariants.{Console, Timer, Finisher}
use Rattle.device_bus.specs.declared.undo.DevUndo.{DevUndo}
use Rattle.device_bus.specs.declared.undo.Note.TheVariants.{Out}
use Rattle.device_bus.specs.Device.{DeviceState, Register, transfer, line_control, compare_low, compare_high, finish, DeviceAccess, loading, storing, DeviceAnswer, register_at, load_answer, store_answer, plain_answer, receive_answer, note_answer, has_latch, has_input, dev, ChangesAtMostOne}
use Rattle.device_bus.specs.Undo.{Undoes}
use Rattle.device_bus.specs.Bus.{Devices, state_of, with_state, devices_undone}

-- numbers that stay, and numbers of which one is put into a slot
same : (numbers : List ℕ) → ChangesAtMostOne numbers numbers
same numbers = record { slot = 0; others = λ k other. refl; count = refl }

put : (numbers : List ℕ) (slot number : ℕ) → ChangesAtMostOne numbers (slice_set numbers slot number)
put numbers slot number = record {
  slot = slot;
  others = λ k other. get_or-set_other numbers slot k number 0 other;
  count = length-set numbers slot number;
}

-- whichever of two answers a test chooses
either : (test : Bool) (a b : DeviceAnswer) (numbers : List ℕ)
    → ChangesAtMostOne numbers a.numbers → ChangesAtMostOne numbers b.numbers
    → ChangesAtMostOne numbers (if test then a else b).numbers
either true a b numbers at_a at_b = at_a
either false a b numbers at_a at_b = at_b

-- a load and a store, register by register
load-changes : (register : Register) (input numbers : List ℕ) (time : ℕ)
    → ChangesAtMostOne numbers (load_answer register input numbers time).numbers
load-changes transfer input numbers time =
    let received = put numbers 1 (slice_index numbers 1 + 1) in
    let hidden = has_latch numbers || not (has_input input numbers) in
    either hidden (plain_answer 0 numbers) (receive_answer input numbers) numbers (same numbers) received
load-changes register input numbers time = same numbers

store-changes : (register : Register) (numbers : List ℕ) (width : Width) (value : ℕ)
    → ChangesAtMostOne numbers (store_answer register numbers width value).numbers
store-changes transfer numbers width value =
    let sent = note_answer (Out (value % 256)) numbers in
    either (has_latch numbers) (plain_answer 0 numbers) sent numbers (same numbers) (same numbers)
store-changes line_control numbers width value = put numbers 0 (value % 256)
store-changes compare_low numbers width value = put numbers 0 value
store-changes compare_high numbers width value = put numbers 1 value
store-changes finish numbers Byte value = same numbers
store-changes finish numbers Half value = same numbers
store-changes finish numbers Word value = same numbers
store-changes register numbers width value = same numbers

-- an access changes at most one number
pub dev-changes : (kind : DeviceKind) (input numbers : List ℕ) (access : DeviceAccess)
    → ChangesAtMostOne numbers (dev kind input numbers access).numbers
unfolding dev
dev-changes kind input numbers (loading off width time) = load-changes (register_at kind off) input numbers time
dev-changes kind input numbers (storing off width value) = store-changes (register_at kind off) numbers width value

-- an access that is taken back leaves nothing
pub devices_undone-with_state : (devices : Devices) (kind : DeviceKind) (undo : DevUndo) (after : DeviceState)
    → Undoes kind undo (state_of devices kind) after → devices_undone (with_state devices kind after) kind undo ≡ devices
devices_undone-with_state devices Console undo after undoes = ap (with_state devices Console) undoes.back
devices_undone-with_state devices Timer undo after undoes = ap (with_state devices Timer) undoes.back
devices_undone-with_state devices Finisher undo after undoes = ap (with_state devices Finisher) undoes.back

-- Stores, put together from what the code's calls ensure.
use Rattle.std.proofs.Common.{◌≡◌, ℕ, ◌%◌, Bool, true, false, not, if◌then◌else◌, List, Option, Some, None, is_some, refl, ap, sym, ◌∙◌}
use Rattle.fsim_base.specs.Width.{width_bytes}
use Rattle.fsim_base.specs.Range.{is_inside}
use Rattle.fsim_base.specs.Memory.{put_bytes}
use Rattle.fsim_base.specs.declared.access.Width.{Width}
use Rattle.fsim_base.specs.declared.access.Width.TheVariants.{Byte, Half, Word}
use Rattle.fsim_base.specs.declared.access.RamRange.{RamRange}
use Rattle.device_bus.specs.declared.place.Place.{Place}
use Rattle.device_bus.specs.declared.kind.DeviceKind.{DeviceKind}
use Rattle.device_bus.specs.declared.kind.DeviceKind.TheVariants.{Console, Timer, Finisher}
use Rattle.device_bus.specs.declared.undo.Note.{Note}
use Rattle.device_bus.specs.declared.undo.Note.TheVariants as note
use Rattle.device_bus.specs.Device.{Register, transfer, line_control, line_status, compare_low, compare_high, time_low, time_high, finish, reserved, register_at, store_answer, storing, dev, renumbered, has_latch, DeviceAnswer, plain_answer, note_answer}
use Rattle.device_bus.specs.Bus.{Devices, state_of, with_state, devices_after, answer_at, kind_at, find_of}
use Rattle.mono_model.specs.Arch.{Arch, trapped}
use Rattle.mono_model.specs.Effect.{with_note}
use Rattle.mono_model.specs.Result.{accepts_place}
use Rattle.phys_mem.specs.Ram.{loaded, stored}
use Rattle.func_model.specs.Steps.{finished, is_full, concluded, store_made}
use Rattle.func_model.proofs.Loads.{spot_device}

some_inside : (inside : Bool) (x : ℕ) → is_some (if inside then Some x else None) ≡ true → inside ≡ true
some_inside true x some = refl
some_inside false x some = cc

-- a store to RAM
pub store_ram : (range : RamRange) (limit next addr : ℕ) (width : Width) (value : ℕ) (a b : Arch) (ram text : ℕ → ℕ) → addr % width_bytes width ≡ 0 →
    is_some (loaded range a.ram addr width) ≡ true → ram ≡ stored range a.ram addr width value → text ≡ a.text →
    b ≡ finished None 0 next (record a { ram = ram; text = text }) → b ≡ store_made range limit next addr width value a
store_ram range limit next addr width value a b ram text aligned there written same made =
    let inside : is_inside range addr (width_bytes width) ≡ true = some_inside _ _ there in
    let put : ram ≡ put_bytes (width_bytes width) addr value a.ram = rw inside at written in
    rw (aligned, inside) (made ∙ ap (λ m. finished None 0 next (record a { ram = m; text = text })) put ∙ ap (λ t. finished None 0 next (record a { ram = put_bytes (width_bytes width) addr value a.ram; text = t })) same)

if_numbers : (latch : Bool) (x y : DeviceAnswer) (numbers : List ℕ) → x.numbers ≡ numbers → y.numbers ≡ numbers → (if◌then◌else◌ {A = DeviceAnswer} latch x y).numbers ≡ numbers
if_numbers true x y numbers p q = p
if_numbers false x y numbers p q = q

-- a byte that is sent changes no number
sent_numbers : (register : Register) (numbers : List ℕ) (width : Width) (value byte : ℕ) → (store_answer register numbers width value).note ≡ note.Out byte → (store_answer register numbers width value).numbers ≡ numbers
sent_numbers transfer numbers width value byte sent = if_numbers (has_latch numbers) (plain_answer 0 numbers) (note_answer (note.Out (value % 256)) numbers) numbers refl refl
sent_numbers line_control numbers width value byte sent = cc
sent_numbers line_status numbers width value byte sent = refl
sent_numbers compare_low numbers width value byte sent = cc
sent_numbers compare_high numbers width value byte sent = cc
sent_numbers time_low numbers width value byte sent = refl
sent_numbers time_high numbers width value byte sent = refl
sent_numbers finish numbers Byte value byte sent = refl
sent_numbers finish numbers Half value byte sent = refl
sent_numbers finish numbers Word value byte sent = refl
sent_numbers reserved numbers width value byte sent = refl

restated : (devices : Devices) (kind : DeviceKind) → with_state devices kind (state_of devices kind) ≡ devices
restated devices Console = refl
restated devices Timer = refl
restated devices Finisher = refl

pub sent_alike : (devices : Devices) (kind : DeviceKind) (off : ℕ) (width : Width) (value byte : ℕ) → (answer_at devices kind (storing off width value)).note ≡ note.Out byte →
    devices_after devices kind (storing off width value) ≡ devices
unfolding dev
sent_alike devices kind off width value byte sent =
    ap (λ numbers. with_state devices kind (renumbered (state_of devices kind) numbers)) (sent_numbers (register_at kind off) (state_of devices kind).numbers width value byte sent) ∙ restated devices kind

-- a store to a device, by its note
by_note : (limit next : ℕ) (what : Note) (a b : Arch) (after : Devices) → ((byte : ℕ) → what ≡ note.Out byte → after ≡ a.devices) →
    b ≡ concluded limit what next (record a { devices = after }) →
    b ≡ (if is_full limit a.output what then a else record (finished None 0 next a) { ram = a.ram; devices = after; output = with_note what a.output })
by_note limit next note.Nothing a b after keeps made = made
by_note limit next (note.Out byte) a b after keeps made =
    let e : after ≡ a.devices = keeps byte refl in
    rw e (rw e at made)
by_note limit next (note.End halt) a b after keeps made = made

pub store_device : (range : RamRange) (limit next addr : ℕ) (width : Width) (value : ℕ) (place : Place) (what : Note) (after : Devices) (a b : Arch) → addr % width_bytes width ≡ 0 →
    is_some (loaded range a.ram addr width) ≡ false → find_of addr width ≡ Some place → place.accepted ≡ true →
    what ≡ (answer_at a.devices (kind_at place.device) (storing place.off width value)).note →
    after ≡ devices_after a.devices (kind_at place.device) (storing place.off width value) →
    b ≡ concluded limit what next (record a { devices = after }) → b ≡ store_made range limit next addr width value a
store_device range limit next addr width value place what after a b aligned none there accepted noted changed made =
    rw (spot_device range a.ram addr width place aligned none there, there, accepted, ← noted, ← changed)
    (by_note limit next what a b after (λ byte sent. changed ∙ sent_alike a.devices (kind_at place.device) place.off width value byte (sym noted ∙ sent)) made)

pub is_accepted : (accepted : Bool) → not accepted ≡ false → accepted ≡ true
is_accepted true is = refl
is_accepted false is = cc

pub is_refused : (accepted : Bool) → not accepted ≡ true → accepted ≡ false
is_refused true is = cc
is_refused false is = refl

-- a store that can't be made
pub store_none : (range : RamRange) (limit next addr : ℕ) (width : Width) (value : ℕ) (place : Option Place) (a b : Arch) → addr % width_bytes width ≡ 0 →
    is_some (loaded range a.ram addr width) ≡ false → place ≡ find_of addr width → accepts_place place ≡ false →
    b ≡ trapped 7 addr a.pc a → b ≡ store_made range limit next addr width value a
store_none range limit next addr width value None a b aligned none there refused made =
    let outside : is_inside range addr (width_bytes width) ≡ false = none_inside _ _ none in
    rw (aligned, outside, ← there) made
  where
    none_inside : (inside : Bool) (x : ℕ) → is_some (if inside then Some x else None) ≡ false → inside ≡ false
    none_inside true x none = cc
    none_inside false x none = refl
store_none range limit next addr width value (Some place) a b aligned none there refused made =
    rw (spot_device range a.ram addr width place aligned none (sym there), ← there, refused) made

-- a store that isn't inside RAM leaves memory as it was
outside_of : (inside : Bool) (x : ℕ) → is_some (if inside then Some x else None) ≡ false → inside ≡ false
outside_of true x none = cc
outside_of false x none = refl

pub unstored : (range : RamRange) (addr : ℕ) (width : Width) (value : ℕ) (a : Arch) (ram text : ℕ → ℕ) → is_some (loaded range a.ram addr width) ≡ false →
    ram ≡ stored range a.ram addr width value → text ≡ a.text → record a { ram = ram; text = text } ≡ a
unstored range addr width value a ram text none written same =
    let outside : is_inside range addr (width_bytes width) ≡ false = outside_of _ _ none in
    let kept : ram ≡ a.ram = rw outside at written in
    ap (λ m. record a { ram = m; text = text }) kept ∙ ap (λ t. record a { ram = a.ram; text = t }) same

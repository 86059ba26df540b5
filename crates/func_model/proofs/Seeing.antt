-- What is seen at a position of the run alone.
use Rattle.std.proofs.Common.{◌≡◌, ◌≢◌, ℕ, ◌+◌, ◌-◌, ◌/◌, ◌%◌, ◌^◌, ◌≤◌, ◌<◌, ◌&&◌, not, nat_le, nat_lt, Bool, true, false, if◌then◌else◌, List, length, Option, Some, None, is_some, is_none, IsTrue, refl, ap, sym, ◌∙◌, subst, arith}
use Rattle.fsim_base.specs.declared.access.Access.{Access}
use Rattle.fsim_base.specs.declared.access.Access.TheVariants as access
use Rattle.std.proofs.lemmas.Grind.{common_steps}
use Rattle.fsim_base.specs.Memory.{from_bytes}
use Rattle.fsim_base.specs.Range.{is_inside}
use Rattle.fsim_base.specs.declared.access.RamRange.{RamRange}
use Rattle.fsim_base.specs.declared.access.Width.TheVariants.{Byte, Word}
use Rattle.device_bus.specs.declared.kind.DeviceKind.{DeviceKind}
use Rattle.device_bus.specs.declared.kind.DeviceKind.TheVariants.{Console, Timer, Finisher}
use Rattle.device_bus.specs.Device.{loading}
use Rattle.device_bus.specs.Bus.{Devices, IsInRange, accepts_of, answer_at, is_in_range, range_of}
use Rattle.phys_mem.specs.Ram.{loaded}
use Rattle.rv_exec.specs.Eval.{eval_of}
use Rattle.machine_csr.specs.Trap.{timer_pending}
use Rattle.mono_model.specs.declared.final_state.End.{End}
use Rattle.mono_model.specs.declared.final_state.End.TheVariants as end
use Rattle.mono_model.specs.declared.setup.Setup.{Setup}
use Rattle.mono_model.specs.Setup.{ram_range}
use Rattle.mono_model.specs.Arch.{Arch, compare_of, interrupted}
use Rattle.mono_model.specs.Found.{Found, is_fence_i}
use Rattle.mono_model.specs.Result.{Result, executed}
use Rattle.mono_model.specs.Sequence.{byte_in, found_next, halt_in, result_at}
use Rattle.mono_model.specs.Final.{has_ended}
use Rattle.mono_model.specs.Alone.{has_no_room}
use Rattle.func_model.specs.declared.looking.Ahead.TheVariants.{Ended, Step}
use Rattle.func_model.specs.declared.trail.Trail.{Trail}
use Rattle.func_model.specs.Hart.{arch_of}
use Rattle.func_model.specs.Steps.{result_of}
use Rattle.func_model.specs.Contents.{before}
use Rattle.func_model.specs.History.{walk, end_at, fences}
use Rattle.func_model.specs.Trail.{IsPlace, TrailStandsFor}
use Rattle.func_model.specs.Position.{byte_of, device_byte_of, found, is_going, made_access, peeked, reach, LiesAhead}
use Rattle.mono_model.proofs.Found.{fence_i_is}
use Rattle.func_model.proofs.Advance.{pending_is, result_same}
use Rattle.func_model.proofs.Trailing.{before_output, ended_ends, full_ends, goes_on, note_at, room_is}
use Rattle.func_model.proofs.Trails.{place_running}

-- the state that is found: an interrupt is taken in a run that goes on
found_by : (ended pending : Bool) (x y : Arch) → (if not ended then (if pending then x else y) else y) ≡ (if (pending && not ended) then x else y)
found_by true true x y = refl
found_by true false x y = refl
found_by false true x y = refl
found_by false false x y = refl

pub found_as : {D : Type 0} (s : Setup) (trail : Trail D) (pending : Bool) → TrailStandsFor s trail → pending ≡ timer_pending trail.contents.hart.csrs trail.at trail.contents.cmp →
    found s trail.at ≡ (if (pending && not (has_ended trail.end)) then interrupted (walk s trail.at) else walk s trail.at)
unfolding arch_of
found_as s trail pending h is =
    let a : Arch = walk s trail.at in
    let due : pending ≡ timer_pending a.csrs trail.at (compare_of a.devices) =
    pending_is (arch_of trail.contents.hart trail.contents.bus) a trail.at trail.contents.cmp pending h.contents.arch h.contents.compare is in
    ap (λ (p : Bool). if is_going s trail.at then (if p then interrupted a else a) else a) (sym due)
    ∙ ap (λ (e : Bool). if not e then (if pending then interrupted a else a) else a) (ap has_ended h.place.end_is)
    ∙ found_by (has_ended trail.end) pending (interrupted a) a

pub found_going : {D : Type 0} (s : Setup) (trail : Trail D) → TrailStandsFor s trail → has_ended trail.end ≡ false → found s trail.at ≡ before trail.at (walk s trail.at)
found_going s trail h going =
    ap (λ (e : Bool). if not e then before trail.at (walk s trail.at) else walk s trail.at) (ap has_ended h.place.end_is ∙ going)

-- room in the output for what the next step sends
pub room_by : {D : Type 0} (s : Setup) (trail : Trail D) (sent : Bool) → TrailStandsFor s trail → sent ≡ is_some (byte_in (note_at s trail.at (walk s trail.at))) →
    has_no_room s (note_at s trail.at (walk s trail.at)) (before trail.at (walk s trail.at)) ≡ (nat_le s.output (length (walk s trail.at).output) && sent)
room_by s trail sent h is =
    let a : Arch = walk s trail.at in
    room_is s (note_at s trail.at a) (before trail.at a)
    ∙ ap (λ (o : List ℕ). nat_le s.output (length o) && is_some (byte_in (note_at s trail.at a))) (before_output trail.at a)
    ∙ ap (λ (b : Bool). nat_le s.output (length a.output) && b) (sym is)

-- what comes next
pub over_ahead : {D : Type 0} (s : Setup) (trail : Trail D) → TrailStandsFor s trail → has_ended trail.end ≡ true → LiesAhead s trail.at (Ended trail.end)
over_ahead s trail h ended = ended_ends s trail.at trail.end h.place ended

pub full_ahead : {D : Type 0} (s : Setup) (trail : Trail D) → TrailStandsFor s trail → has_ended trail.end ≡ false →
    has_no_room s (note_at s trail.at (walk s trail.at)) (before trail.at (walk s trail.at)) ≡ true → LiesAhead s trail.at (Ended end.OutputFull)
full_ahead s trail h going full = full_ends s trail.at (place_running s trail.at trail.end h.place going) full

reach_by : (s : Setup) (at : ℕ) (a : Arch) → end_at s at ≡ None → found s at ≡ a → reach s at ≡ made_access (result_at s (Some at) a)
reach_by s at a none is =
    ap (λ (e : Option End). if is_some e then access.Nothing else made_access (result_at s (Some at) (found s at))) none
    ∙ ap (λ (x : Arch). made_access (result_at s (Some at) x)) is

pub step_ahead : {D : Type 0} (s : Setup) (trail : Trail D) (made : Access) → TrailStandsFor s trail → has_ended trail.end ≡ false →
    has_no_room s (note_at s trail.at (walk s trail.at)) (before trail.at (walk s trail.at)) ≡ false →
    made ≡ made_access (result_at s (Some trail.at) (before trail.at (walk s trail.at))) → LiesAhead s trail.at (Step made)
step_ahead s trail made h going room is =
    let place : IsPlace s trail.at end.Running = place_running s trail.at trail.end h.place going in
    let none : end_at s trail.at ≡ None = (goes_on s trail.at (halt_in (note_at s trail.at (walk s trail.at))) place refl room).none in
    (none, reach_by s trail.at (before trail.at (walk s trail.at)) none (found_going s trail h going) ∙ sym is)

-- a FENCE.I loads and stores nothing
fence_access : (range : RamRange) (found : Found) (time : Option ℕ) (a : Arch) → is_fence_i found ≡ true → (result_of range found time a).access ≡ access.Nothing
unfolding executed eval_of
fence_access range found time a is =
    let P : Found → Type 0 = λ f. (result_of range f time a).access ≡ access.Nothing in
    subst P (sym (fence_i_is found is).is) refl

made_nothing : (r : Result) → r.access ≡ access.Nothing → made_access r ≡ access.Nothing
made_nothing r none = by (is_none r.cause)
  where
    by : (b : Bool) → (if b then r.access else access.Nothing) ≡ access.Nothing
    by true = none
    by false = refl

-- so a step that does is none
pub reaching_no_fence : (s : Setup) (at : ℕ) → end_at s at ≡ None → found s at ≡ before at (walk s at) → reach s at ≢ access.Nothing → fences s at ≡ false
reaching_no_fence s at none is reaches = by (fences s at) refl
  where
    by : (b : Bool) → fences s at ≡ b → b ≡ false
    by false same = refl
    by true same =
        let a : Arch = before at (walk s at) in
        absurd (reaches (reach_by s at a none is
        ∙ made_nothing (result_at s (Some at) a)
        (ap (λ (r : Result). r.access) (sym (result_same s (Some at) a)) ∙ fence_access (ram_range s.params) (found_next s a) (Some at) a same)))

-- bytes
apart : {P : Type 0} → true ≡ false → P
apart e = cc

same_some : (n m : ℕ) → Some n ≡ Some m → n ≡ m
same_some n m e = cc

some_none : {P : Type 0} (n : ℕ) → Some n ≡ None → P
some_none n e = cc

ram_from : (inside : Bool) (byte value at : ℕ) (other : Option ℕ) → value ≡ at → Some byte ≡ (if inside then Some value else None) → Some (byte % 256) ≡ (if inside then Some (at % 256) else other)
ram_from true byte value at other is got = ap (λ (n : ℕ). Some (n % 256)) (same_some byte value got ∙ is)
ram_from false byte value at other is got = some_none byte got

one_byte : (memory : ℕ → ℕ) (addr : ℕ) → from_bytes 1 addr memory ≡ memory addr
one_byte memory addr = omega arith

pub ram_byte : (range : RamRange) (a : Arch) (time addr byte : ℕ) → Some byte ≡ loaded range a.ram addr Byte → Some (byte % 256) ≡ byte_of range a time addr
ram_byte range a time addr byte got =
    ram_from (is_inside range addr 1) byte (from_bytes 1 addr a.ram) (a.ram addr) (device_byte_of a.devices time addr) (one_byte a.ram addr) got

no_from : (inside : Bool) (value : ℕ) (there other : Option ℕ) → is_some (if inside then Some value else None) ≡ false → other ≡ (if inside then there else other)
no_from true value there other none = apart none
no_from false value there other none = refl

pub no_ram : (range : RamRange) (a : Arch) (time addr : ℕ) → is_some (loaded range a.ram addr Byte) ≡ false → device_byte_of a.devices time addr ≡ byte_of range a time addr
no_ram range a time addr none =
    no_from (is_inside range addr 1) (from_bytes 1 addr a.ram) (Some (a.ram addr % 256)) (device_byte_of a.devices time addr) none

pub console_accepts : (addr : ℕ) → IsInRange Console addr → IsTrue (accepts_of Console (addr - 0x1000_0000) Byte)
unfolding accepts_of
console_accepts addr inside = grind (arith, common_steps, inside.0, inside.1)

pub timer_accepts : (addr : ℕ) → IsInRange Timer addr → IsTrue (accepts_of Timer (addr - addr % 4 - 0x0200_0000) Word)
unfolding accepts_of
timer_accepts addr inside = grind (arith, common_steps, inside.0, inside.1)

both : (b c : Bool) → b ≡ true → c ≡ true → (b && c) ≡ true
both b c first second = rw (first, second) refl

first_off : (b c : Bool) → b ≡ false → (b && c) ≡ false
first_off b c off = rw off refl

below : (n m : ℕ) → n ≤ m → nat_le n m ≡ true
below n m within = grind (arith, common_steps, within)

strictly : (n m : ℕ) → n < m → nat_lt n m ≡ true
strictly n m within = grind (arith, common_steps, within)

above : (n m : ℕ) → m < n → nat_le n m ≡ false
above n m beyond = grind (arith, common_steps, beyond)

in_range : (kind : DeviceKind) (addr : ℕ) → IsInRange kind addr → is_in_range kind addr ≡ true
in_range kind addr inside =
    both (nat_le (range_of kind).base addr) (nat_lt addr ((range_of kind).base + (range_of kind).size))
    (below (range_of kind).base addr inside.0) (strictly addr ((range_of kind).base + (range_of kind).size) inside.1)

lower : (kind : DeviceKind) (addr : ℕ) → addr < (range_of kind).base → is_in_range kind addr ≡ false
lower kind addr beyond =
    first_off (nat_le (range_of kind).base addr) (nat_lt addr ((range_of kind).base + (range_of kind).size)) (above (range_of kind).base addr beyond)

on : (b : Bool) (there other : Option ℕ) → b ≡ true → there ≡ (if b then there else other)
on b there other is = rw is refl

off : (b : Bool) (there other : Option ℕ) → b ≡ false → other ≡ (if b then there else other)
off b there other is = rw is refl

-- the bytes of the devices behind the first of them, and of the last one
abbrev behind_console : Devices → ℕ → ℕ → Option ℕ
behind_console devices time addr =
    if is_in_range Timer addr
    then Some (peeked devices Timer (addr - addr % 4) Word time / 256 ^ (addr % 4) % 256)
    else (if is_in_range Finisher addr then Some 0 else None)

abbrev behind_timer : ℕ → Option ℕ
behind_timer addr = if is_in_range Finisher addr then Some 0 else None

pub console_byte : (devices : Devices) (time addr value : ℕ) → IsInRange Console addr → value ≡ (answer_at devices Console (loading (addr - 0x1000_0000) Byte time)).value →
    Some (value % 256) ≡ device_byte_of devices time addr
console_byte devices time addr value inside is =
    ap (λ (n : ℕ). Some (n % 256)) is
    ∙ on (is_in_range Console addr) (Some (peeked devices Console addr Byte time % 256)) (behind_console devices time addr) (in_range Console addr inside)

pub timer_byte : (devices : Devices) (time addr word : ℕ) → IsInRange Timer addr → word ≡ (answer_at devices Timer (loading (addr - addr % 4 - 0x0200_0000) Word time)).value →
    Some (word / 256 ^ (addr % 4) % 256) ≡ device_byte_of devices time addr
timer_byte devices time addr word inside is =
    let here : Option ℕ = Some (peeked devices Timer (addr - addr % 4) Word time / 256 ^ (addr % 4) % 256) in
    ap (λ (n : ℕ). Some (n / 256 ^ (addr % 4) % 256)) is
    ∙ on (is_in_range Timer addr) here (behind_timer addr) (in_range Timer addr inside)
    ∙ off (is_in_range Console addr) (Some (peeked devices Console addr Byte time % 256)) (behind_console devices time addr) (lower Console addr (omega (arith, inside.1)))

pub finisher_byte : (devices : Devices) (time addr : ℕ) → IsInRange Finisher addr → Some 0 ≡ device_byte_of devices time addr
finisher_byte devices time addr inside =
    let here : Option ℕ = Some (peeked devices Timer (addr - addr % 4) Word time / 256 ^ (addr % 4) % 256) in
    on (is_in_range Finisher addr) (Some 0) None (in_range Finisher addr inside)
    ∙ off (is_in_range Timer addr) here (behind_timer addr) (lower Timer addr (omega (arith, inside.1)))
    ∙ off (is_in_range Console addr) (Some (peeked devices Console addr Byte time % 256)) (behind_console devices time addr) (lower Console addr (omega (arith, inside.1)))

parts_of : (b c : Bool) → (b && c) ≡ true → (b ≡ true) × (c ≡ true)
parts_of true c is = (refl, is)
parts_of false c is = apart (sym is)

is_below : (n m : ℕ) → nat_le n m ≡ true → n ≤ m
is_below n m is = grind (arith, common_steps, is)

is_strictly : (n m : ℕ) → nat_lt n m ≡ true → n < m
is_strictly n m is = grind (arith, common_steps, is)

out_of : (kind : DeviceKind) (addr : ℕ) → ¬ IsInRange kind addr → is_in_range kind addr ≡ false
out_of kind addr outside = by (is_in_range kind addr) refl
  where
    by : (b : Bool) → is_in_range kind addr ≡ b → b ≡ false
    by false is = refl
    by true is =
        let parts = parts_of (nat_le (range_of kind).base addr) (nat_lt addr ((range_of kind).base + (range_of kind).size)) is in
        absurd (outside (is_below (range_of kind).base addr parts.0, is_strictly addr ((range_of kind).base + (range_of kind).size) parts.1))

pub no_byte : (devices : Devices) (time addr : ℕ) → ((kind : DeviceKind) → ¬ IsInRange kind addr) → None ≡ device_byte_of devices time addr
no_byte devices time addr outside =
    off (is_in_range Finisher addr) (Some 0) None (out_of Finisher addr (outside Finisher))
    ∙ off (is_in_range Timer addr) (Some (peeked devices Timer (addr - addr % 4) Word time / 256 ^ (addr % 4) % 256)) (behind_timer addr) (out_of Timer addr (outside Timer))
    ∙ off (is_in_range Console addr) (Some (peeked devices Console addr Byte time % 256)) (behind_console devices time addr) (out_of Console addr (outside Console))

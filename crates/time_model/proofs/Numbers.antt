-- Where a try of fetch comes next, the window has room, and the entry that the place needs follows the youngest slot.
use Rattle.std.proofs.Common.{◌≡◌, ℕ, suc, ◌+◌, ◌-◌, ◌<◌, true, IfSome, List, [], ◌∷◌, length, slice_get, ap, ◌∙◌, sym, subst, arith}
use Rattle.rollback_cmds.specs.declared.order.Order.{Order}
use Rattle.reorder_buffer.specs.declared.slot.Slot.{Slot}
use Rattle.reorder_buffer.specs.Window.{youngest}
use Rattle.mono_model.specs.declared.setup.Setup.{Setup}
use Rattle.mono_model.specs.Machine.{Machine}
use Rattle.mono_model.specs.Window.{Record}
use Rattle.mono_model.specs.Path.{entry}
use Rattle.mono_model.specs.Demand as run
use Rattle.mono_model.specs.Demand.{interrupting, committing, completing, issuing, trying, ending, stopping, halted, is_try, next, place, needed_entry}
use Rattle.machine_laws.proofs.Numbering.{HasRoomFor, place_within}
use Rattle.machine_laws.proofs.SplitAhead.{entry_number}
use Rattle.trace_entry.specs.declared.Entry.{Entry}
use Rattle.timing_core.specs.declared.state.TimingCore.{TimingCore}
use Rattle.time_model.specs.declared.at.At.{At}
use Rattle.time_model.specs.OutOfOrder.{core_piped}
use Rattle.time_model.specs.Piped.{MayTry}
use Rattle.timing_laws.specs.Seen.{slot_of, slots_of, seen}
use Rattle.timing_laws.proofs.Entries.{slots_length}

try_room : (s : Setup) (at : run.At) (m : Machine) → is_try at ≡ true → HasRoomFor s at m → length m.window < s.params.core_window
try_room s interrupting m is room = cc
try_room s committing m is room = cc
try_room s completing m is room = cc
try_room s issuing m is room = cc
try_room s (trying more) m is room = room
try_room s ending m is room = cc
try_room s stopping m is room = cc
try_room s halted m is room = cc

pub seen_room : (s : Setup) (k : ℕ) → is_try (place s k).run.at ≡ true → length (seen s (place s k).run.demand).slots < s.params.core_window
unfolding seen
seen_room s k is =
    let d = (place s k).run.demand in
    omega (arith, slots_length s d.orders d.to_commit d.machine.window, try_room s (place s k).run.at d.machine is (place_within s k).room)

-- the slot behind the youngest one of a window has the number behind all of them
abbrev pub IsBehind : ℕ → List Slot → Type 0
IsBehind n slots = IfSome (youngest slots) (λ last. n ≡ last.number + 1)

more_behind : (n : ℕ) (first second : Slot) (rest : List Slot) → IsBehind n (second ∷ rest) → IsBehind n (first ∷ second ∷ rest)
more_behind n first second rest is =
    let e : length (first ∷ second ∷ rest) - 1 ≡ suc (length (second ∷ rest) - 1) = omega arith in
    subst (λ (k : ℕ). IfSome (slice_get (first ∷ second ∷ rest) k) (λ last. n ≡ last.number + 1)) (sym e) is

pub slots_behind : (s : Setup) (os : List Order) (n : ℕ) (window : List Record) → IsBehind (n + length window) (slots_of (entry s os) n window)
slots_behind s os n [] = tt
slots_behind s os n (rec ∷ []) = omega (arith, entry_number s os n)
slots_behind s os n (rec ∷ second ∷ rest) =
    let e : suc n + length (second ∷ rest) ≡ n + length (rec ∷ second ∷ rest) = omega arith in
    more_behind (n + length (rec ∷ second ∷ rest)) (slot_of (entry s os n) rec) (slot_of (entry s os (suc n)) second) (slots_of (entry s os) (suc (suc n)) rest)
    (subst (λ (k : ℕ). IsBehind k (slots_of (entry s os) (suc n) (second ∷ rest))) e (slots_behind s os (suc n) (second ∷ rest)))

pub seen_behind : (s : Setup) (k : ℕ) → IsBehind (needed_entry s (place s k)).number (seen s (place s k).run.demand).slots
unfolding seen
seen_behind s k =
    let d = (place s k).run.demand in
    subst (λ (n : ℕ). IsBehind n (slots_of (entry s d.orders) d.to_commit d.machine.window)) (sym (entry_number s d.orders (next d))) (slots_behind s d.orders d.to_commit d.machine.window)

-- so a core that may try has room, and the entry follows the youngest of its slots
module _ (core : TimingCore) (at : At) (entry : Entry) (may : MayTry core_piped core at entry) where
  pub try_has_room : length core.flight.slots < core.flight.capacity
  try_has_room =
      let h = may.stands.core in
      let room = seen_room may.setup may.steps (ap is_try (sym may.stands.at) ∙ may.tries) in
      omega (arith, room, ap (λ (l : List Slot). length l) h.slots, h.room)

  pub try_follows : IfSome (youngest core.flight.slots) (λ last. entry.number ≡ last.number + 1)
  try_follows =
      let h = may.stands.core in
      subst (IsBehind entry.number) (sym h.slots)
      (subst (λ (e : Entry). IsBehind e.number (seen may.setup (place may.setup may.steps).run.demand).slots) (sym may.needed) (seen_behind may.setup may.steps))

-- Where a try of fetch comes next, the window has room, and the entry that the place needs follows the youngest slot.
use Rattle.std.proofs.Common.{◌≡◌, ℕ, zero, suc, ◌+◌, ◌≤◌, ◌<◌, true, IfSome, Option, List, length, ap, ◌∙◌, sym, subst, arith}
use Rattle.mono_model.specs.declared.setup.Setup.{Setup}
use Rattle.mono_model.specs.Window.{Record}
use Rattle.mono_model.specs.Path.{entry}
use Rattle.mono_model.specs.Demand.{is_try, next, needed_entry}
use Rattle.machine_laws.proofs.SplitAhead.{entry_number}
use Rattle.timing_laws.specs.Seen as timing
use Rattle.timing_laws.specs.Seen.{slots_of}
use Rattle.timing_laws.proofs.Entries.{slots_length}
use Rattle.inorder_machine.specs.Demand.{InorderAt, interrupting, writing, accessing, executing, issuing, trying, ending, stopping, halted, InorderRun, inorder_turn, inorder_step_by, inorder_step, seen_at, inorder_place, seen}
use Rattle.inorder_laws.proofs.Stages.{Stands, start_stands, turn_stands, stands_room}
use Rattle.trace_entry.specs.declared.Entry.{Entry}
use Rattle.reorder_buffer.specs.declared.slot.Slot.{Slot}
use Rattle.reorder_buffer.specs.Window.{youngest}
use Rattle.time_model.specs.Piped.{MayTry}
use Rattle.inorder_model.specs.declared.at.At.{At}
use Rattle.inorder_model.specs.declared.timing.InorderTimingCore.{InorderTimingCore}
use Rattle.inorder_model.specs.Standing.{inorder_piped}
use Rattle.time_model.proofs.Numbers.{IsBehind, slots_behind}

stands_by : (s : Setup) (owed : ℕ) (r : InorderRun) → Stands r.at r.demand.machine.window r.memory →
    (let behind = (inorder_step_by s owed r).run in Stands behind.at behind.demand.machine.window behind.memory)
unfolding inorder_turn
stands_by s zero r is = turn_stands s r.at r.demand r.memory is
stands_by s (suc owed) r is = is

place_stands : (s : Setup) (k : ℕ) → Stands (inorder_place s k).run.at (inorder_place s k).run.demand.machine.window (inorder_place s k).run.memory
unfolding inorder_place inorder_step
place_stands s zero = start_stands s
place_stands s (suc k) = stands_by s (inorder_place s k).owed (inorder_place s k).run (place_stands s k)

try_room : (at : InorderAt) (window : List Record) (memory : Option ℕ) → is_try (seen_at at) ≡ true → Stands at window memory → length window ≤ 3
try_room interrupting window memory is stands = cc
try_room writing window memory is stands = cc
try_room accessing window memory is stands = cc
try_room executing window memory is stands = cc
try_room issuing window memory is stands = cc
try_room trying window memory is stands = stands_room window memory stands
try_room ending window memory is stands = cc
try_room stopping window memory is stands = cc
try_room halted window memory is stands = cc

pub held_room : (s : Setup) (k : ℕ) → is_try (seen_at (inorder_place s k).run.at) ≡ true → length (timing.seen s (inorder_place s k).run.demand).slots ≤ 3
unfolding timing.seen
held_room s k is =
    let p = inorder_place s k in
    let d = p.run.demand in
    omega (arith, slots_length s d.orders d.to_commit d.machine.window, try_room p.run.at d.machine.window p.run.memory is (place_stands s k))

pub held_behind : (s : Setup) (k : ℕ) → IsBehind (needed_entry s (seen s k)).number (timing.seen s (inorder_place s k).run.demand).slots
unfolding timing.seen
held_behind s k =
    let d = (inorder_place s k).run.demand in
    subst (λ (n : ℕ). IsBehind n (slots_of (entry s d.orders) d.to_commit d.machine.window)) (sym (entry_number s d.orders (next d))) (slots_behind s d.orders d.to_commit d.machine.window)

-- so a pipeline that may try has room, and the entry follows the youngest of its slots
module _ (inorder : InorderTimingCore) (at : At) (entry : Entry) (may : MayTry inorder_piped inorder at entry) where
  pub try_has_room : length inorder.core.flight.slots < inorder.core.flight.capacity
  try_has_room =
      let h = may.stands.inorder.core in
      let room = held_room may.setup may.steps (ap (λ (a : InorderAt). is_try (seen_at a)) (sym may.stands.at) ∙ may.tries) in
      omega (arith, room, ap (λ (l : List Slot). length l) h.slots, h.room, may.allowed.window)

  pub try_follows : IfSome (youngest inorder.core.flight.slots) (λ last. entry.number ≡ last.number + 1)
  try_follows =
      let h = may.stands.inorder.core in
      subst (IsBehind entry.number) (sym h.slots)
      (subst (λ (e : Entry). IsBehind e.number (timing.seen may.setup (inorder_place may.setup may.steps).run.demand).slots) (sym may.needed) (held_behind may.setup may.steps))

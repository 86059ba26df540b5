-- The slot of an instruction of which an entry told (Hennessy and Patterson, Computer Architecture, section 3.6, the
-- reorder buffer).
use Rattle.std.specs.Prelude.{ℕ, is_some, List, map}
use Rattle.trace_entry.specs.declared.Entry.{Entry}
use Rattle.reorder_buffer.specs.declared.slot.Slot.{Slot}
use Rattle.reorder_buffer.specs.declared.slot.SlotState.{SlotState}
use Rattle.reorder_buffer.specs.declared.held.Held.{Held}

-- the slot of an instruction of which this was told, with the address that was predicted to follow it, the cycle in
-- which it was fetched, and its state
abbrev pub slot_from : Entry → ℕ → ℕ → SlotState → Slot
slot_from e predicted fetched state = record {
  number = e.number;
  addr = e.addr;
  word = e.word;
  class = e.class;
  access = e.access;
  next = e.next;
  predicted = predicted;
  cause = e.cause;
  unserved = e.unserved;
  sends = is_some e.out;
  halt = e.halt;
  irq_on = e.irq_on;
  cmp = e.cmp;
  fetched = fetched;
  state = state;
}

-- that of what a position keeps
abbrev pub slot_in : Held → Slot
slot_in held = slot_from held.entry held.predicted held.fetched held.state

abbrev pub slots_in : List Held → List Slot
slots_in items = map slot_in items

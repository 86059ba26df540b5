-- The slots of the timing side: an instruction in the window, as it was told, with how far it has come
-- (Hennessy and Patterson, Computer Architecture, section 3.6, the reorder buffer).
use Rattle.std.specs.Prelude.{ℕ, ◌+◌, Bool, true, false, if◌then◌else◌, List, [], ◌∷◌}
use Rattle.rv_decode.specs.Decode.{decode_of}
use Rattle.reorder_buffer.specs.declared.slot.Slot.{Slot}
use Rattle.reorder_buffer.specs.declared.slot.SlotState.{SlotState}
use Rattle.reorder_buffer.specs.declared.slot.SlotState.TheVariants.{Waiting, Until, Done}
use Rattle.mono_model.specs.Found.{Found, found_word}

-- what the slot's word is: its sources, destination and flow, and whether it is a FENCE.I, are those of what its word
-- decodes to. Word 0, which also stands where nothing could be fetched, is no instruction.
abbrev pub found_in : Slot → Found
found_in slot = found_word slot.word (decode_of slot.word)

abbrev pub is_waiting_state : SlotState → Bool
is_waiting_state Waiting = true
is_waiting_state (Until e) = false
is_waiting_state Done = false

abbrev pub is_done_state : SlotState → Bool
is_done_state Waiting = false
is_done_state (Until e) = false
is_done_state Done = true

-- how many slots wait
abbrev pub waiting_count : List Slot → ℕ
waiting_count [] = 0
waiting_count (slot ∷ rest) = (if is_waiting_state slot.state then 1 else 0) + waiting_count rest

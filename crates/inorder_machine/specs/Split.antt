-- The split state of the in-order machine: the functional side, the entries and the orders under way are those of the
-- monolithic machine's split state, and the timing side goes along the in-order machine's demand run.
use Rattle.std.specs.Prelude.{if◌then◌else◌, List, [], ◌∷◌}
use Rattle.mono_model.specs.declared.setup.Setup.{Setup}
use Rattle.mono_model.specs.Split.{Split, split_start, Event, compute, push, obey, tick, take, send, event_at, may_tick, ticked_to}
use Rattle.inorder_machine.specs.Demand.{InorderPlace, inorder_place_start, inorder_step, seen_of}

pub record InorderSplit : Type 0 where
  -- where the timing side is
  pub place : InorderPlace
  -- all else, with what is seen of that place
  pub split : Split

unfoldable pub inorder_split_start : Setup → InorderSplit
inorder_split_start s = record { place = inorder_place_start s; split = split_start s }

-- Tick: one step of the demand run, where no order is in hand and the entry that the place needs is held.
abbrev pub inorder_ticked_to : InorderPlace → InorderSplit → InorderSplit
inorder_ticked_to after x = record { place = after; split = ticked_to (seen_of after) x.split }

abbrev pub on_inorder_tick : Setup → InorderSplit → InorderSplit
on_inorder_tick s x = if may_tick x.split then inorder_ticked_to (inorder_step s x.place) x else x

-- the other events don't move the timing side
abbrev pub inorder_beside : Setup → Event → InorderSplit → InorderSplit
inorder_beside s e x = record x { split = event_at s e x.split }

unfoldable pub inorder_event_at : Setup → Event → InorderSplit → InorderSplit
inorder_event_at s compute x = inorder_beside s compute x
inorder_event_at s push x = inorder_beside s push x
inorder_event_at s obey x = inorder_beside s obey x
inorder_event_at s tick x = on_inorder_tick s x
inorder_event_at s take x = inorder_beside s take x
inorder_event_at s send x = inorder_beside s send x

-- the state after a list of events, from a state on
abbrev pub inorder_played : Setup → List Event → InorderSplit → InorderSplit
inorder_played s [] x = x
inorder_played s (e ∷ es) x = inorder_played s es (inorder_event_at s e x)

-- the state after the events, from the start on
abbrev pub inorder_run : Setup → List Event → InorderSplit
inorder_run s events = inorder_played s events (inorder_split_start s)

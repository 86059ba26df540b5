-- Rounds of events of the in-order machine's split state.
use Rattle.std.specs.Prelude.{ℕ, zero, suc, ◌+◌, ◌*◌, if◌then◌else◌}
use Rattle.mono_model.specs.declared.setup.Setup.{Setup}
use Rattle.mono_model.specs.Split.{compute, push, obey, tick, take, send, is_place_boundary, is_boundary}
use Rattle.inorder_machine.specs.Split.{InorderSplit, inorder_event_at}

-- a round of events, which leaves out the step of the timing side where that stands at a boundary
abbrev pub inorder_round : Setup → InorderSplit → InorderSplit
inorder_round s x =
    let a = inorder_event_at s push (inorder_event_at s compute (inorder_event_at s obey x)) in
    let b = inorder_event_at s take a in
    inorder_event_at s send (if is_place_boundary b.split.place then b else inorder_event_at s tick b)

-- at most so many rounds to a boundary
unfoldable pub inorder_rounds_to_boundary : Setup → ℕ → InorderSplit → InorderSplit
inorder_rounds_to_boundary s zero x = x
inorder_rounds_to_boundary s (suc more) x = if is_boundary x.split then x else inorder_rounds_to_boundary s more (inorder_round s x)

-- A boundary is never further than these rounds: as for the monolithic machine, with one try of fetch, and one turn more.
abbrev pub inorder_boundary_rounds : Setup → ℕ
inorder_boundary_rounds s = (s.ring + 128) * 10

abbrev pub inorder_to_boundary : Setup → InorderSplit → InorderSplit
inorder_to_boundary s x = inorder_rounds_to_boundary s (inorder_boundary_rounds s) x

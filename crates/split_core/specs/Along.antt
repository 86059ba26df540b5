-- The split state along a demand run, beside how many steps of that run the timing side has made.
use Rattle.std.specs.Prelude.{◌≡◌, ℕ, zero, suc, if◌then◌else◌, List, [], ◌∷◌}
use Rattle.mono_model.specs.declared.setup.Setup.{Setup}
use Rattle.mono_model.specs.Split.{Split, split_start, Event, compute, push, obey, tick, take, send, event_at, may_tick, ticked_to, is_place_boundary, is_boundary}
use Rattle.machine_laws.specs.DemandRun.{DemandRun}

pub record At : Type 0 where
  pub steps : ℕ
  pub split : Split

abbrev pub start_at : Setup → At
start_at s = record { steps = 0; split = split_start s }

-- Tick: one step of the demand run
abbrev pub stepped_to : DemandRun → At → At
stepped_to r x = record { steps = suc x.steps; split = ticked_to (r.places (suc x.steps)) x.split }

abbrev pub on_step : DemandRun → At → At
on_step r x = if may_tick x.split then stepped_to r x else x

-- the other events don't move the timing side
abbrev pub beside : Setup → Event → At → At
beside s e x = record x { split = event_at s e x.split }

unfoldable pub event_on : Setup → DemandRun → Event → At → At
event_on s r compute x = beside s compute x
event_on s r push x = beside s push x
event_on s r obey x = beside s obey x
event_on s r tick x = on_step r x
event_on s r take x = beside s take x
event_on s r send x = beside s send x

-- the state after a list of events, from a state on
abbrev pub played_on : Setup → DemandRun → List Event → At → At
played_on s r [] x = x
played_on s r (e ∷ es) x = played_on s r es (event_on s r e x)

-- some events lead to the state
pub record IsReachedOn (s : Setup) (r : DemandRun) (x : At) : Type 0 where
  pub events : List Event
  pub is : x ≡ played_on s r events (start_at s)

-- a round of events, which leaves out the step of the timing side where that stands at a boundary
abbrev pub round_on : Setup → DemandRun → At → At
round_on s r x =
    let a = event_on s r push (event_on s r compute (event_on s r obey x)) in
    let b = event_on s r take a in
    event_on s r send (if is_place_boundary b.split.place then b else event_on s r tick b)

-- at most so many rounds to a boundary
unfoldable pub rounds_on : Setup → DemandRun → ℕ → At → At
rounds_on s r zero x = x
rounds_on s r (suc more) x = if is_boundary x.split then x else rounds_on s r more (round_on s r x)

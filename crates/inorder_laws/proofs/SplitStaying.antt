-- From one split state to a later one the functional side keeps what it has committed.
use Rattle.std.proofs.Common.{◌≡◌, ◌≤◌, ℕ, true, List, sym, subst}
use Rattle.mono_model.specs.declared.setup.Setup.{Setup}
use Rattle.mono_model.specs.Split.{Split, Event, is_halted, is_boundary}
use Rattle.machine_laws.specs.Stays.{CommittedStays}
use Rattle.machine_laws.proofs.SplitStaying.{Extends, extends_none, extends_on, event_obeys, ended_obeys, committed_stays}
use Rattle.inorder_machine.specs.Demand.{inorder_step, seen_of}
use Rattle.inorder_machine.specs.Split.{InorderSplit, inorder_event_at, inorder_played}
use Rattle.inorder_laws.specs.Rounds.{inorder_rounds_to_boundary}
use Rattle.inorder_laws.specs.SplitLaw.{IsInorderReached}
use Rattle.inorder_laws.proofs.Laws.{inorder_laws}
use Rattle.inorder_laws.proofs.SplitRising.{event_split}
use Rattle.inorder_laws.proofs.SplitRun.{played_keeps, rounds_keep, event_inorder_reached, reached_inorder_run}
use Rattle.inorder_laws.proofs.Staying.{tells_later}

-- a later state
abbrev IsBehind : Setup → InorderSplit → InorderSplit → Type 0
IsBehind s x y = IsInorderReached s y × Extends x.split.obeyed y.split.obeyed

here : (s : Setup) (x : InorderSplit) → IsInorderReached s x → IsBehind s x x
here s x reached = (reached, extends_none x.split.obeyed)

event_behind : (s : Setup) (x : InorderSplit) (e : Event) (y : InorderSplit) → IsBehind s x y → IsBehind s x (inorder_event_at s e y)
event_behind s x e y is = (
  event_inorder_reached s e y is.0,
  extends_on x.split.obeyed y.split.obeyed (inorder_event_at s e y).split.obeyed is.1
      (subst (λ (z : Split). Extends y.split.obeyed z.obeyed) (sym (event_split s e y)) (event_obeys s (seen_of (inorder_step s y.place)) e y.split)),
)

module _ (s : Setup) (room : 4 ≤ s.params.core_window) where
  behind : (x y : InorderSplit) → IsInorderReached s x → IsBehind s x y → CommittedStays s x.split y.split
  behind x y reached is =
      committed_stays (inorder_laws s room) (tells_later s) x.split y.split (reached_inorder_run s x room reached).law (reached_inorder_run s y room is.0).law is.1

pub events_stay : (s : Setup) (events : List Event) (x : InorderSplit) → 4 ≤ s.params.core_window → IsInorderReached s x → CommittedStays s x.split (inorder_played s events x).split
events_stay s events x room reached =
    behind s room x (inorder_played s events x) reached (played_keeps s (IsBehind s x) (event_behind s x) events x (here s x reached))

pub rounds_stay : (s : Setup) (n : ℕ) (x : InorderSplit) → 4 ≤ s.params.core_window → IsInorderReached s x → CommittedStays s x.split (inorder_rounds_to_boundary s n x).split
rounds_stay s n x room reached =
    behind s room x (inorder_rounds_to_boundary s n x) reached (rounds_keep s (IsBehind s x) (event_behind s x) n x (here s x reached))

pub end_stays : (s : Setup) (x y : InorderSplit) → 1 ≤ s.cycles → 4 ≤ s.params.core_window → IsInorderReached s x → IsInorderReached s y → is_halted y.split.place.run.at ≡ true → is_boundary y.split ≡ true →
    CommittedStays s x.split y.split
end_stays s x y limited room reached to over at =
    behind s room x y reached
    (to, ended_obeys (inorder_laws s room) x.split y.split limited (reached_inorder_run s x room reached).law (reached_inorder_run s y room to).law over at)

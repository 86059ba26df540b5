-- Every event, and the rounds to a boundary, lead on to states that events lead to.
use Rattle.std.proofs.Common.{◌≡◌, ℕ, List, [], ◌∷◌, ◌++◌, refl, ap, sym, ◌∙◌, subst}
use Rattle.mono_model.specs.declared.setup.Setup.{Setup}
use Rattle.mono_model.specs.Split.{Split, split_start, Event, event_at, played, round, rounds_to_boundary}
use Rattle.machine_laws.specs.Reached.{IsReached}
use Rattle.machine_laws.specs.SplitLaw.{IsRun}
use Rattle.machine_laws.specs.DemandRun.{mono_run}
use Rattle.machine_laws.proofs.SplitEvents.{round_keeps, rounds_keep}
use Rattle.machine_laws.proofs.SplitRun.{Known, mono_known, is_run}

played_last : (s : Setup) (es : List Event) (e : Event) (x : Split) → played s (es ++ e ∷ []) x ≡ event_at s e (played s es x)
played_last s [] e x = refl
played_last s (a ∷ es) e x = played_last s es e (event_at s a x)

pub start_reached : (s : Setup) → IsReached s (split_start s)
start_reached s = record { events = []; is = refl }

pub event_reached : (s : Setup) (e : Event) (x : Split) → IsReached s x → IsReached s (event_at s e x)
event_reached s e x reached = record {
  events = reached.events ++ e ∷ [];
  is = ap (event_at s e) reached.is ∙ sym (played_last s reached.events e (split_start s));
}

pub round_reached : (s : Setup) (x : Split) → IsReached s x → IsReached s (round s x)
round_reached s x reached = round_keeps s (IsReached s) (event_reached s) x reached

pub boundary_reached : (s : Setup) (rounds : ℕ) (x : Split) → IsReached s x → IsReached s (rounds_to_boundary s rounds x)
boundary_reached s rounds x reached = rounds_keep s (IsReached s) (event_reached s) rounds x reached

pub known : (s : Setup) (x : Split) → IsReached s x → Known s (mono_run s) x
known s x reached = subst (Known s (mono_run s)) (sym reached.is) (mono_known s reached.events)

pub reached_run : (s : Setup) (x : Split) → IsReached s x → IsRun s x
reached_run s x reached = subst (IsRun s) (sym reached.is) (is_run s reached.events)

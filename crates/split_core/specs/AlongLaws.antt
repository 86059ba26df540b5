-- What holds of the split state along any demand run.
use Rattle.std.specs.Prelude.{◌≡◌, ℕ, zero, suc, if◌then◌else◌, List, [], ◌∷◌, ◌++◌}
use Rattle.std.proofs.Common.{refl, ap, sym, ◌∙◌, subst}
use Rattle.std.proofs.lemmas.Bool.{cond_both}
use Rattle.mono_model.specs.declared.setup.Setup.{Setup}
use Rattle.mono_model.specs.Demand.{place_start}
use Rattle.mono_model.specs.Split.{split_start, Event, compute, push, obey, tick, take, send, event_at, may_tick, is_place_boundary, is_boundary}
use Rattle.machine_laws.specs.DemandRun.{DemandRun}
use Rattle.machine_laws.proofs.SplitRounds.{compute_side, push_side, obey_side, take_takes, send_sends}
use Rattle.split_core.specs.Along.{At, start_at, stepped_to, event_on, played_on, IsReachedOn, round_on, rounds_on}

-- the timing side is at the place behind its steps
abbrev pub Sees : DemandRun → At → Type 0
Sees r x = x.split.place ≡ r.places x.steps

module _ (s : Setup) (r : DemandRun) where
  pub event_sees : (e : Event) (x : At) → Sees r x → Sees r (event_on s r e x)
  unfolding event_on event_at
  event_sees compute x sees = (compute_side s x.split).place ∙ sees
  event_sees push x sees = (push_side s x.split.computed x.split).place ∙ sees
  event_sees obey x sees = (obey_side x.split.listed_orders x.split).place ∙ sees
  event_sees tick x sees = cond_both (may_tick x.split) (stepped_to r x) x (Sees r) (λ may. refl) (λ may. sees)
  event_sees take x sees = (take_takes x.split.entries x.split).place ∙ sees
  event_sees send x sees = (send_sends x.split.hand x.split).place ∙ sees

  pub played_sees : (events : List Event) (x : At) → Sees r x → Sees r (played_on s r events x)
  played_sees [] x sees = sees
  played_sees (e ∷ events) x sees = played_sees events (event_on s r e x) (event_sees e x sees)

  pub start_sees : r.places 0 ≡ place_start s → Sees r (start_at s)
  unfolding split_start
  start_sees start = sym start

  pub reached_sees : (x : At) → r.places 0 ≡ place_start s → IsReachedOn s r x → Sees r x
  reached_sees x start reached = subst (Sees r) (sym reached.is) (played_sees reached.events (start_at s) (start_sees start))

  played_last : (events : List Event) (e : Event) (x : At) → played_on s r (events ++ e ∷ []) x ≡ event_on s r e (played_on s r events x)
  played_last [] e x = refl
  played_last (a ∷ events) e x = played_last events e (event_on s r a x)

  pub start_reached_on : IsReachedOn s r (start_at s)
  start_reached_on = record { events = []; is = refl }

  pub event_reached_on : (e : Event) (x : At) → IsReachedOn s r x → IsReachedOn s r (event_on s r e x)
  event_reached_on e x reached = record {
    events = reached.events ++ e ∷ [];
    is = ap (event_on s r e) reached.is ∙ sym (played_last reached.events e (start_at s));
  }

  pub played_reached_on : (events : List Event) (x : At) → IsReachedOn s r x → IsReachedOn s r (played_on s r events x)
  played_reached_on [] x reached = reached
  played_reached_on (e ∷ events) x reached = played_reached_on events (event_on s r e x) (event_reached_on e x reached)

  pub round_reached_on : (x : At) → IsReachedOn s r x → IsReachedOn s r (round_on s r x)
  round_reached_on x reached =
      let o = event_on s r obey x in
      let c = event_on s r compute o in
      let a = event_on s r push c in
      let b = event_on s r take a in
      let there : IsReachedOn s r b = event_reached_on take a (event_reached_on push c (event_reached_on compute o (event_reached_on obey x reached))) in
      event_reached_on send (if is_place_boundary b.split.place then b else event_on s r tick b)
      (cond_both (is_place_boundary b.split.place) b (event_on s r tick b) (IsReachedOn s r) (λ at. there) (λ off. event_reached_on tick b there))

  pub rounds_reached_on : (n : ℕ) (x : At) → IsReachedOn s r x → IsReachedOn s r (rounds_on s r n x)
  unfolding rounds_on
  rounds_reached_on zero x reached = reached
  rounds_reached_on (suc more) x reached =
      cond_both (is_boundary x.split) x (rounds_on s r more (round_on s r x)) (IsReachedOn s r) (λ at. reached) (λ off. rounds_reached_on more (round_on s r x) (round_reached_on x reached))

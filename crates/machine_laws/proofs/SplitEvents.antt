-- Events, and what each event keeps after every list of them.
use Rattle.std.proofs.Common.{◌≡◌, ℕ, zero, suc, if◌then◌else◌, List, [], ◌∷◌, refl}
use Rattle.std.proofs.lemmas.Bool.{cond_both}
use Rattle.mono_model.specs.declared.setup.Setup.{Setup}
use Rattle.mono_model.specs.Demand.{Place, step}
use Rattle.mono_model.specs.Split.{Split, split_start, Event, compute, push, obey, tick, take, send, on_compute, pushed, on_obey, may_tick, ticked_to, on_take, sent, event_at, played, run, is_place_boundary, is_boundary, round, rounds_to_boundary}

-- an event, where the next step of the timing side leads to this place
abbrev pub tick_to : Place → Split → Split
tick_to q x = if may_tick x then ticked_to q x else x

unfoldable pub event_to : Setup → Place → Event → Split → Split
event_to s q compute x = on_compute s x
event_to s q push x = pushed s x.computed x
event_to s q obey x = on_obey x.listed_orders x
event_to s q tick x = tick_to q x
event_to s q take x = on_take x.entries x
event_to s q send x = sent x.hand x

-- along the demand run of the monolithic machine it leads to the next place of that
pub event_is : (s : Setup) (e : Event) (x : Split) → event_at s e x ≡ event_to s (step s x.place) e x
unfolding event_at event_to
event_is s compute x = refl
event_is s push x = refl
event_is s obey x = refl
event_is s tick x = refl
event_is s take x = refl
event_is s send x = refl

module _ (s : Setup) (P : Split → Type 0) (by_event : (e : Event) (x : Split) → P x → P (event_at s e x)) where
  pub played_keeps : (es : List Event) (x : Split) → P x → P (played s es x)
  played_keeps [] x is = is
  played_keeps (e ∷ es) x is = played_keeps es (event_at s e x) (by_event e x is)

  pub run_keeps : P (split_start s) → (events : List Event) → P (run s events)
  run_keeps start events = played_keeps events (split_start s) start

  pub round_keeps : (x : Split) → P x → P (round s x)
  round_keeps x is =
      let a = event_at s push (event_at s compute (event_at s obey x)) in
      let b = event_at s take a in
      let b_is : P b = by_event take a (by_event push (event_at s compute (event_at s obey x)) (by_event compute (event_at s obey x) (by_event obey x is))) in
      by_event send (if is_place_boundary b.place then b else event_at s tick b)
      (cond_both (is_place_boundary b.place) b (event_at s tick b) P (λ at. b_is) (λ away. by_event tick b b_is))

  pub rounds_keep : (n : ℕ) (x : Split) → P x → P (rounds_to_boundary s n x)
  unfolding rounds_to_boundary
  rounds_keep zero x is = is
  rounds_keep (suc more) x is =
      cond_both (is_boundary x) x (rounds_to_boundary s more (round s x)) P (λ at. is) (λ away. rounds_keep more (round s x) (round_keeps x is))

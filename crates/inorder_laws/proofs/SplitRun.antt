-- The law of the split state of the in-order machine.
use Rattle.std.proofs.Common.{◌≡◌, ℕ, zero, suc, ◌≤◌, if◌then◌else◌, true, List, [], ◌∷◌, ◌++◌, length, refl, ap, sym, ◌∙◌, subst}
use Rattle.std.proofs.lemmas.Bool.{cond_both, cond-true}
use Rattle.mono_model.specs.declared.setup.Setup.{Setup}
use Rattle.mono_model.specs.Path.{path}
use Rattle.mono_model.specs.Demand.{Place, told}
use Rattle.mono_model.specs.Split.{Split, split_start, Event, compute, push, obey, tick, take, send, on_compute, pushed, on_obey, may_tick, ticked_to, on_take, sent, event_at, is_place_boundary, is_boundary}
use Rattle.machine_laws.specs.Output.{AreInRoom}
use Rattle.machine_laws.proofs.Laws.{IsDemandRun}
use Rattle.machine_laws.proofs.SplitEvents.{event_to}
use Rattle.machine_laws.proofs.SplitOutput.{run_output, told_in_room}
use Rattle.machine_laws.proofs.SplitRounds.{compute_side, push_side, obey_side, take_takes, send_sends}
use Rattle.machine_laws.proofs.SplitRun.{Known, start_known, event_known, known_run}
use Rattle.inorder_machine.specs.Demand.{InorderPlace, inorder_step, inorder_place, seen_of, seen}
use Rattle.inorder_machine.specs.Split.{InorderSplit, inorder_split_start, inorder_ticked_to, inorder_beside, inorder_event_at, inorder_played, inorder_run}
use Rattle.inorder_laws.specs.Rounds.{inorder_round, inorder_rounds_to_boundary}
use Rattle.inorder_laws.specs.Runs.{starts_cycle, IsInorderPlace}
use Rattle.inorder_laws.specs.SplitLaw.{inorder_demand_run, IsInorderRun, IsInorderReached}
use Rattle.inorder_laws.proofs.Leading.{is_inorder}
use Rattle.inorder_laws.proofs.Laws.{inorder_laws}

-- What each event keeps, events and the rounds to a boundary keep.
module _ (s : Setup) (P : InorderSplit → Type 0) (by_event : (e : Event) (x : InorderSplit) → P x → P (inorder_event_at s e x)) where
  pub played_keeps : (events : List Event) (x : InorderSplit) → P x → P (inorder_played s events x)
  played_keeps [] x is = is
  played_keeps (e ∷ events) x is = played_keeps events (inorder_event_at s e x) (by_event e x is)

  pub round_keeps : (x : InorderSplit) → P x → P (inorder_round s x)
  round_keeps x is =
      let a = inorder_event_at s push (inorder_event_at s compute (inorder_event_at s obey x)) in
      let b = inorder_event_at s take a in
      let b_is : P b = by_event take a (by_event push (inorder_event_at s compute (inorder_event_at s obey x)) (by_event compute (inorder_event_at s obey x) (by_event obey x is))) in
      by_event send (if is_place_boundary b.split.place then b else inorder_event_at s tick b)
      (cond_both (is_place_boundary b.split.place) b (inorder_event_at s tick b) P (λ at. b_is) (λ away. by_event tick b b_is))

  pub rounds_keep : (n : ℕ) (x : InorderSplit) → P x → P (inorder_rounds_to_boundary s n x)
  unfolding inorder_rounds_to_boundary
  rounds_keep zero x is = is
  rounds_keep (suc more) x is =
      cond_both (is_boundary x.split) x (inorder_rounds_to_boundary s more (inorder_round s x)) P (λ at. is) (λ away. rounds_keep more (inorder_round s x) (round_keeps x is))

-- What holds of the split state along the in-order machine's demand run.
pub record InorderKnown (s : Setup) (x : InorderSplit) : Type 0 where
  pub steps : ℕ
  pub at : x.place ≡ inorder_place s steps
  pub sees : x.split.place ≡ seen_of x.place
  pub known : Known s (inorder_demand_run s) x.split

module _ (s : Setup) (laws : IsDemandRun s (inorder_demand_run s)) where
  start_inorder : InorderKnown s (inorder_split_start s)
  unfolding inorder_split_start split_start inorder_place
  start_inorder = record { steps = 0; at = refl; sees = refl; known = start_known laws }

  module _ (x : InorderSplit) (is : InorderKnown s x) where
    seen_there : x.split.place ≡ seen s is.steps
    seen_there = is.sees ∙ ap (λ (p : InorderPlace). seen_of p) is.at

    -- an event beside the timing side leaves its place
    beside : (e : Event) → (y : Split) → event_at s e x.split ≡ y → event_to s (seen s (suc is.steps)) e x.split ≡ y → y.place ≡ x.split.place →
        InorderKnown s (inorder_beside s e x)
    beside e y makes leads stays = record {
      steps = is.steps;
      at = is.at;
      sees = ap (λ (z : Split). z.place) makes ∙ stays ∙ is.sees;
      known = subst (Known s (inorder_demand_run s)) (leads ∙ sym makes) (event_known laws is.steps e x.split seen_there is.known);
    }

    ticked : may_tick x.split ≡ true → InorderKnown s (inorder_ticked_to (inorder_step s x.place) x)
    unfolding event_to inorder_place
    ticked may =
        let q : Place = seen s (suc is.steps) in
        let next : inorder_step s x.place ≡ inorder_place s (suc is.steps) = ap (inorder_step s) is.at in
        let K : Split → Type 0 = λ z. Known s (inorder_demand_run s) z in
        record {
          steps = suc is.steps;
          at = next;
          sees = refl;
          known =
              subst K (cond-true (may_tick x.split) (ticked_to q x.split) x.split may ∙ ap (λ (p : InorderPlace). ticked_to (seen_of p) x.split) (sym next))
              (event_known laws is.steps tick x.split seen_there is.known);
        }

    event_inorder : (e : Event) → InorderKnown s (inorder_event_at s e x)
    unfolding inorder_event_at event_at event_to
    event_inorder compute = beside compute (on_compute s x.split) refl refl (compute_side s x.split).place
    event_inorder push = beside push (pushed s x.split.computed x.split) refl refl (push_side s x.split.computed x.split).place
    event_inorder obey = beside obey (on_obey x.split.listed_orders x.split) refl refl (obey_side x.split.listed_orders x.split).place
    event_inorder tick = cond_both (may_tick x.split) (inorder_ticked_to (inorder_step s x.place) x) x (InorderKnown s) ticked (λ may. is)
    event_inorder take = beside take (on_take x.split.entries x.split) refl refl (take_takes x.split.entries x.split).place
    event_inorder send = beside send (sent x.split.hand x.split) refl refl (send_sends x.split.hand x.split).place

  pub inorder_known : (events : List Event) → InorderKnown s (inorder_run s events)
  inorder_known events = played_keeps s (InorderKnown s) (λ e x is. event_inorder x is e) events (inorder_split_start s) start_inorder

  pub known_inorder_run : (x : InorderSplit) → InorderKnown s x → IsInorderRun s x
  known_inorder_run x is = record {
    steps = is.steps;
    at = is.at;
    sees = is.sees;
    state = subst (λ (p : InorderPlace). starts_cycle p.run.at ≡ true → IsInorderPlace s p) (sym is.at) (is_inorder s is.steps);
    law = known_run laws x.split is.known;
  }

pub is_inorder_run : (s : Setup) (events : List Event) → 4 ≤ s.params.core_window → IsInorderRun s (inorder_run s events)
is_inorder_run s events room = let laws = inorder_laws s room in known_inorder_run s laws (inorder_run s events) (inorder_known s laws events)

-- what is committed under the orders told has room in the output
pub inorder_told_output : (s : Setup) (k : ℕ) → 4 ≤ s.params.core_window → length (path s (told (seen s k)) (inorder_place s k).run.demand.to_commit).output ≤ s.output
inorder_told_output s k room = run_output (inorder_laws s room) k

-- so has what each of them commits
pub inorder_orders_have_room : (s : Setup) (k : ℕ) → 4 ≤ s.params.core_window → AreInRoom s (told (seen s k))
inorder_orders_have_room s k room = told_in_room (inorder_laws s room) k

-- Every event leads on to states that events lead to.
played_last : (s : Setup) (events : List Event) (e : Event) (x : InorderSplit) → inorder_played s (events ++ e ∷ []) x ≡ inorder_event_at s e (inorder_played s events x)
played_last s [] e x = refl
played_last s (a ∷ events) e x = played_last s events e (inorder_event_at s a x)

pub start_inorder_reached : (s : Setup) → IsInorderReached s (inorder_split_start s)
start_inorder_reached s = record { events = []; is = refl }

pub event_inorder_reached : (s : Setup) (e : Event) (x : InorderSplit) → IsInorderReached s x → IsInorderReached s (inorder_event_at s e x)
event_inorder_reached s e x reached = record {
  events = reached.events ++ e ∷ [];
  is = ap (inorder_event_at s e) reached.is ∙ sym (played_last s reached.events e (inorder_split_start s));
}

pub reached_inorder_known : (s : Setup) (x : InorderSplit) → 4 ≤ s.params.core_window → IsInorderReached s x → InorderKnown s x
reached_inorder_known s x room reached = subst (InorderKnown s) (sym reached.is) (inorder_known s (inorder_laws s room) reached.events)

pub reached_inorder_run : (s : Setup) (x : InorderSplit) → 4 ≤ s.params.core_window → IsInorderReached s x → IsInorderRun s x
reached_inorder_run s x room reached = known_inorder_run s (inorder_laws s room) x (reached_inorder_known s x room reached)

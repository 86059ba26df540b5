-- What the split state needs of the in-order machine's demand run and timing side.
use Rattle.std.specs.Prelude.{◌≡◌, ℕ, zero, suc, ◌≤◌, true, if◌then◌else◌, List, [], ◌∷◌}
use Rattle.std.proofs.Common.{refl, ap, sym, ◌∙◌, subst}
use Rattle.std.proofs.lemmas.Bool.{cond-true, cond-false, cond_both}
use Rattle.mono_model.specs.declared.setup.Setup.{Setup}
use Rattle.mono_model.specs.Split.{Event, compute, push, obey, tick, take, send, may_tick, is_halted, is_place_boundary, is_boundary}
use Rattle.mono_model.proofs.Sound.{setup_facts}
use Rattle.machine_laws.specs.SplitLaw.{IsRunIn, IsRanged}
use Rattle.inorder_machine.specs.Demand.{InorderAt, InorderPlace, inorder_place, inorder_step, inorder_step_bound, seen_at, seen}
use Rattle.inorder_machine.specs.Split.{InorderSplit, inorder_split_start, inorder_ticked_to, inorder_event_at, inorder_played}
use Rattle.inorder_laws.specs.Rounds.{inorder_round, inorder_rounds_to_boundary, inorder_boundary_rounds}
use Rattle.inorder_laws.specs.Runs.{InorderHalts}
use Rattle.inorder_laws.specs.SplitLaw.{inorder_demand_run, IsInorderReached}
use Rattle.inorder_laws.proofs.Halting.{run_halts}
use Rattle.inorder_laws.proofs.Stopping.{inorder_stop_told}
use Rattle.inorder_laws.proofs.SplitRun.{reached_inorder_run}
use Rattle.inorder_laws.proofs.SplitRanges.{inorder_run_ranged}
use Rattle.inorder_laws.proofs.Arriving.{comes_to_inorder_boundary}
use Rattle.split_core.specs.Along.{At, start_at, stepped_to, event_on, played_on, IsReachedOn, round_on, rounds_on}
use Rattle.split_core.specs.Timed.{IsTimed, IsSplit}
use Rattle.split_core.specs.TimedLaws.{timed_laws}
use Rattle.inorder_machine.specs.Setup.{IsInorder}
use Rattle.inorder_model.specs.CycleLaws.{inorder_cycles}
use Rattle.inorder_model.specs.Standing.{inorder_piped}
use Rattle.inorder_model.specs.StandingLaws.{inorder_laws}
use Rattle.inorder_model.specs.InorderTimed.{inorder_timed, inorder_at}

-- Along its demand run the split state is that of the in-order machine's split run.
pub event_inorder : (s : Setup) (e : Event) (x : At) → inorder_at s (event_on s (inorder_demand_run s) e x) ≡ inorder_event_at s e (inorder_at s x)
unfolding event_on inorder_event_at inorder_place
event_inorder s compute x = refl
event_inorder s push x = refl
event_inorder s obey x = refl
event_inorder s tick x =
    let on : InorderSplit = inorder_ticked_to (inorder_step s (inorder_place s x.steps)) (inorder_at s x) in
    cond_both (may_tick x.split) (stepped_to (inorder_demand_run s) x) x (λ y. inorder_at s y ≡ (if may_tick x.split then on else inorder_at s x))
    (λ may. sym (cond-true (may_tick x.split) on (inorder_at s x) may))
    (λ may. sym (cond-false (may_tick x.split) on (inorder_at s x) may))
event_inorder s take x = refl
event_inorder s send x = refl

pub played_inorder : (s : Setup) (events : List Event) (x : At) → inorder_at s (played_on s (inorder_demand_run s) events x) ≡ inorder_played s events (inorder_at s x)
played_inorder s [] x = refl
played_inorder s (e ∷ events) x = played_inorder s events (event_on s (inorder_demand_run s) e x) ∙ ap (inorder_played s events) (event_inorder s e x)

pub start_inorder : (s : Setup) → inorder_at s (start_at s) ≡ inorder_split_start s
unfolding inorder_split_start inorder_place
start_inorder s = refl

pub inorder_reached : (s : Setup) (x : At) → IsReachedOn s (inorder_demand_run s) x → IsInorderReached s (inorder_at s x)
inorder_reached s x reached = record {
  events = reached.events;
  is = ap (inorder_at s) reached.is ∙ played_inorder s reached.events (start_at s) ∙ ap (inorder_played s reached.events) (start_inorder s);
}

-- a round, and the rounds to a boundary
pub round_inorder : (s : Setup) (x : At) → inorder_at s (round_on s (inorder_demand_run s) x) ≡ inorder_round s (inorder_at s x)
round_inorder s x =
    let r = inorder_demand_run s in
    let o = event_on s r obey x in
    let c = event_on s r compute o in
    let a = event_on s r push c in
    let b = event_on s r take a in
    let t = if is_place_boundary b.split.place then b else event_on s r tick b in
    let before : inorder_at s b ≡ inorder_event_at s take (inorder_event_at s push (inorder_event_at s compute (inorder_event_at s obey (inorder_at s x)))) =
    event_inorder s take a
    ∙ ap (inorder_event_at s take) (event_inorder s push c ∙ ap (inorder_event_at s push) (event_inorder s compute o ∙ ap (inorder_event_at s compute) (event_inorder s obey x))) in
    let ticks : inorder_at s t ≡ (if is_place_boundary b.split.place then inorder_at s b else inorder_event_at s tick (inorder_at s b)) =
    cond_both (is_place_boundary b.split.place) b (event_on s r tick b) (λ y. inorder_at s y ≡ (if is_place_boundary b.split.place then inorder_at s b else inorder_event_at s tick (inorder_at s b)))
    (λ at. sym (cond-true (is_place_boundary b.split.place) (inorder_at s b) (inorder_event_at s tick (inorder_at s b)) at))
    (λ off. event_inorder s tick b ∙ sym (cond-false (is_place_boundary b.split.place) (inorder_at s b) (inorder_event_at s tick (inorder_at s b)) off)) in
    event_inorder s send t ∙ ap (inorder_event_at s send) ticks
    ∙ ap (λ (y : InorderSplit). inorder_event_at s send (if is_place_boundary y.split.place then y else inorder_event_at s tick y)) before

pub rounds_inorder : (s : Setup) (n : ℕ) (x : At) → inorder_at s (rounds_on s (inorder_demand_run s) n x) ≡ inorder_rounds_to_boundary s n (inorder_at s x)
unfolding rounds_on inorder_rounds_to_boundary
rounds_inorder s zero x = refl
rounds_inorder s (suc n) x =
    let on : InorderSplit = inorder_rounds_to_boundary s n (inorder_round s (inorder_at s x)) in
    cond_both (is_boundary x.split) x (rounds_on s (inorder_demand_run s) n (round_on s (inorder_demand_run s) x)) (λ y. inorder_at s y ≡ (if is_boundary x.split then inorder_at s x else on))
    (λ at. sym (cond-true (is_boundary x.split) (inorder_at s x) on at))
    (λ off. rounds_inorder s n (round_on s (inorder_demand_run s) x) ∙ ap (inorder_rounds_to_boundary s n) (round_inorder s x) ∙ sym (cond-false (is_boundary x.split) (inorder_at s x) on off))

law : (s : Setup) (x : At) → IsInorder s → IsReachedOn s (inorder_demand_run s) x → IsRunIn s (inorder_demand_run s) x.split
law s x sound reached = let window = sound.window in (reached_inorder_run s (inorder_at s x) window (inorder_reached s x reached)).law

ranged : (s : Setup) (x : At) → IsInorder s → IsReachedOn s (inorder_demand_run s) x → IsRanged x.split
ranged s x sound reached =
    let window = sound.window in
    let setup = sound.sound in
    let is : IsInorderReached s (inorder_at s x) = inorder_reached s x reached in
    subst (λ (y : InorderSplit). IsRanged y.split) (sym is.is) (inorder_run_ranged s is.events setup window)

arrives : (s : Setup) (x : At) → IsInorder s → IsReachedOn s (inorder_demand_run s) x → is_boundary (rounds_on s (inorder_demand_run s) (inorder_boundary_rounds s) x).split ≡ true
arrives s x sound reached =
    let window = sound.window in
    let setup = sound.sound in
    ap (λ (y : InorderSplit). is_boundary y.split) (rounds_inorder s (inorder_boundary_rounds s) x)
    ∙ comes_to_inorder_boundary s window (setup_facts s setup).some_ring (inorder_at s x) (inorder_reached s x reached)

halts : (s : Setup) (k : ℕ) → IsInorder s → inorder_step_bound s ≤ k → is_halted (seen s k).run.at ≡ true
halts s k sound most =
    let setup = sound.sound in
    let is : InorderHalts s = run_halts s (setup_facts s setup).some_cycle in
    ap (λ (p : InorderPlace). is_halted (seen_at p.run.at)) (is.still k most) ∙ ap (λ (at : InorderAt). is_halted (seen_at at)) is.at

pub inorder_splits : IsSplit IsInorder inorder_demand_run inorder_boundary_rounds
inorder_splits = record { law = law; ranged = ranged; arrives = arrives; stop = inorder_stop_told; halts = halts; cycles = inorder_cycles }

pub inorder_timed_laws : IsTimed inorder_timed
inorder_timed_laws = timed_laws inorder_piped inorder_laws inorder_boundary_rounds inorder_splits

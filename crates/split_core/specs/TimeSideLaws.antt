-- What the split state needs of the monolithic machine's demand run and timing side.
use Rattle.std.specs.Prelude.{◌≡◌, ℕ, zero, suc, ◌≤◌, true, if◌then◌else◌, List, [], ◌∷◌}
use Rattle.std.proofs.Common.{refl, ap, sym, ◌∙◌, subst}
use Rattle.std.proofs.lemmas.Bool.{cond-true, cond-false, cond_both}
use Rattle.mono_model.specs.declared.setup.Setup.{Setup}
use Rattle.mono_model.specs.Setup.{is_setup}
use Rattle.mono_model.specs.Demand.{Place, place, place_start, step, step_bound}
use Rattle.mono_model.specs.Split.{Split, Event, compute, push, obey, tick, take, send, event_at, may_tick, ticked_to, played, is_halted, is_place_boundary, is_boundary, round, rounds_to_boundary, boundary_rounds}
use Rattle.mono_model.proofs.Next.{place-suc}
use Rattle.mono_model.proofs.Sound.{setup_facts}
use Rattle.machine_laws.specs.DemandRun.{mono_run}
use Rattle.machine_laws.specs.Reached.{IsReached}
use Rattle.machine_laws.specs.Runs.{Halts}
use Rattle.machine_laws.specs.SplitLaw.{IsRanged}
use Rattle.machine_laws.proofs.Halting.{run_halts}
use Rattle.machine_laws.proofs.SplitReached.{reached_run}
use Rattle.machine_laws.proofs.SplitRanges.{run_ranged}
use Rattle.machine_laws.proofs.SplitArriving.{comes_to_boundary}
use Rattle.machine_laws.proofs.Stopping.{stop_told}
use Rattle.time_model.specs.OutOfOrder.{core_piped}
use Rattle.time_model.specs.OutOfOrderLaws.{core_laws}
use Rattle.split_core.specs.Along.{At, start_at, stepped_to, event_on, played_on, IsReachedOn, round_on, rounds_on}
use Rattle.split_core.specs.AlongLaws.{Sees, event_sees, played_sees, start_sees}
use Rattle.split_core.specs.Timed.{IsTimed, IsSplit}
use Rattle.split_core.specs.TimedLaws.{timed_laws}
use Rattle.split_core.specs.CycleLaws.{mono_cycles}
use Rattle.split_core.specs.TimeSide.{mono_timed}

-- Along the monolithic machine's demand run the split state is that of its split run.
pub event_mono : (s : Setup) (e : Event) (x : At) → Sees (mono_run s) x → (event_on s (mono_run s) e x).split ≡ event_at s e x.split
unfolding event_on event_at
event_mono s compute x sees = refl
event_mono s push x sees = refl
event_mono s obey x sees = refl
event_mono s tick x sees =
    cond_both (may_tick x.split) (stepped_to (mono_run s) x) x (λ y. y.split ≡ (if may_tick x.split then ticked_to (step s x.split.place) x.split else x.split))
    (λ may. ap (λ (p : Place). ticked_to p x.split) (place-suc s x.steps ∙ ap (step s) (sym sees)) ∙ sym (cond-true (may_tick x.split) (ticked_to (step s x.split.place) x.split) x.split may))
    (λ may. sym (cond-false (may_tick x.split) (ticked_to (step s x.split.place) x.split) x.split may))
event_mono s take x sees = refl
event_mono s send x sees = refl

pub played_mono : (s : Setup) (events : List Event) (x : At) → Sees (mono_run s) x → (played_on s (mono_run s) events x).split ≡ played s events x.split
played_mono s [] x sees = refl
played_mono s (e ∷ events) x sees =
    played_mono s events (event_on s (mono_run s) e x) (event_sees s (mono_run s) e x sees) ∙ ap (played s events) (event_mono s e x sees)

place_starts : (s : Setup) → place s 0 ≡ place_start s
unfolding place
place_starts s = refl

start_mono : (s : Setup) → Sees (mono_run s) (start_at s)
start_mono s = start_sees s (mono_run s) (place_starts s)

pub mono_sees : (s : Setup) (x : At) → IsReachedOn s (mono_run s) x → Sees (mono_run s) x
mono_sees s x reached = subst (Sees (mono_run s)) (sym reached.is) (played_sees s (mono_run s) reached.events (start_at s) (start_mono s))

pub mono_reached : (s : Setup) (x : At) → IsReachedOn s (mono_run s) x → IsReached s x.split
mono_reached s x reached = record {
  events = reached.events;
  is = ap (λ (y : At). y.split) reached.is ∙ played_mono s reached.events (start_at s) (start_mono s);
}

-- a round, and the rounds to a boundary
module _ (s : Setup) (x : At) (sees : Sees (mono_run s) x) where
  o : At
  o = event_on s (mono_run s) obey x

  c : At
  c = event_on s (mono_run s) compute o

  a : At
  a = event_on s (mono_run s) push c

  b : At
  b = event_on s (mono_run s) take a

  seen : Sees (mono_run s) b
  unfolding o c a b
  seen = event_sees s (mono_run s) take a (event_sees s (mono_run s) push c (event_sees s (mono_run s) compute o (event_sees s (mono_run s) obey x sees)))

  before_is : b.split ≡ event_at s take (event_at s push (event_at s compute (event_at s obey x.split)))
  unfolding o c a b event_on
  before_is = refl

  abbrev ticks : At
  ticks = if is_place_boundary b.split.place then b else event_on s (mono_run s) tick b

  ticks_is : ticks.split ≡ (if is_place_boundary b.split.place then b.split else event_at s tick b.split)
  ticks_is = cond_both (is_place_boundary b.split.place) b (event_on s (mono_run s) tick b)
      (λ y. y.split ≡ (if is_place_boundary b.split.place then b.split else event_at s tick b.split))
      (λ at. sym (cond-true (is_place_boundary b.split.place) b.split (event_at s tick b.split) at))
      (λ off. event_mono s tick b seen ∙ sym (cond-false (is_place_boundary b.split.place) b.split (event_at s tick b.split) off))

  pub round_mono : (round_on s (mono_run s) x).split ≡ round s x.split
  unfolding o c a b event_on
  round_mono =
      ap (event_at s send) ticks_is
      ∙ ap (λ (y : Split). event_at s send (if is_place_boundary y.place then y else event_at s tick y)) before_is

  pub round_sees : Sees (mono_run s) (round_on s (mono_run s) x)
  unfolding o c a b
  round_sees = event_sees s (mono_run s) send ticks
      (cond_both (is_place_boundary b.split.place) b (event_on s (mono_run s) tick b) (Sees (mono_run s)) (λ at. seen) (λ off. event_sees s (mono_run s) tick b seen))

pub rounds_mono : (s : Setup) (n : ℕ) (x : At) → Sees (mono_run s) x → (rounds_on s (mono_run s) n x).split ≡ rounds_to_boundary s n x.split
unfolding rounds_on rounds_to_boundary
rounds_mono s zero x sees = refl
rounds_mono s (suc n) x sees =
    cond_both (is_boundary x.split) x (rounds_on s (mono_run s) n (round_on s (mono_run s) x))
    (λ y. y.split ≡ (if is_boundary x.split then x.split else rounds_to_boundary s n (round s x.split)))
    (λ at. sym (cond-true (is_boundary x.split) x.split (rounds_to_boundary s n (round s x.split)) at))
    (λ off. rounds_mono s n (round_on s (mono_run s) x) (round_sees s x sees) ∙ ap (rounds_to_boundary s n) (round_mono s x sees)
    ∙ sym (cond-false (is_boundary x.split) x.split (rounds_to_boundary s n (round s x.split)) off))

ranged : (s : Setup) (x : At) → is_setup s ≡ true → IsReachedOn s (mono_run s) x → IsRanged x.split
ranged s x sound reached = let is = mono_reached s x reached in subst IsRanged (sym is.is) (run_ranged s is.events sound)

arrives : (s : Setup) (x : At) → is_setup s ≡ true → IsReachedOn s (mono_run s) x → is_boundary (rounds_on s (mono_run s) (boundary_rounds s) x).split ≡ true
arrives s x sound reached =
    ap is_boundary (rounds_mono s (boundary_rounds s) x (mono_sees s x reached))
    ∙ comes_to_boundary s x.split (setup_facts s sound).some_ring (mono_reached s x reached)

halts : (s : Setup) (k : ℕ) → is_setup s ≡ true → step_bound s ≤ k → is_halted (place s k).run.at ≡ true
halts s k sound most =
    let is : Halts s = run_halts s (setup_facts s sound).some_cycle in
    ap (λ (p : Place). is_halted p.run.at) (is.still k most) ∙ ap is_halted is.at

pub mono_splits : IsSplit core_piped.allows mono_run boundary_rounds
mono_splits = record {
  law = λ s x sound reached. reached_run s x.split (mono_reached s x reached);
  ranged = ranged;
  arrives = arrives;
  stop = stop_told;
  halts = halts;
  cycles = mono_cycles;
}

pub mono_laws : IsTimed mono_timed
mono_laws = timed_laws core_piped core_laws boundary_rounds mono_splits

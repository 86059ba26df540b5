-- The rounds to a boundary are some events.
use Rattle.std.proofs.Common.{◌≡◌, ℕ, zero, suc, if◌then◌else◌, Bool, true, false, List, [], ◌∷◌, ◌++◌, refl, ap, sym, ◌∙◌, subst}
use Rattle.std.proofs.lemmas.Bool.{cond_both, cond-true, cond-false}
use Rattle.mono_model.specs.declared.setup.Setup.{Setup}
use Rattle.mono_model.specs.Split.{Event, compute, push, obey, tick, take, send, is_place_boundary, is_boundary}
use Rattle.machine_laws.specs.DemandRun.{DemandRun}
use Rattle.split_core.specs.declared.state.SplitState.{SplitState}
use Rattle.split_core.specs.Along.{At, event_on, played_on, round_on, rounds_on}
use Rattle.split_core.specs.Timed.{Timed, IsTimed}
use Rattle.split_core.specs.Standing.{StandsOn, LeadsOn}
use Rattle.split_core.specs.Plays.{Plays}

-- events that lead from one state to another
record IsWay (s : Setup) (r : DemandRun) (x y : At) : Type 0 where
  events : List Event
  is : y ≡ played_on s r events x

module _ (s : Setup) (r : DemandRun) where
  played_after : (es fs : List Event) (x : At) → played_on s r (es ++ fs) x ≡ played_on s r fs (played_on s r es x)
  played_after [] fs x = refl
  played_after (e ∷ es) fs x = played_after es fs (event_on s r e x)

  way_on : (x y z : At) → IsWay s r x y → IsWay s r y z → IsWay s r x z
  way_on x y z first second = record {
    events = first.events ++ second.events;
    is = second.is ∙ ap (played_on s r second.events) first.is ∙ sym (played_after first.events second.events x);
  }

  way_by : (e : Event) (x : At) → IsWay s r x (event_on s r e x)
  way_by e x = record { events = e ∷ []; is = refl }

  way_none : (x : At) → IsWay s r x x
  way_none x = record { events = []; is = refl }

  round_way : (x : At) → IsWay s r x (round_on s r x)
  round_way x =
      let o = event_on s r obey x in
      let c = event_on s r compute o in
      let a = event_on s r push c in
      let b = event_on s r take a in
      let t = if is_place_boundary b.split.place then b else event_on s r tick b in
      let ticked : IsWay s r b t = cond_both (is_place_boundary b.split.place) b (event_on s r tick b) (IsWay s r b) (λ at. way_none b) (λ off. way_by tick b) in
      way_on x o (round_on s r x) (way_by obey x) (way_on o c (round_on s r x) (way_by compute o) (way_on c a (round_on s r x) (way_by push c)
      (way_on a b (round_on s r x) (way_by take a) (way_on b t (round_on s r x) ticked (way_by send t)))))

  rounds_way : (n : ℕ) (x : At) → IsWay s r x (rounds_on s r n x)
  unfolding rounds_on
  rounds_way zero x = way_none x
  rounds_way (suc n) x =
      cond_both (is_boundary x.split) x (rounds_on s r n (round_on s r x)) (IsWay s r x) (λ at. way_none x)
      (λ off. way_on x (round_on s r x) (rounds_on s r n (round_on s r x)) (round_way x) (rounds_way n (round_on s r x)))

pub rounds_play : {D T : Type 0} (timed : Timed T) (laws : IsTimed timed) (old new : SplitState D T) → LeadsOn timed (λ s. rounds_on s (timed.run s) (timed.rounds s)) old new → Plays timed old new
rounds_play {D} {T} timed laws old new leads = λ s x sound reached h.
    let way : IsWay s (timed.run s) x (rounds_on s (timed.run s) (timed.rounds s) x) = rounds_way s (timed.run s) (timed.rounds s) x in
    let P : At → Type 0 = λ y. StandsOn timed s y new in
    record { events = way.events; stands = subst P way.is (leads s x sound reached h) }

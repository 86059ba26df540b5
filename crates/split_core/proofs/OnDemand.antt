-- Events that are played on demand.
use Rattle.std.proofs.Common.{◌≡◌, List, [], ◌∷◌, ◌++◌, refl, sym, subst}
use Rattle.mono_model.specs.declared.setup.Setup.{Setup}
use Rattle.mono_model.specs.Split.{Event}
use Rattle.split_core.specs.declared.state.SplitState.{SplitState}
use Rattle.split_core.specs.Along.{At, event_on, played_on, IsReachedOn}
use Rattle.split_core.specs.Timed.{Timed, IsTimed}
use Rattle.split_core.specs.Standing.{StandsOn, LeadsOn, IsStandingOn, IsEndedOn}
use Rattle.split_core.specs.Plays.{IsPlayed, Plays}
use Rattle.split_core.specs.AlongLaws.{event_reached_on, played_reached_on}
use Rattle.machine_laws.specs.DemandRun.{DemandRun}

played_behind : (s : Setup) (r : DemandRun) (es fs : List Event) (x : At) → played_on s r (es ++ fs) x ≡ played_on s r fs (played_on s r es x)
played_behind s r [] fs x = refl
played_behind s r (e ∷ es) fs x = played_behind s r es fs (event_on s r e x)

pub plays_none : {D T : Type 0} (timed : Timed T) (laws : IsTimed timed) (old : SplitState D T) → Plays timed old old
plays_none timed laws old = λ s x sound reached h. record { events = []; stands = h }

-- an event, and what is played behind it
pub plays_event : {D T : Type 0} (timed : Timed T) (laws : IsTimed timed) (e : Event) (old mid new : SplitState D T) → LeadsOn timed (λ s x. event_on s (timed.run s) e x) old mid → Plays timed mid new → Plays timed old new
plays_event timed laws e old mid new made plays = λ s x sound reached h.
    let rest : IsPlayed timed s (event_on s (timed.run s) e x) new = plays s (event_on s (timed.run s) e x) sound (event_reached_on s (timed.run s) e x reached) (made s x sound reached h) in
    record { events = e ∷ rest.events; stands = rest.stands }

pub plays_on : {D T : Type 0} (timed : Timed T) (laws : IsTimed timed) (old mid new : SplitState D T) → Plays timed old mid → Plays timed mid new → Plays timed old new
plays_on {D} {T} timed laws old mid new first then = λ s x sound reached h.
    let front : IsPlayed timed s x mid = first s x sound reached h in
    let rest : IsPlayed timed s (played_on s (timed.run s) front.events x) new = then s (played_on s (timed.run s) front.events x) sound (played_reached_on s (timed.run s) front.events x reached) front.stands in
    let P : At → Type 0 = λ y. StandsOn timed s y new in
    record {
      events = front.events ++ rest.events;
      stands = subst P (sym (played_behind s (timed.run s) front.events rest.events x)) rest.stands;
    }

pub plays_standing : {D T : Type 0} (timed : Timed T) (laws : IsTimed timed) (old new : SplitState D T) → IsStandingOn timed old → Plays timed old new → IsStandingOn timed new
plays_standing timed laws old new st plays =
    let is : IsPlayed timed st.setup st.split new = plays st.setup st.split st.sound st.reached st.stands in
    record {
      setup = st.setup;
      sound = st.sound;
      split = played_on st.setup (timed.run st.setup) is.events st.split;
      reached = played_reached_on st.setup (timed.run st.setup) is.events st.split st.reached;
      stands = is.stands;
    }

-- so far in a run on demand
pub record OnDemand {D T : Type 0} (timed : Timed T) (old new : SplitState D T) : Type 0 where
  pub standing : IsStandingOn timed new
  pub plays : Plays timed old new

pub demand_start : {D T : Type 0} (timed : Timed T) (laws : IsTimed timed) (old : SplitState D T) → IsStandingOn timed old → OnDemand timed old old
demand_start timed laws old st = record { standing = st; plays = plays_none timed laws old }

pub demand_more : {D T : Type 0} (timed : Timed T) (laws : IsTimed timed) (old mid new : SplitState D T) → OnDemand timed old mid → Plays timed mid new → OnDemand timed old new
demand_more timed laws old mid new is plays = record {
  standing = plays_standing timed laws mid new is.standing plays;
  plays = plays_on timed laws old mid new is.plays plays;
}

-- where the run ends behind what was played, it ends
pub ends_behind : {D T : Type 0} (timed : Timed T) (laws : IsTimed timed) (old mid new : SplitState D T) → Plays timed old mid →
    ((s : Setup) (x : At) → timed.allows s → IsReachedOn s (timed.run s) x → StandsOn timed s x mid → IsEndedOn timed s new) →
    (s : Setup) (x : At) → timed.allows s → IsReachedOn s (timed.run s) x → StandsOn timed s x old → IsEndedOn timed s new
ends_behind timed laws old mid new plays ends = λ s x sound reached h.
    let is : IsPlayed timed s x mid = plays s x sound reached h in
    ends s (played_on s (timed.run s) is.events x) sound (played_reached_on s (timed.run s) is.events x reached) is.stands

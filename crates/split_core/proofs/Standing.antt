-- What is known of a core from the split state that it stands for.
use Rattle.std.proofs.Common.{◌≡◌, ◌<◌, ◌^◌, true, is_none, Option, Some, None, List, [], ◌∷◌, drop, slice_get, refl, sym, ◌∙◌, subst, arith}
use Rattle.mono_model.specs.declared.setup.Setup.{Setup}
use Rattle.mono_model.specs.Split.{Event}
use Rattle.split_core.specs.AlongLaws.{reached_sees, event_reached_on}
use Rattle.machine_laws.specs.SplitLaw.{IsRunIn, IsRanged}
use Rattle.side_laws.proofs.Committed.{committed_is}
use Rattle.split_core.specs.declared.state.SplitState.{SplitState}
use Rattle.split_core.specs.Along.{At, event_on, IsReachedOn}
use Rattle.split_core.specs.Timed.{Timed, IsTimed}
use Rattle.split_core.specs.Standing.{StandsOn, IsStandingOn}

-- the split state is at the place behind the steps of the timing side
pub sees : {T : Type 0} (timed : Timed T) (laws : IsTimed timed) (s : Setup) (x : At) → IsReachedOn s (timed.run s) x → x.split.place ≡ (timed.run s).places x.steps
sees timed laws s x reached = reached_sees s (timed.run s) x (laws.start s) reached

-- the functional side's numbers are those of the split state
pub record Agrees {D T : Type 0} (x : At) (state : SplitState D T) : Type 0 where
  pub committed : state.func.committed ≡ x.split.committed_number
  pub stopped : state.func.is_stopped ≡ x.split.is_stopped

pub agrees : {D T : Type 0} (timed : Timed T) (laws : IsTimed timed) (s : Setup) (x : At) (state : SplitState D T) → timed.allows s → IsReachedOn s (timed.run s) x → StandsOn timed s x state → Agrees x state
agrees timed laws s x state sound reached h =
    let run : IsRunIn s (timed.run s) x.split = laws.law s x sound reached in
    record {
      committed = h.func.done ∙ committed_is x.split.obeyed run.kinds ∙ sym run.counted.committed;
      stopped = h.func.stopped ∙ sym run.counted.stopped;
    }

pub position_small : {D T : Type 0} (timed : Timed T) (laws : IsTimed timed) (state : SplitState D T) → IsStandingOn timed state → state.func.position < 2 ^ 62
position_small timed laws state st =
    let small : IsRanged st.split.split = laws.ranged st.setup st.split st.sound st.reached in
    omega (arith, st.stands.position, small.position)

pub epoch_small : {D T : Type 0} (timed : Timed T) (laws : IsTimed timed) (state : SplitState D T) → IsStandingOn timed state → state.func.epoch < 2 ^ 62
epoch_small timed laws state st =
    let small : IsRanged st.split.split = laws.ranged st.setup st.split st.sound st.reached in
    omega (arith, st.stands.func.holds.epoch, small.obeyed)

-- an event leads on
pub after_event : {D T : Type 0} (timed : Timed T) (laws : IsTimed timed) (e : Event) (old new : SplitState D T) → IsStandingOn timed old →
    ((s : Setup) (x : At) → timed.allows s → IsReachedOn s (timed.run s) x → StandsOn timed s x old → StandsOn timed s (event_on s (timed.run s) e x) new) → IsStandingOn timed new
after_event timed laws e old new st made = record {
  setup = st.setup;
  sound = st.sound;
  split = event_on st.setup (timed.run st.setup) e st.split;
  reached = event_reached_on st.setup (timed.run st.setup) e st.split st.reached;
  stands = made st.setup st.split st.sound st.reached st.stands;
}

-- what changes nothing leaves the core as it is
pub still_stands : {D T : Type 0} (timed : Timed T) (laws : IsTimed timed) (s : Setup) (x y : At) (state : SplitState D T) → y ≡ x → StandsOn timed s x state → StandsOn timed s y state
still_stands {D} {T} timed laws s x y state same h = let P : At → Type 0 = λ z. StandsOn timed s z state in subst P (sym same) h

pub none_is : {A : Type 0} (o : Option A) → is_none o ≡ true → o ≡ None
none_is None is = refl
none_is (Some a) is = cc

-- the front of a list
pub front_is : {A : Type 0} (xs : List A) (a : A) → slice_get xs 0 ≡ Some a → xs ≡ a ∷ drop 1 xs
front_is {A = A} [] a front = cc
front_is {A = A} (x ∷ xs) a front =
    let P : A → Type 0 = λ y. x ∷ xs ≡ y ∷ xs in
    subst P (some_same x a front) refl
  where
    some_same : (x y : A) → Some x ≡ Some y → x ≡ y
    some_same x y e = cc

pub no_front : {A : Type 0} (xs : List A) → slice_get xs 0 ≡ None → xs ≡ []
no_front [] front = refl
no_front (x ∷ xs) front = cc

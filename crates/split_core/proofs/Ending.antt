-- The way to the end of the run.
use Rattle.std.proofs.Common.{◌≡◌, ◌⊎◌, ◌≤◌, ◌+◌, ◌==◌, ◌&&◌, not, ℕ, zero, suc, Bool, true, false, is_none, if◌then◌else◌, None, length, refl, ap, sym, ◌∙◌, subst, arith, inl, inr}
use Rattle.std.proofs.lemmas.Bool.{cond-true, cond_both, and_parts}
use Rattle.mono_model.specs.declared.setup.Setup.{Setup}
use Rattle.mono_model.specs.Path.{has_stop}
use Rattle.mono_model.specs.Demand.{At as TurnAt, interrupting, committing, completing, issuing, trying, ending, stopping, halted, Place, told, needs_entry, is_try}
use Rattle.mono_model.specs.Split.{Event, compute, push, obey, tick, take, send, may_tick, is_halted, is_cycle_start, is_place_boundary, is_boundary}
use Rattle.machine_laws.specs.SplitLaw.{IsRunIn, IsLevelIn}
use Rattle.split_core.specs.declared.state.SplitState.{SplitState}
use Rattle.split_core.specs.Along.{At, stepped_to, event_on, IsReachedOn, round_on, rounds_on}
use Rattle.split_core.specs.Timed.{Timed, IsTimed}
use Rattle.split_core.specs.Standing.{StandsOn, LeadsOn, IsStandingOn, IsEndedOn, EndsOn}
use Rattle.split_core.proofs.Standing.{sees, Agrees, agrees, after_event, none_is}
use Rattle.split_core.proofs.Playing.{after_rounds}
use Rattle.split_core.specs.AlongLaws.{event_reached_on, rounds_reached_on}
use Rattle.machine_laws.specs.DemandRun.{DemandRun}

-- An event leaves the number of steps, or makes one more.
abbrev GoesOn : At → At → Type 0
GoesOn x y = (y.steps ≡ x.steps) ⊎ (y.steps ≡ suc x.steps)

event_goes : (s : Setup) (r : DemandRun) (e : Event) (x : At) → GoesOn x (event_on s r e x)
unfolding event_on
event_goes s r compute x = inl refl
event_goes s r push x = inl refl
event_goes s r obey x = inl refl
event_goes s r tick x = cond_both (may_tick x.split) (stepped_to r x) x (GoesOn x) (λ e. inr refl) (λ e. inl refl)
event_goes s r take x = inl refl
event_goes s r send x = inl refl

event_from : (s : Setup) (r : DemandRun) (k : ℕ) (e : Event) (x : At) → k ≤ x.steps → k ≤ (event_on s r e x).steps
event_from s r k e x from = elim (event_goes s r e x) [
  | inl same ↦ omega (arith, from, same)
  | inr next ↦ omega (arith, from, next)
]

round_from : (s : Setup) (r : DemandRun) (k : ℕ) (x : At) → k ≤ x.steps → k ≤ (round_on s r x).steps
round_from s r k x from =
    let o = event_on s r obey x in
    let c = event_on s r compute o in
    let a = event_on s r push c in
    let b = event_on s r take a in
    let there : k ≤ b.steps = event_from s r k take a (event_from s r k push c (event_from s r k compute o (event_from s r k obey x from))) in
    event_from s r k send (if is_place_boundary b.split.place then b else event_on s r tick b)
    (cond_both (is_place_boundary b.split.place) b (event_on s r tick b) (λ y. k ≤ y.steps) (λ e. there) (λ e. event_from s r k tick b there))

rounds_from : (s : Setup) (r : DemandRun) (k n : ℕ) (x : At) → k ≤ x.steps → k ≤ (rounds_on s r n x).steps
unfolding rounds_on
rounds_from s r k zero x from = from
rounds_from s r k (suc n) x from =
    cond_both (is_boundary x.split) x (rounds_on s r n (round_on s r x)) (λ y. k ≤ y.steps) (λ e. from) (λ e. rounds_from s r k n (round_on s r x) (round_from s r k x from))

-- At a boundary the functional side is stopped exactly where the timing side has told its last order.
record AtBoundary (x : At) : Type 0 where
  start : is_cycle_start x.split.place.run.at ≡ true
  idle : x.split.hand ≡ None
  stopped : x.split.is_stopped ≡ has_stop (told x.split.place)

boundary_is : {T : Type 0} (timed : Timed T) (laws : IsTimed timed) (s : Setup) (x : At) → timed.allows s → IsReachedOn s (timed.run s) x → is_boundary x.split ≡ true → AtBoundary x
boundary_is timed laws s x sound reached at =
    let run : IsRunIn s (timed.run s) x.split = laws.law s x sound reached in
    let level : IsLevelIn s (timed.run s) x.split = run.level at in
    let both = and_parts (is_place_boundary x.split.place && is_none x.split.hand) (length x.split.listed_orders == 0) at in
    let sides = and_parts (is_place_boundary x.split.place) (is_none x.split.hand) both.0 in
    let parts = and_parts (x.split.place.owed == 0) (is_cycle_start x.split.place.run.at) sides.0 in
    record {
      start = parts.1;
      idle = none_is x.split.hand sides.1;
      stopped = run.counted.stopped ∙ ap has_stop level.obeyed;
    }

-- the timing side has told its last order exactly where it has halted
stopped_at : {T : Type 0} (timed : Timed T) (laws : IsTimed timed) (s : Setup) (x : At) → AtBoundary x → IsReachedOn s (timed.run s) x → x.split.is_stopped ≡ is_halted x.split.place.run.at
stopped_at timed laws s x here reached =
    here.stopped
    ∙ subst (λ (p : Place). has_stop (told p) ≡ is_halted p.run.at) (sym (sees timed laws s x reached)) (laws.stop s x.steps)

ended_at : {D T : Type 0} (timed : Timed T) (laws : IsTimed timed) (s : Setup) (x : At) (state : SplitState D T) → timed.allows s → IsReachedOn s (timed.run s) x → StandsOn timed s x state → is_boundary x.split ≡ true →
    is_halted x.split.place.run.at ≡ true → IsEndedOn timed s state
ended_at timed laws s x state sound reached h at over = record {
  split = x;
  reached = reached;
  stands = h;
  halted = over;
  boundary = at;
  stopped = stopped_at timed laws s x (boundary_is timed laws s x sound reached at) reached ∙ over;
}

-- a step is made at a boundary, until the run is over
starts_no_try : (at : TurnAt) → is_cycle_start at ≡ true → is_try at ≡ false
starts_no_try interrupting start = refl
starts_no_try committing start = cc
starts_no_try completing start = cc
starts_no_try issuing start = cc
starts_no_try (trying more) start = cc
starts_no_try ending start = cc
starts_no_try stopping start = refl
starts_no_try halted start = refl

needs_not : (p : Place) → is_cycle_start p.run.at ≡ true → needs_entry p ≡ false
needs_not p start = cond_both (p.owed == 0) (is_try p.run.at) false (λ b. b ≡ false) (λ e. starts_no_try p.run.at start) (λ e. refl)

may_by : (hand over held : Bool) (needs : Bool) → hand ≡ true → over ≡ false → needs ≡ false → (hand && not over && not (needs && held)) ≡ true
may_by true false held false e f g = refl
may_by true false held true e f g = cc
may_by true true held needs e f g = cc
may_by false over held needs e f g = cc

ticks_on : (s : Setup) (r : DemandRun) (x : At) → AtBoundary x → is_halted x.split.place.run.at ≡ false → (event_on s r tick x).steps ≡ suc x.steps
unfolding event_on
ticks_on s r x here off =
    let over : (is_halted x.split.place.run.at && x.split.place.owed == 0) ≡ false = ap (λ (b : Bool). b && x.split.place.owed == 0) off in
    let may : may_tick x.split ≡ true =
    may_by (is_none x.split.hand) (is_halted x.split.place.run.at && x.split.place.owed == 0) (is_none x.split.held) (needs_entry x.split.place) (ap is_none here.idle) over
    (needs_not x.split.place here.start) in
    ap (λ (y : At). y.steps) (cond-true (may_tick x.split) (stepped_to r x) x may)

-- So many boundaries were passed, and at least so many steps made.
pub record Gone {D T : Type 0} (timed : Timed T) (s : Setup) (passed : ℕ) (state : SplitState D T) : Type 0 where
  split : At
  reached : IsReachedOn s (timed.run s) split
  stands : StandsOn timed s split state
  from : passed ≤ split.steps

pub record Going {D T : Type 0} (timed : Timed T) (passed : ℕ) (old new : SplitState D T) : Type 0 where
  pub standing : IsStandingOn timed new
  pub on : (s : Setup) (x : At) → timed.allows s → IsReachedOn s (timed.run s) x → StandsOn timed s x old → Gone timed s passed new

pub going_start : {D T : Type 0} (timed : Timed T) (laws : IsTimed timed) (old : SplitState D T) → IsStandingOn timed old → Going timed 0 old old
going_start timed laws old standing = record {
  standing = standing;
  on = λ s x sound reached h. record { split = x; reached = reached; stands = h; from = omega arith };
}

module _ {D T : Type 0} (timed : Timed T) (laws : IsTimed timed) (passed : ℕ) (old state there : SplitState D T) (is : Going timed passed old state) (rounds : LeadsOn timed (λ s. rounds_on s (timed.run s) (timed.rounds s)) state there) where
  -- at the next boundary
  arrived : (s : Setup) (x : At) → timed.allows s → IsReachedOn s (timed.run s) x → StandsOn timed s x old → Gone timed s passed there
  arrived s x sound reached h =
      let gone : Gone timed s passed state = is.on s x sound reached h in
      record {
        split = rounds_on s (timed.run s) (timed.rounds s) gone.split;
        reached = rounds_reached_on s (timed.run s) (timed.rounds s) gone.split gone.reached;
        stands = rounds s gone.split sound gone.reached gone.stands;
        from = rounds_from s (timed.run s) passed (timed.rounds s) gone.split gone.from;
      }

  at_boundary : (s : Setup) (x : At) (sound : timed.allows s) (reached : IsReachedOn s (timed.run s) x) (h : StandsOn timed s x old) → is_boundary (arrived s x sound reached h).split.split ≡ true
  unfolding arrived
  at_boundary s x sound reached h = let gone : Gone timed s passed state = is.on s x sound reached h in laws.arrives s gone.split sound gone.reached

  pub stopped_ends : there.func.is_stopped ≡ true → (s : Setup) (x : At) → timed.allows s → IsReachedOn s (timed.run s) x → StandsOn timed s x old → IsEndedOn timed s there
  stopped_ends stopped = λ s x sound reached h.
      let gone : Gone timed s passed there = arrived s x sound reached h in
      let at : is_boundary gone.split.split ≡ true = at_boundary s x sound reached h in
      let here : AtBoundary gone.split = boundary_is timed laws s gone.split sound gone.reached at in
      let same : Agrees gone.split there = agrees timed laws s gone.split there sound gone.reached gone.stands in
      ended_at timed laws s gone.split there sound gone.reached gone.stands at
      (sym (stopped_at timed laws s gone.split here gone.reached) ∙ sym same.stopped ∙ stopped)

  pub going_on : (new : SplitState D T) → there.func.is_stopped ≡ false → LeadsOn timed (λ s x. event_on s (timed.run s) tick x) there new → Going timed (passed + 1) old new
  going_on new running stepped = record {
    standing = after_event timed laws tick there new (after_rounds timed laws state there is.standing rounds) stepped;
    on = λ s x sound reached h.
        let gone : Gone timed s passed there = arrived s x sound reached h in
        let at : is_boundary gone.split.split ≡ true = at_boundary s x sound reached h in
        let here : AtBoundary gone.split = boundary_is timed laws s gone.split sound gone.reached at in
        let same : Agrees gone.split there = agrees timed laws s gone.split there sound gone.reached gone.stands in
        let off : is_halted gone.split.split.place.run.at ≡ false = sym (stopped_at timed laws s gone.split here gone.reached) ∙ sym same.stopped ∙ running in
        record {
          split = event_on s (timed.run s) tick gone.split;
          reached = event_reached_on s (timed.run s) tick gone.split gone.reached;
          stands = stepped s gone.split sound gone.reached gone.stands;
          from = omega (arith, gone.from, ticks_on s (timed.run s) gone.split here off);
        };
  }

  pub all_passed_ends : ((s : Setup) (x : At) → StandsOn timed s x old → (timed.run s).bound ≤ passed) → EndsOn timed old there
  all_passed_ends all = λ s x sound reached h.
      let gone : Gone timed s passed there = arrived s x sound reached h in
      let most : (timed.run s).bound ≤ gone.split.steps = omega (arith, gone.from, all s x h) in
      ended_at timed laws s gone.split there sound gone.reached gone.stands (at_boundary s x sound reached h)
      (ap (λ (p : Place). is_halted p.run.at) (sees timed laws s gone.split gone.reached) ∙ laws.halts s gone.split.steps sound most)

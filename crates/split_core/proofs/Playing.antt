-- Events one after the other, and the rounds to a boundary.
use Rattle.std.proofs.Common.{◌≡◌, ◌<◌, ◌≤◌, ◌+◌, ◌-◌, ℕ, zero, suc, Bool, true, false, ◌&&◌, ◌==◌, is_none, length, if◌then◌else◌, Option, List, [], ◌∷◌, ◌++◌, map, refl, ap, sym, ◌∙◌, subst, arith}
use Rattle.std.proofs.lemmas.Bool.{cond-true, cond-false, cond_both}
use Rattle.circular_buffer.specs.Buffer.{Buffer}
use Rattle.rollback_cmds.specs.declared.order.Order.{Order}
use Rattle.mono_model.specs.declared.setup.Setup.{Setup}
use Rattle.mono_model.specs.Split as split
use Rattle.mono_model.specs.Split.{is_boundary, is_place_boundary}
use Rattle.split_core.specs.declared.event.Event.{Event}
use Rattle.split_core.specs.declared.state.SplitState.{SplitState}
use Rattle.split_core.specs.Along.{At, event_on, played_on, IsReachedOn, round_on, rounds_on}
use Rattle.split_core.specs.Timed.{Timed, IsTimed}
use Rattle.split_core.specs.Standing.{StandsOn, LeadsOn, IsStandingOn, IsAtBoundaryOn, IsEndedOn, TellsBoundaryOn}
use Rattle.split_core.proofs.Standing.{sees}
use Rattle.split_core.specs.AlongLaws.{event_reached_on, played_reached_on, round_reached_on, rounds_reached_on}
use Rattle.machine_laws.specs.DemandRun.{DemandRun}
use Rattle.split_core.specs.Events.{event_in}

-- after some of the events
pub record Played {D T : Type 0} (timed : Timed T) (events : List Event) (old new : SplitState D T) : Type 0 where
  pub standing : IsStandingOn timed new
  pub leads : LeadsOn timed (λ s x. played_on s (timed.run s) (map event_in events) x) old new

played_last : (s : Setup) (r : DemandRun) (events : List Event) (e : Event) (x : At) → played_on s r (map event_in (events ++ e ∷ [])) x ≡ event_on s r (event_in e) (played_on s r (map event_in events) x)
played_last s r [] e x = refl
played_last s r (a ∷ events) e x = played_last s r events e (event_on s r (event_in a) x)

pub played_more : {D T : Type 0} (timed : Timed T) (laws : IsTimed timed) (events : List Event) (e : Event) (old mid new : SplitState D T) → Played timed events old mid → LeadsOn timed (λ s x. event_on s (timed.run s) (event_in e) x) mid new → Played timed (events ++ e ∷ []) old new
played_more {D} {T} timed laws events e old mid new is made = record {
  standing = record {
    setup = is.standing.setup;
    sound = is.standing.sound;
    split = event_on is.standing.setup (timed.run is.standing.setup) (event_in e) is.standing.split;
    reached = event_reached_on is.standing.setup (timed.run is.standing.setup) (event_in e) is.standing.split is.standing.reached;
    stands = made is.standing.setup is.standing.split is.standing.sound is.standing.reached is.standing.stands;
  };
  leads = λ s x sound reached h.
      let P : At → Type 0 = λ y. StandsOn timed s y new in
      subst P (sym (played_last s (timed.run s) events e x))
      (made s (played_on s (timed.run s) (map event_in events) x) sound (played_reached_on s (timed.run s) (map event_in events) x reached) (is.leads s x sound reached h));
}

-- Rounds: the state from which so many are left
pub record OnTheWay {D T : Type 0} (timed : Timed T) (s : Setup) (x : At) (made : ℕ) (state : SplitState D T) : Type 0 where
  pub split : At
  pub reached : IsReachedOn s (timed.run s) split
  pub stands : StandsOn timed s split state
  pub left : ℕ
  pub count : made + left ≡ timed.rounds s
  pub leads : rounds_on s (timed.run s) left split ≡ rounds_on s (timed.run s) (timed.rounds s) x

-- after so many rounds
pub record Rounded {D T : Type 0} (timed : Timed T) (made : ℕ) (old new : SplitState D T) : Type 0 where
  pub standing : IsStandingOn timed new
  pub on : (s : Setup) (x : At) → timed.allows s → IsReachedOn s (timed.run s) x → StandsOn timed s x old → OnTheWay timed s x made new

pub rounded_start : {D T : Type 0} (timed : Timed T) (laws : IsTimed timed) (old : SplitState D T) → IsStandingOn timed old → Rounded timed 0 old old
rounded_start timed laws old standing = record {
  standing = standing;
  on = λ s x sound reached h. record { split = x; reached = reached; stands = h; left = timed.rounds s; count = omega arith; leads = refl };
}

pub after_round : {D T : Type 0} (timed : Timed T) (laws : IsTimed timed) (old new : SplitState D T) → IsStandingOn timed old → LeadsOn timed (λ s. round_on s (timed.run s)) old new → IsStandingOn timed new
after_round timed laws old new st made = record {
  setup = st.setup;
  sound = st.sound;
  split = round_on st.setup (timed.run st.setup) st.split;
  reached = round_reached_on st.setup (timed.run st.setup) st.split st.reached;
  stands = made st.setup st.split st.sound st.reached st.stands;
}

rounds_more : (s : Setup) (r : DemandRun) (n : ℕ) (x : At) → rounds_on s r (suc n) x ≡ (if is_boundary x.split then x else rounds_on s r n (round_on s r x))
unfolding rounds_on
rounds_more s r n x = refl

rounds_none : (s : Setup) (r : DemandRun) (x : At) → rounds_on s r 0 x ≡ x
unfolding rounds_on
rounds_none s r x = refl

-- no round is made at a boundary
rounds_at : (s : Setup) (r : DemandRun) (n : ℕ) (x : At) → is_boundary x.split ≡ true → rounds_on s r n x ≡ x
rounds_at s r zero x at = rounds_none s r x
rounds_at s r (suc n) x at = rounds_more s r n x ∙ cond-true (is_boundary x.split) x (rounds_on s r n (round_on s r x)) at

module _ {D T : Type 0} (timed : Timed T) (laws : IsTimed timed) (made : ℕ) (old state : SplitState D T) (is : Rounded timed made old state) where
  pub at_boundary_stands : ((s : Setup) (x : At) → IsReachedOn s (timed.run s) x → StandsOn timed s x state → true ≡ is_boundary x.split) → LeadsOn timed (λ s. rounds_on s (timed.run s) (timed.rounds s)) old state
  at_boundary_stands boundary = λ s x sound reached h.
      let way : OnTheWay timed s x made state = is.on s x sound reached h in
      let P : At → Type 0 = λ y. StandsOn timed s y state in
      subst P (sym (rounds_at s (timed.run s) way.left way.split (sym (boundary s way.split way.reached way.stands))) ∙ way.leads) way.stands

  pub all_rounds_stand : ((s : Setup) (x : At) → StandsOn timed s x old → timed.rounds s ≤ made) → LeadsOn timed (λ s. rounds_on s (timed.run s) (timed.rounds s)) old state
  all_rounds_stand all = λ s x sound reached h.
      let way : OnTheWay timed s x made state = is.on s x sound reached h in
      let none : way.left ≡ 0 = omega (arith, way.count, all s x h) in
      let P : At → Type 0 = λ y. StandsOn timed s y state in
      subst P (sym (rounds_none s (timed.run s) way.split) ∙ ap (λ (n : ℕ). rounds_on s (timed.run s) n way.split) (sym none) ∙ way.leads) way.stands

  pub rounded_more : (new : SplitState D T) → ((s : Setup) (x : At) → IsReachedOn s (timed.run s) x → StandsOn timed s x state → false ≡ is_boundary x.split) → ((s : Setup) (x : At) → StandsOn timed s x old → made < timed.rounds s) →
      LeadsOn timed (λ s. round_on s (timed.run s)) state new → Rounded timed (made + 1) old new
  rounded_more new away more on = record {
    standing = after_round timed laws state new is.standing on;
    on = λ s x sound reached h.
        let way : OnTheWay timed s x made state = is.on s x sound reached h in
        let e : way.left ≡ suc (way.left - 1) = omega (arith, way.count, more s x h) in
        record {
          split = round_on s (timed.run s) way.split;
          reached = round_reached_on s (timed.run s) way.split way.reached;
          stands = on s way.split sound way.reached way.stands;
          left = way.left - 1;
          count = omega (arith, way.count, e);
          leads =
              sym (cond-false (is_boundary way.split.split) way.split (rounds_on s (timed.run s) (way.left - 1) (round_on s (timed.run s) way.split)) (sym (away s way.split way.reached way.stands)))
              ∙ sym (rounds_more s (timed.run s) (way.left - 1) way.split)
              ∙ ap (λ (n : ℕ). rounds_on s (timed.run s) n way.split) (sym e)
              ∙ way.leads;
        };
  }

-- the parts of a round, one after the other
pub round_stands : {D T : Type 0} (timed : Timed T) (laws : IsTimed timed) (old obeyed computed pushed taken stepped new : SplitState D T) →
    LeadsOn timed (λ s x. event_on s (timed.run s) split.obey x) old obeyed → LeadsOn timed (λ s x. event_on s (timed.run s) split.compute x) obeyed computed → LeadsOn timed (λ s x. event_on s (timed.run s) split.push x) computed pushed →
    LeadsOn timed (λ s x. event_on s (timed.run s) split.take x) pushed taken → LeadsOn timed (λ s x. if is_place_boundary x.split.place then x else event_on s (timed.run s) split.tick x) taken stepped →
    LeadsOn timed (λ s x. event_on s (timed.run s) split.send x) stepped new → LeadsOn timed (λ s. round_on s (timed.run s)) old new
round_stands timed laws old obeyed computed pushed taken stepped new to_obeyed to_computed to_pushed to_taken to_ticked to_new = λ s x sound reached h.
    let o = event_on s (timed.run s) split.obey x in
    let c = event_on s (timed.run s) split.compute o in
    let a = event_on s (timed.run s) split.push c in
    let b = event_on s (timed.run s) split.take a in
    let t = if is_place_boundary b.split.place then b else event_on s (timed.run s) split.tick b in
    let o_reached : IsReachedOn s (timed.run s) o = event_reached_on s (timed.run s) split.obey x reached in
    let c_reached : IsReachedOn s (timed.run s) c = event_reached_on s (timed.run s) split.compute o o_reached in
    let a_reached : IsReachedOn s (timed.run s) a = event_reached_on s (timed.run s) split.push c c_reached in
    let b_reached : IsReachedOn s (timed.run s) b = event_reached_on s (timed.run s) split.take a a_reached in
    let t_reached : IsReachedOn s (timed.run s) t = cond_both (is_place_boundary b.split.place) b (event_on s (timed.run s) split.tick b) (IsReachedOn s (timed.run s)) (λ e. b_reached) (λ e. event_reached_on s (timed.run s) split.tick b b_reached) in
    to_new s t sound t_reached (to_ticked s b sound b_reached (to_taken s a sound a_reached (to_pushed s c sound c_reached (to_computed s o sound o_reached (to_obeyed s x sound reached h)))))

pub after_events : {D T : Type 0} (timed : Timed T) (laws : IsTimed timed) (events : List Event) (old new : SplitState D T) → IsStandingOn timed old → LeadsOn timed (λ s x. played_on s (timed.run s) (map event_in events) x) old new → IsStandingOn timed new
after_events timed laws events old new st made = record {
  setup = st.setup;
  sound = st.sound;
  split = played_on st.setup (timed.run st.setup) (map event_in events) st.split;
  reached = played_reached_on st.setup (timed.run st.setup) (map event_in events) st.split st.reached;
  stands = made st.setup st.split st.sound st.reached st.stands;
}

pub after_rounds : {D T : Type 0} (timed : Timed T) (laws : IsTimed timed) (old new : SplitState D T) → IsStandingOn timed old → LeadsOn timed (λ s. rounds_on s (timed.run s) (timed.rounds s)) old new → IsStandingOn timed new
after_rounds timed laws old new st made = record {
  setup = st.setup;
  sound = st.sound;
  split = rounds_on st.setup (timed.run st.setup) (timed.rounds st.setup) st.split;
  reached = rounds_reached_on st.setup (timed.run st.setup) (timed.rounds st.setup) st.split st.reached;
  stands = made st.setup st.split st.sound st.reached st.stands;
}

pub at_next_boundary : {D T : Type 0} (timed : Timed T) (laws : IsTimed timed) (old new : SplitState D T) → IsStandingOn timed old → LeadsOn timed (λ s. rounds_on s (timed.run s) (timed.rounds s)) old new → IsAtBoundaryOn timed new
at_next_boundary timed laws old new st made = record {
  standing = record {
    setup = st.setup;
    sound = st.sound;
    split = rounds_on st.setup (timed.run st.setup) (timed.rounds st.setup) st.split;
    reached = rounds_reached_on st.setup (timed.run st.setup) (timed.rounds st.setup) st.split st.reached;
    stands = made st.setup st.split st.sound st.reached st.stands;
  };
  boundary = laws.arrives st.setup st.split st.sound st.reached;
}

pub at_the_end : {D T : Type 0} (timed : Timed T) (laws : IsTimed timed) (old new : SplitState D T) → IsStandingOn timed old → ((s : Setup) (x : At) → timed.allows s → IsReachedOn s (timed.run s) x → StandsOn timed s x old → IsEndedOn timed s new) → IsAtBoundaryOn timed new
at_the_end timed laws old new st made =
    let ended : IsEndedOn timed st.setup new = made st.setup st.split st.sound st.reached st.stands in
    record {
      standing = record { setup = st.setup; sound = st.sound; split = ended.split; reached = ended.reached; stands = ended.stands };
      boundary = ended.boundary;
    }

-- a core that stands for a state is at a boundary where it tells so
pub told_at_boundary : {D T : Type 0} (timed : Timed T) (state : SplitState D T) (answer : Bool) → TellsBoundaryOn timed state answer → answer ≡ true → IsStandingOn timed state → IsAtBoundaryOn timed state
told_at_boundary timed state answer told at standing = record {
  standing = standing;
  boundary = sym (told standing.setup standing.split standing.reached standing.stands) ∙ at;
}

-- whether it is at a boundary
all_three : (a b c : Bool) → (a && (b && c)) ≡ (a && b && c)
all_three true b c = refl
all_three false b c = refl

module _ {D T : Type 0} (timed : Timed T) (laws : IsTimed timed) (s : Setup) (x : At) (state : SplitState D T) (reached : IsReachedOn s (timed.run s) x) (h : StandsOn timed s x state)
    (starts : Bool) (is : starts ≡ is_place_boundary ((timed.run s).places x.steps)) where
  abbrev idle : Bool
  idle = is_none state.hand && (length state.listed_orders.items == 0)

  boundary_is : (starts && idle) ≡ is_boundary x.split
  boundary_is =
      ap (λ (b : Bool). b && idle) (is ∙ ap is_place_boundary (sym (sees timed laws s x reached)))
      ∙ ap (λ (o : Option Order). is_place_boundary x.split.place && (is_none o && (length state.listed_orders.items == 0))) h.hand
      ∙ ap (λ (b : Buffer Order). is_place_boundary x.split.place && (is_none x.split.hand && (length b.items == 0))) h.listed_orders
      ∙ all_three (is_place_boundary x.split.place) (is_none x.split.hand) (length x.split.listed_orders == 0)

  pub boundary_then : starts ≡ true → (level : Bool) → level ≡ idle → level ≡ is_boundary x.split
  boundary_then on level same = same ∙ ap (λ (b : Bool). b && idle) (sym on) ∙ boundary_is

  pub boundary_else : starts ≡ false → false ≡ is_boundary x.split
  boundary_else off = ap (λ (b : Bool). b && idle) (sym off) ∙ boundary_is

-- The timing side makes a step.
use Rattle.std.proofs.Common.{◌≡◌, suc, Bool, true, false, not, ◌&&◌, ◌==◌, is_none, if◌then◌else◌, Option, None, refl, ap, sym, ◌∙◌, subst}
use Rattle.std.proofs.lemmas.Bool.{cond-true, cond-false, and_parts}
use Rattle.rollback_cmds.specs.declared.order.Order.{Order}
use Rattle.trace_entry.specs.declared.Entry.{Entry}
use Rattle.mono_model.specs.declared.setup.Setup.{Setup}
use Rattle.mono_model.specs.Demand.{Place, needs_entry}
use Rattle.time_model.specs.Standing.{is_told_out}
use Rattle.mono_model.specs.Split.{tick, may_tick, is_halted, told_by, held_after, is_place_boundary}
use Rattle.time_model.specs.declared.turn.Turn.{Turn}
use Rattle.time_model.specs.Turns.{order_told}
use Rattle.split_core.specs.declared.state.SplitState.{SplitState}
use Rattle.split_core.specs.Along.{At, stepped_to, event_on, IsReachedOn}
use Rattle.split_core.specs.Timed.{Timed, IsTimed, IsMadeOn, IsStepOn}
use Rattle.split_core.specs.Standing.{StandsOn}
use Rattle.split_core.proofs.Standing.{sees, still_stands, none_is}
use Rattle.machine_laws.specs.DemandRun.{DemandRun}

tick_not : (s : Setup) (r : DemandRun) (x : At) → may_tick x.split ≡ false → event_on s r tick x ≡ x
unfolding event_on
tick_not s r x may = cond-false (may_tick x.split) _ _ may

tick_is : (s : Setup) (r : DemandRun) (x : At) → may_tick x.split ≡ true → event_on s r tick x ≡ stepped_to r x
unfolding event_on
tick_is s r x may = cond-true (may_tick x.split) _ _ may

pub may_by : (hand over lack : Bool) → hand ≡ true → over ≡ false → lack ≡ false → (hand && not over && not lack) ≡ true
may_by true false false e f g = refl
may_by true false true e f g = cc
may_by true true lack e f g = cc
may_by false over lack e f g = cc

may_not_hand : (hand over lack : Bool) → hand ≡ false → (hand && not over && not lack) ≡ false
may_not_hand false over lack e = refl
may_not_hand true over lack e = cc

may_not_over : (hand over lack : Bool) → over ≡ true → (hand && not over && not lack) ≡ false
may_not_over hand false lack e = cc
may_not_over false true lack e = refl
may_not_over true true lack e = refl

may_not_lack : (hand over lack : Bool) → lack ≡ true → (hand && not over && not lack) ≡ false
may_not_lack hand over false e = cc
may_not_lack false over true e = refl
may_not_lack true false true e = refl
may_not_lack true true true e = refl

module _ {D T : Type 0} (timed : Timed T) (laws : IsTimed timed) (s : Setup) (x : At) (state : SplitState D T) (reached : IsReachedOn s (timed.run s) x) (h : StandsOn timed s x state) where
  pub order_in_hand : is_none state.hand ≡ false → StandsOn timed s (event_on s (timed.run s) tick x) state
  order_in_hand some = still_stands timed laws s x (event_on s (timed.run s) tick x) state
      (tick_not s (timed.run s) x (may_not_hand (is_none x.split.hand) (is_halted x.split.place.run.at && x.split.place.owed == 0) (needs_entry x.split.place && is_none x.split.held) (ap is_none (sym h.hand) ∙ some))) h

  module _ (none : is_none state.hand ≡ true) (time : T) (turn : Turn) (made : IsStepOn timed s x.steps state.time time turn) where
    abbrev there : Place
    there = (timed.run s).places x.steps

    hand_none : x.split.hand ≡ None
    hand_none = sym h.hand ∙ none_is state.hand none

    abbrev Stepped : Type 0
    Stepped = StandsOn timed s (event_on s (timed.run s) tick x) (record state { time = time; hand = order_told turn })

    -- where no step is made the hand stays empty
    stays : may_tick x.split ≡ false → order_told turn ≡ None → time ≡ state.time → Stepped
    stays may told same =
        let P : T → Type 0 = λ t. StandsOn timed s x (record state { time = t; hand = order_told turn }) in
        let Q : Option Order → Type 0 = λ o. StandsOn timed s x (record state { hand = o }) in
        still_stands timed laws s x (event_on s (timed.run s) tick x) (record state { time = time; hand = order_told turn }) (tick_not s (timed.run s) x may)
        (subst P (sym same) (subst Q (none_is state.hand none ∙ sym told) h))

    waits : (needs_entry there && is_none (timed.held state.time)) ≡ true → Stepped
    waits lacks =
        let parts = and_parts (needs_entry there) (is_none (timed.held state.time)) lacks in
        let is = made.waits parts.0 (none_is (timed.held state.time) parts.1) in
        let lacking : (needs_entry x.split.place && is_none x.split.held) ≡ true =
        ap (λ (p : Place). needs_entry p && is_none x.split.held) (sees timed laws s x reached) ∙ ap (λ (o : Option Entry). needs_entry there && is_none o) (sym h.held) ∙ lacks in
        stays (may_not_lack (is_none x.split.hand) (is_told_out x.split.place) (needs_entry x.split.place && is_none x.split.held) lacking) is.0 is.1

    rests : is_told_out there ≡ true → Stepped
    rests over =
        let is = made.rests over in
        stays (may_not_over (is_none x.split.hand) (is_told_out x.split.place) (needs_entry x.split.place && is_none x.split.held) (ap is_told_out (sees timed laws s x reached) ∙ over)) is.0 is.1

    goes : (needs_entry there && is_none (timed.held state.time)) ≡ false → is_told_out there ≡ false → Stepped
    goes fed on =
        let is : IsMadeOn timed s x.steps state.time time turn = made.goes fed on in
        let fed_x : (needs_entry x.split.place && is_none x.split.held) ≡ false =
        ap (λ (p : Place). needs_entry p && is_none x.split.held) (sees timed laws s x reached) ∙ ap (λ (o : Option Entry). needs_entry there && is_none o) (sym h.held) ∙ fed in
        let may : may_tick x.split ≡ true =
        may_by (is_none x.split.hand) (is_told_out x.split.place) (needs_entry x.split.place && is_none x.split.held) (ap is_none hand_none) (ap is_told_out (sees timed laws s x reached) ∙ on) fed_x in
        let after : Place = (timed.run s).places (suc x.steps) in
        let told : told_by there after ≡ told_by x.split.place after = ap (λ (p : Place). told_by p after) (sym (sees timed laws s x reached)) in
        still_stands timed laws s (stepped_to (timed.run s) x) (event_on s (timed.run s) tick x) (record state { time = time; hand = order_told turn }) (tick_is s (timed.run s) x may)
        (record {
          func = h.func;
          position = h.position;
          time = is.stands;
          held = is.held ∙ kept;
          computed = h.computed;
          hand = is.told ∙ told;
          entries = h.entries;
          listed_orders = h.listed_orders;
          rounds = h.rounds;
          steps = h.steps;
          going = h.going;
        })
      where
        after : Place
        after = (timed.run s).places (suc x.steps)

        kept : held_after (told_by there after) there after (timed.held state.time) ≡ held_after (told_by x.split.place after) x.split.place after x.split.held
        kept =
            ap (λ (p : Place). held_after (told_by p after) p after (timed.held state.time)) (sym (sees timed laws s x reached))
            ∙ ap (held_after (told_by x.split.place after) x.split.place after) h.held

    pub stepped : (hand : Option Order) → hand ≡ order_told turn → StandsOn timed s (event_on s (timed.run s) tick x) (record state { time = time; hand = hand })
    stepped hand told =
        let P : Option Order → Type 0 = λ o. StandsOn timed s (event_on s (timed.run s) tick x) (record state { time = time; hand = o }) in
        subst P (sym told) (by_lack (needs_entry there && is_none (timed.held state.time)) refl)
      where
        by_over : (lacks : (needs_entry there && is_none (timed.held state.time)) ≡ false) (b : Bool) → is_told_out there ≡ b → Stepped
        by_over fed true is = rests is
        by_over fed false is = goes fed is

        by_lack : (b : Bool) → (needs_entry there && is_none (timed.held state.time)) ≡ b → Stepped
        by_lack true is = waits is
        by_lack false is = by_over is (is_told_out there) refl

-- a step that is left out at a boundary
module _ {D T : Type 0} (timed : Timed T) (laws : IsTimed timed) (s : Setup) (x : At) (state : SplitState D T) (reached : IsReachedOn s (timed.run s) x)
    (answer : Bool) (is : answer ≡ is_place_boundary ((timed.run s).places x.steps)) where
  is_here : is_place_boundary x.split.place ≡ answer
  is_here = ap is_place_boundary (sees timed laws s x reached) ∙ sym is

  pub made_within : answer ≡ false → StandsOn timed s (event_on s (timed.run s) tick x) state → StandsOn timed s (if is_place_boundary x.split.place then x else event_on s (timed.run s) tick x) state
  made_within off = still_stands timed laws s (event_on s (timed.run s) tick x) (if is_place_boundary x.split.place then x else event_on s (timed.run s) tick x) state
      (cond-false (is_place_boundary x.split.place) x (event_on s (timed.run s) tick x) (is_here ∙ off))

  pub left_out : answer ≡ true → StandsOn timed s x state → StandsOn timed s (if is_place_boundary x.split.place then x else event_on s (timed.run s) tick x) state
  left_out on = still_stands timed laws s x (if is_place_boundary x.split.place then x else event_on s (timed.run s) tick x) state
      (cond-true (is_place_boundary x.split.place) x (event_on s (timed.run s) tick x) (is_here ∙ on))

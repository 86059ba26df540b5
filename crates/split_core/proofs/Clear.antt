-- Steps of the timing side with nothing under way, the order of the last one obeyed at once, as where it goes through the
-- hand and an empty list.
use Rattle.std.proofs.Common.{◌≡◌, ◌<◌, ◌⊎◌, ⊎_elim, true, is_none, if◌then◌else◌, Option, Some, None, List, [], ◌∷◌, ◌++◌, length, drop, slice_get, refl, ap, sym, ◌∙◌, subst, arith}
use Rattle.std.proofs.lemmas.Bool.{cond_both}
use Rattle.circular_buffer.specs.Buffer.{Buffer, buffer}
use Rattle.rollback_cmds.specs.declared.order.Order.{Order}
use Rattle.rollback_cmds.specs.Order.{opens_epoch_of}
use Rattle.trace_entry.specs.declared.Entry.{Entry}
use Rattle.mono_model.specs.declared.setup.Setup.{Setup}
use Rattle.mono_model.specs.Split.{tick, send, obey}
use Rattle.func_model.specs.declared.walk.Walk.{Walk}
use Rattle.func_model.specs.Walk.{WalkStandsFor, IsObeyed}
use Rattle.side_laws.specs.Along.{MayObey}
use Rattle.time_model.specs.declared.turn.Turn.{Turn}
use Rattle.time_model.specs.declared.turn.Turn.TheVariants.{Moved, Ordered, Want, CycleEnd, Halted}
use Rattle.time_model.specs.Running.{is_silent, IsSilent, start, more, IsRun}
use Rattle.time_model.specs.Turns.{order_told}
use Rattle.split_core.specs.Plays.{Plays, IsClear}
use Rattle.split_core.specs.declared.state.SplitState.{SplitState}
use Rattle.split_core.specs.Along.{At, event_on, IsReachedOn}
use Rattle.split_core.specs.Timed.{Timed, IsTimed, StepsOn, IsInnerOn, IsRunInCycleOn}
use Rattle.split_core.specs.Standing.{StandsOn, IsStandingOn}
use Rattle.split_core.proofs.Listing.{order_sent}
use Rattle.split_core.proofs.OnDemand.{plays_none, plays_on, plays_standing}
use Rattle.split_core.proofs.Obeying.{can_obey, order_obeyed}
use Rattle.split_core.proofs.Ticking.{stepped}
use Rattle.split_core.specs.AlongLaws.{event_reached_on}

module _ {D T : Type 0} (timed : Timed T) (laws : IsTimed timed) (state : SplitState D T) (clear : IsClear state) (time : T) (turn : Turn)
    (made : StepsOn timed state.time time turn) where
  -- a step that tells no order
  silent_played : order_told turn ≡ None → Plays timed state (record state { time = time })
  silent_played none = λ s x sound reached h. record {
    events = tick ∷ [];
    stands = stepped timed laws s x state reached h (ap is_none clear.hand) time turn (made s x.steps sound h.time) state.hand (clear.hand ∙ sym none);
  }

  module _ (order : Order) (told : turn ≡ Ordered order) where
    -- the order in the list
    abbrev way : Buffer Order
    way = buffer (state.listed_orders.items ++ order ∷ []) state.listed_orders.capacity

    abbrev on_way : SplitState D T
    on_way = record state { time = time; hand = None; listed_orders = way }

    front : slice_get way.items 0 ≡ Some order
    front = ap (λ (os : List Order). slice_get (os ++ order ∷ []) 0) clear.orders

    -- the list is empty again
    way_back : buffer (drop 1 way.items) way.capacity ≡ state.listed_orders
    way_back =
        ap (λ (os : List Order). buffer (drop 1 (os ++ order ∷ [])) state.listed_orders.capacity) clear.orders
        ∙ ap (λ (os : List Order). buffer os state.listed_orders.capacity) (sym clear.orders)

    module _ (s : Setup) (x : At) (sound : timed.allows s) (reached : IsReachedOn s (timed.run s) x) (h : StandsOn timed s x state) where
      has_room : length state.listed_orders.items < state.listed_orders.capacity
      has_room =
          let none : length state.listed_orders.items ≡ 0 = ap (length {A = Order}) clear.orders in
          let most : state.listed_orders.capacity ≡ 64 = ap (λ (b : Buffer Order). b.capacity) h.listed_orders in
          omega (arith, none, most)

      way_stands : StandsOn timed s (event_on s (timed.run s) send (event_on s (timed.run s) tick x)) on_way
      way_stands =
          order_sent timed laws s (event_on s (timed.run s) tick x) (record state { time = time; hand = Some order })
          (stepped timed laws s x state reached h (ap is_none clear.hand) time turn (made s x.steps sound h.time) (Some order) (sym (ap order_told told)))
          order refl way has_room refl

      way_reached : IsReachedOn s (timed.run s) (event_on s (timed.run s) send (event_on s (timed.run s) tick x))
      way_reached = event_reached_on s (timed.run s) send (event_on s (timed.run s) tick x) (event_reached_on s (timed.run s) tick x reached)

    -- it may be obeyed
    step_may : IsStandingOn timed state → MayObey order state.func
    step_may st =
        let standing : IsStandingOn timed on_way = record {
          setup = st.setup;
          sound = st.sound;
          split = event_on st.setup (timed.run st.setup) send (event_on st.setup (timed.run st.setup) tick st.split);
          reached = way_reached st.setup st.split st.sound st.reached st.stands;
          stands = way_stands st.setup st.split st.sound st.reached st.stands;
        } in
        can_obey timed laws on_way order standing front

    pub told_stands : (func : Walk D) → ((s : Setup) (os : List Order) → WalkStandsFor s os state.func → WalkStandsFor s (order ∷ os) func) → IsObeyed order state.func func →
        (s : Setup) (x : At) → timed.allows s → IsReachedOn s (timed.run s) x → StandsOn timed s x state →
        StandsOn timed s (event_on s (timed.run s) obey (event_on s (timed.run s) send (event_on s (timed.run s) tick x))) (record state { func = func; time = time })
    told_stands func stands moved s x sound reached h =
        let end = event_on s (timed.run s) obey (event_on s (timed.run s) send (event_on s (timed.run s) tick x)) in
        let B : Buffer Order → Type 0 = λ b. StandsOn timed s end (record on_way { func = func; listed_orders = b; computed = None }) in
        let C : Option Entry → Type 0 = λ o. StandsOn timed s end (record state { func = func; time = time; hand = None; computed = o }) in
        let H : Option Order → Type 0 = λ o. StandsOn timed s end (record state { func = func; time = time; hand = o }) in
        let none : None ≡ (if opens_epoch_of order then None else state.computed) =
        cond_both (opens_epoch_of order) None state.computed (λ o. None ≡ o) (λ e. refl) (λ e. sym clear.computed) in
        let obeyed : B (buffer (drop 1 way.items) way.capacity) =
        order_obeyed timed laws s (event_on s (timed.run s) send (event_on s (timed.run s) tick x)) on_way (way_stands s x sound reached h) (buffer (drop 1 way.items) way.capacity) refl
        order func None front stands moved none in
        subst H (sym clear.hand) (subst C (sym clear.computed) (subst B way_back obeyed))

    told_played : (func : Walk D) → ((s : Setup) (os : List Order) → WalkStandsFor s os state.func → WalkStandsFor s (order ∷ os) func) →
        IsObeyed order state.func func → Plays timed state (record state { func = func; time = time })
    told_played func stands moved = λ s x sound reached h. record { events = tick ∷ send ∷ obey ∷ []; stands = told_stands func stands moved s x sound reached h }

-- turns by whose names no order is told
pub untold : (turn : Turn) → (turn ≡ Moved) ⊎ (turn ≡ CycleEnd) → order_told turn ≡ None
untold turn is = ⊎_elim (λ moved. ap order_told moved) (λ ended. ap order_told ended) is

pub untold_or_over : (turn : Turn) → (turn ≡ Moved) ⊎ ((turn ≡ CycleEnd) ⊎ (turn ≡ Halted)) → order_told turn ≡ None
untold_or_over turn is =
    ⊎_elim (λ moved. ap order_told moved) (λ rest. ⊎_elim (λ ended. ap order_told ended) (λ over. ap order_told over) rest) is

pub silent_tells : (turn : Turn) → is_silent turn ≡ true → order_told turn ≡ None
silent_tells Moved silent = refl
silent_tells (Ordered order) silent = cc
silent_tells Want silent = refl
silent_tells CycleEnd silent = refl
silent_tells Halted silent = refl

-- whatever becomes of the sides, nothing is under way
pub clear_at : {D T : Type 0} (state : SplitState D T) → IsClear state → (func : Walk D) (time : T) → IsClear (record state { func = func; time = time })
clear_at state clear func time = record { computed = clear.computed; hand = clear.hand; entries = clear.entries; orders = clear.orders }

-- a run within a cycle is a run
inner_silent : {T : Type 0} (timed : Timed T) (old new : T) → IsSilent (IsInnerOn timed) old new → IsSilent (StepsOn timed) old new
inner_silent timed old _ start = start
inner_silent timed old _ (more mid new turn rest step silent) = more mid new turn (inner_silent timed old mid rest) step.made silent

pub as_run : {T : Type 0} (timed : Timed T) (old new : T) (turn : Turn) → IsRunInCycleOn timed old new turn → IsRun (StepsOn timed) old new turn
as_run timed old new turn run = record { behind = run.behind; silent = inner_silent timed old run.behind run.silent; last = run.last }

-- silent steps, one after the other
silent_run : {D T : Type 0} (timed : Timed T) (laws : IsTimed timed) (state : SplitState D T) → IsClear state → (time : T) → IsSilent (StepsOn timed) state.time time → Plays timed state (record state { time = time })
silent_run timed laws state clear _ start = plays_none timed laws state
silent_run timed laws state clear _ (more mid new turn rest step silent) =
    plays_on timed laws state (record state { time = mid }) (record state { time = new }) (silent_run timed laws state clear mid rest)
    (silent_played timed laws (record state { time = mid }) (clear_at state clear state.func mid) new turn step (silent_tells turn silent))

module _ {D T : Type 0} (timed : Timed T) (laws : IsTimed timed) (state : SplitState D T) (clear : IsClear state) (time : T) (turn : Turn) (is : IsRun (StepsOn timed) state.time time turn) where
  abbrev mid : SplitState D T
  mid = record state { time = is.behind }

  mid_clear : IsClear mid
  mid_clear = clear_at state clear state.func is.behind

  comes : Plays timed state mid
  comes = silent_run timed laws state clear is.behind is.silent

  -- it tells no order
  pub run_silent : order_told turn ≡ None → Plays timed state (record state { time = time })
  run_silent none = plays_on timed laws state mid (record state { time = time }) comes (silent_played timed laws mid mid_clear time turn is.last none)

  -- it tells one
  module _ (order : Order) (told : turn ≡ Ordered order) where
    pub run_may : IsStandingOn timed state → MayObey order state.func
    run_may st = step_may timed laws mid mid_clear time turn is.last order told (plays_standing timed laws state mid st comes)

    pub run_obeyed : (func : Walk D) → ((s : Setup) (os : List Order) → WalkStandsFor s os state.func → WalkStandsFor s (order ∷ os) func) →
        IsObeyed order state.func func → Plays timed state (record state { func = func; time = time })
    run_obeyed func stands moved =
        plays_on timed laws state mid (record state { func = func; time = time }) comes (told_played timed laws mid mid_clear time turn is.last order told func stands moved)

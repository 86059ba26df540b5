-- The core within a cycle, and where it comes out of it.
use Rattle.std.proofs.Common.{◌≡◌, ℕ, zero, suc, ◌+◌, ◌<◌, ◌≤◌, ◌&&◌, ◌==◌, ◌⊎◌, inl, inr, not, is_none, if◌then◌else◌, Bool, true, false, Option, Some, None, List, ◌∷◌, length, refl, ap, sym, ◌∙◌, subst, arith}
use Rattle.std.proofs.lemmas.Bool.{and_parts, and_right, cases_lt, cond_both}
use Rattle.rollback_cmds.specs.declared.order.Order.{Order}
use Rattle.trace_entry.specs.declared.Entry.{Entry}
use Rattle.mono_model.specs.declared.setup.Setup.{Setup}
use Rattle.mono_model.specs.Demand.{At as TurnAt, interrupting, committing, completing, issuing, trying, ending, stopping, halted, Place, is_try, needs_entry}
use Rattle.mono_model.specs.Split.{Split, compute, push, obey, tick, take, send, may_tick, is_halted, is_cycle_start, is_place_boundary, is_boundary}
use Rattle.machine_laws.specs.DemandRun.{DemandRun}
use Rattle.mono_model.specs.Final.{has_ended}
use Rattle.mono_model.specs.Machine.{Machine}
use Rattle.machine_laws.specs.Runs.{is_over, IsByCycles}
use Rattle.func_model.specs.declared.walk.Walk.{Walk}
use Rattle.func_model.specs.Walk.{WalkStandsFor, IsObeyed, entry_if}
use Rattle.time_model.specs.declared.turn.Turn.{Turn}
use Rattle.time_model.specs.declared.turn.Turn.TheVariants.{Ordered}
use Rattle.time_model.specs.Running.{IsSilent, start, more}
use Rattle.time_model.specs.Turns.{order_told}
use Rattle.split_core.specs.declared.state.SplitState.{SplitState}
use Rattle.split_core.specs.Along.{At, stepped_to, event_on, IsReachedOn, round_on, rounds_on}
use Rattle.split_core.specs.AlongLaws.{event_reached_on, round_reached_on, rounds_reached_on}
use Rattle.split_core.specs.Cycles.{Cycles, StartsCycle, ends_place, is_inside}
use Rattle.split_core.specs.Plays.{IsClear}
use Rattle.split_core.specs.Standing.{StandsOn, LeadsOn}
use Rattle.split_core.specs.Timed.{Timed, IsTimed, StepsOn, IsInnerOn, IsRunInCycleOn, IsFedOn}
use Rattle.split_core.proofs.Standing.{sees, none_is}
use Rattle.split_core.proofs.Clear.{clear_at, silent_tells, told_stands}
use Rattle.split_core.proofs.Handing.{Made, handed_stands}
use Rattle.split_core.proofs.Ticking.{stepped, may_by}
use Rattle.split_core.specs.InCycle.{Closed, Open, IsIn, IsOut, IsNextCycle, CyclesOn}
use Rattle.split_core.proofs.Crossing.{closed_on, open_on, closed_by, crossing}

-- at the start of a cycle of a run that goes on a step can be made
start_free : (at : TurnAt) → is_cycle_start at ≡ true → is_over at ≡ false → (is_halted at ≡ false) × (is_try at ≡ false)
start_free interrupting starts goes = (refl, refl)
start_free committing starts goes = cc
start_free completing starts goes = cc
start_free issuing starts goes = cc
start_free (trying left) starts goes = cc
start_free ending starts goes = cc
start_free stopping starts goes = cc
start_free halted starts goes = cc

no_need : (b held : Bool) → ((if b then false else false) && held) ≡ false
no_need true held = refl
no_need false held = refl

may_start : (x : Split) → x.hand ≡ None → StartsCycle x.place → may_tick x ≡ true
may_start x hand starts =
    let p = x.place in
    let begins : is_cycle_start p.run.at ≡ true = (and_parts (p.owed == 0) (is_cycle_start p.run.at) starts.boundary).1 in
    let free = start_free p.run.at begins starts.goes in
    may_by (is_none x.hand) (is_halted p.run.at && p.owed == 0) (needs_entry p && is_none x.held) (ap is_none hand) (ap (λ (b : Bool). b && p.owed == 0) free.0)
    (ap (λ (b : Bool). (if p.owed == 0 then b else false) && is_none x.held) free.1 ∙ no_need (p.owed == 0) (is_none x.held))

-- where a try comes next no cycle starts
try_inside : (at : TurnAt) → is_try at ≡ true → is_cycle_start at ≡ false
try_inside interrupting try = cc
try_inside committing try = refl
try_inside completing try = refl
try_inside issuing try = refl
try_inside (trying left) try = refl
try_inside ending try = refl
try_inside stopping try = cc
try_inside halted try = cc

need_try : (b try : Bool) → (if b then try else false) ≡ true → try ≡ true
need_try true try is = is
need_try false try is = cc

needs_off : (p : Place) → needs_entry p ≡ true → is_place_boundary p ≡ false
needs_off p needs = and_right (p.owed == 0) (is_cycle_start p.run.at) (try_inside p.run.at (need_try (p.owed == 0) (is_try p.run.at) needs))

-- the events that don't move the timing side
module _ (s : Setup) (r : DemandRun) (x : At) where
  compute_steps : (event_on s r compute x).steps ≡ x.steps
  unfolding event_on
  compute_steps = refl

  push_steps : (event_on s r push x).steps ≡ x.steps
  unfolding event_on
  push_steps = refl

  obey_steps : (event_on s r obey x).steps ≡ x.steps
  unfolding event_on
  obey_steps = refl

  take_steps : (event_on s r take x).steps ≡ x.steps
  unfolding event_on
  take_steps = refl

  send_steps : (event_on s r send x).steps ≡ x.steps
  unfolding event_on
  send_steps = refl

-- the one that may
abbrev Inside : DemandRun → ℕ → ℕ → Type 0
Inside r from k = (from ≤ k) × Closed r from k

abbrev pub Moved : DemandRun → ℕ → ℕ → Type 0
Moved r from k = (from < k) × Open r from k

module _ (s : Setup) (r : DemandRun) (law : Cycles r) (from : ℕ) (starts : StartsCycle (r.places from)) (x : At) (at : x.split.place ≡ r.places x.steps) (later : from ≤ x.steps) (closed : Closed r from x.steps) where
  inner_tick : ends_place (r.places x.steps) ≡ false → Inside r from (event_on s r tick x).steps
  unfolding event_on
  inner_tick is_inner =
      cond_both (may_tick x.split) (stepped_to r x) x (λ (y : At). Inside r from y.steps)
      (λ may. (omega (arith, later), closed_on r law from starts x.steps later closed is_inner)) (λ off. (later, closed))

  any_tick : (from ≡ x.steps → x.split.hand ≡ None) → Moved r from (event_on s r tick x).steps
  unfolding event_on
  any_tick hand =
      cond_both (may_tick x.split) (stepped_to r x) x (λ (y : At). Moved r from y.steps)
      (λ may. (omega (arith, later), open_on r law from starts x.steps closed))
      (λ off. by (cases_lt from x.steps) off)
    where
      by : (from < x.steps) ⊎ (x.steps ≤ from) → may_tick x.split ≡ false → Moved r from x.steps
      by (inl less) off = (less, λ j above below. closed j above (omega (arith, below)))
      by (inr most) off =
          let same : from ≡ x.steps = omega (arith, later, most) in
          let here : StartsCycle x.split.place = subst StartsCycle (ap (λ (n : ℕ). r.places n) same ∙ sym at) starts in
          let e : true ≡ false = sym (may_start x.split (hand same) here) ∙ off in
          cc

module _ {T : Type 0} (timed : Timed T) (laws : IsTimed timed) (s : Setup) (sound : timed.allows s) (from : ℕ) (starts : StartsCycle ((timed.run s).places from)) where
  abbrev run : DemandRun
  run = timed.run s

  pub in_start : {D : Type 0} (x : At) (state : SplitState D T) → IsReachedOn s (timed.run s) x → StandsOn timed s x state → from ≡ x.steps → IsIn timed s from state
  in_start x state reached h same = record {
    split = x;
    reached = reached;
    stands = h;
    later = omega (arith, same);
    closed = λ j above within. absurd (omega (arith, same, above, within));
  }

  in_tick : {D : Type 0} (state : SplitState D T) → IsClear state → (time : T) (turn : Turn) → IsInnerOn timed state.time time turn → order_told turn ≡ None → IsIn timed s from state → IsIn timed s from (record state { time = time })
  in_tick state clear time turn inner none i =
      let x = i.split in
      let both = inner_tick s run (laws.cycles s) from starts x (sees timed laws s x i.reached) i.later i.closed (inner.inner s x.steps i.stands.time) in
      record {
        split = event_on s run tick x;
        reached = event_reached_on s run tick x i.reached;
        stands = stepped timed laws s x state i.reached i.stands (ap is_none clear.hand) time turn (inner.made s x.steps sound i.stands.time) state.hand (clear.hand ∙ sym none);
        later = both.0;
        closed = both.1;
      }

  in_silent : {D : Type 0} (state : SplitState D T) → IsClear state → (time : T) → IsSilent (IsInnerOn timed) state.time time → IsIn timed s from state → IsIn timed s from (record state { time = time })
  in_silent state clear _ start i = i
  in_silent state clear _ (more mid new turn rest step silent) i =
      in_tick (record state { time = mid }) (clear_at state clear state.func mid) new turn step (silent_tells turn silent) (in_silent state clear mid rest i)

  hand_none : {D : Type 0} (state : SplitState D T) → IsClear state → (x : At) → StandsOn timed s x state → x.split.hand ≡ None
  hand_none state clear x h = sym h.hand ∙ clear.hand

  out_tick : {D : Type 0} (state : SplitState D T) → IsClear state → (time : T) (turn : Turn) → StepsOn timed state.time time turn → order_told turn ≡ None → IsIn timed s from state → IsOut timed s from (record state { time = time })
  out_tick state clear time turn made none i =
      let x = i.split in
      let both = any_tick s run (laws.cycles s) from starts x (sees timed laws s x i.reached) i.later i.closed (λ same. hand_none state clear x i.stands) in
      record {
        split = event_on s run tick x;
        reached = event_reached_on s run tick x i.reached;
        stands = stepped timed laws s x state i.reached i.stands (ap is_none clear.hand) time turn (made s x.steps sound i.stands.time) state.hand (clear.hand ∙ sym none);
        moved = both.0;
        between = both.1;
      }

  out_told : {D : Type 0} (state : SplitState D T) (clear : IsClear state) (time : T) (turn : Turn) (made : StepsOn timed state.time time turn) (order : Order) (told : turn ≡ Ordered order) (func : Walk D) →
      ((s : Setup) (os : List Order) → WalkStandsFor s os state.func → WalkStandsFor s (order ∷ os) func) → IsObeyed order state.func func → IsIn timed s from state → IsOut timed s from (record state { func = func; time = time })
  out_told state clear time turn made order told func stands moved i =
      let x = i.split in
      let both = any_tick s run (laws.cycles s) from starts x (sees timed laws s x i.reached) i.later i.closed (λ same. hand_none state clear x i.stands) in
      let ticked = event_on s run tick x in
      let sent = event_on s run send ticked in
      let steps : ticked.steps ≡ (event_on s run obey sent).steps = sym (obey_steps s run sent ∙ send_steps s run ticked) in
      let all : Moved run from (event_on s run obey sent).steps = subst (Moved run from) steps both in
      record {
        split = event_on s run obey sent;
        reached = event_reached_on s run obey sent (event_reached_on s run send ticked (event_reached_on s run tick x i.reached));
        stands = told_stands timed laws state clear time turn made order told func stands moved s x sound i.reached i.stands;
        moved = all.0;
        between = all.1;
      }

  -- a run within the cycle
  pub out_silent : {D : Type 0} (state : SplitState D T) → IsClear state → (time : T) (turn : Turn) → IsRunInCycleOn timed state.time time turn → order_told turn ≡ None → IsIn timed s from state → IsOut timed s from (record state { time = time })
  out_silent state clear time turn is none i =
      out_tick (record state { time = is.behind }) (clear_at state clear state.func is.behind) time turn is.last none (in_silent state clear is.behind is.silent i)

  pub out_obeyed : {D : Type 0} (state : SplitState D T) → IsClear state → (time : T) (turn : Turn) → IsRunInCycleOn timed state.time time turn → (order : Order) → turn ≡ Ordered order → (func : Walk D) →
      ((s : Setup) (os : List Order) → WalkStandsFor s os state.func → WalkStandsFor s (order ∷ os) func) → IsObeyed order state.func func → IsIn timed s from state → IsOut timed s from (record state { func = func; time = time })
  out_obeyed state clear time turn is order told func stands moved i =
      out_told (record state { time = is.behind }) (clear_at state clear state.func is.behind) time turn is.last order told func stands moved (in_silent state clear is.behind is.silent i)

  -- an entry that is handed over
  module _ {D : Type 0} (state : SplitState D T) (clear : IsClear state) (func : Walk D) (e : Entry) (written : Bool) (wrote : written ≡ true) (made : Made state.func func (entry_if written e))
      (wants : (s : Setup) (k : ℕ) → timed.stands s k state.time → true ≡ (needs_entry ((timed.run s).places k) && is_none (timed.held state.time)))
      (time : T) (turn : Turn) (fed : IsFedOn timed e state.time time turn) where
    abbrev mid : SplitState D T
    mid = record state { func = func; time = fed.taken }

    some : entry_if written e ≡ Some e
    some = ap (λ (b : Bool). entry_if b e) wrote

    in_handed : IsIn timed s from state → IsIn timed s from mid
    in_handed i =
        let x = i.split in
        let computed = event_on s run compute x in
        let pushed = event_on s run push computed in
        let steps : x.steps ≡ (event_on s run take pushed).steps = sym (take_steps s run pushed ∙ push_steps s run computed ∙ compute_steps s run x) in
        let all : Inside run from (event_on s run take pushed).steps = subst (Inside run from) steps (i.later, i.closed) in
        record {
          split = event_on s run take pushed;
          reached = event_reached_on s run take pushed (event_reached_on s run push computed (event_reached_on s run compute x i.reached));
          stands = handed_stands timed laws state (ap is_none clear.computed) clear.entries func e (entry_if written e) some made fed.taken fed.answer wants fed.stands fed.used fed.dropped fed.by_epoch s x sound i.reached i.stands;
          later = all.0;
          closed = all.1;
        }

    pub out_fed : order_told turn ≡ None → IsIn timed s from state → IsOut timed s from (record state { func = func; time = time })
    out_fed none i = out_silent mid (clear_at state clear func fed.taken) time turn fed.run none (in_handed i)

    pub out_fed_obeyed : (order : Order) → turn ≡ Ordered order → (after : Walk D) → ((s : Setup) (os : List Order) → WalkStandsFor s os func → WalkStandsFor s (order ∷ os) after) → IsObeyed order func after →
        IsIn timed s from state → IsOut timed s from (record state { func = after; time = time })
    out_fed_obeyed order told after stands moved i = out_obeyed mid (clear_at state clear func fed.taken) time turn fed.run order told after stands moved (in_handed i)

  -- where it is at no boundary, it is within the cycle
  pub back_in : {D : Type 0} (state : SplitState D T) → ((k : ℕ) → timed.stands s k state.time → is_place_boundary (run.places k) ≡ false) → IsOut timed s from state → IsIn timed s from state
  back_in state off o = record {
    split = o.split;
    reached = o.reached;
    stands = o.stands;
    later = omega (arith, o.moved);
    closed = closed_by run (laws.cycles s) from starts o.split.steps o.moved o.between (off o.split.steps o.stands.time);
  }

  pub wants_off : {D : Type 0} (state : SplitState D T) → timed.wants state.time ≡ true → (k : ℕ) → timed.stands s k state.time → is_place_boundary (run.places k) ≡ false
  wants_off state wants k h = needs_off (run.places k) (and_parts (needs_entry (run.places k)) (is_none (timed.held state.time)) (sym (laws.needs s k state.time h) ∙ wants)).0

  -- where it wants an entry it has made a step
  pub moved_on : {D : Type 0} (state : SplitState D T) → timed.wants state.time ≡ true → IsIn timed s from state → IsOut timed s from state
  moved_on state wants i = by (cases_lt from i.split.steps)
    where
      by : (from < i.split.steps) ⊎ (i.split.steps ≤ from) → IsOut timed s from state
      by (inl less) = record { split = i.split; reached = i.reached; stands = i.stands; moved = less; between = λ j above below. i.closed j above (omega (arith, below)) }
      by (inr most) =
          let same : i.split.steps ≡ from = omega (arith, i.later, most) in
          let on : is_place_boundary (run.places i.split.steps) ≡ true = ap (λ (n : ℕ). is_place_boundary (run.places n)) same ∙ starts.boundary in
          let e : true ≡ false = sym on ∙ wants_off state wants i.split.steps i.stands.time in
          cc

  -- a step of the timing side, whatever is under way
  pub out_any : {D : Type 0} (old new : SplitState D T) → LeadsOn timed (λ s x. event_on s (timed.run s) tick x) old new → old.hand ≡ None → IsIn timed s from old → IsOut timed s from new
  out_any old new leads hand i =
      let x = i.split in
      let both = any_tick s run (laws.cycles s) from starts x (sees timed laws s x i.reached) i.later i.closed (λ same. sym i.stands.hand ∙ hand) in
      record {
        split = event_on s run tick x;
        reached = event_reached_on s run tick x i.reached;
        stands = leads s x sound i.reached i.stands;
        moved = both.0;
        between = both.1;
      }

  -- rounds stop at the next boundary
  round_moved : (x : At) → IsReachedOn s run x → Moved run from x.steps → Moved run from (round_on s run x).steps
  round_moved x reached moved =
      let o = event_on s run obey x in
      let c = event_on s run compute o in
      let a = event_on s run push c in
      let b = event_on s run take a in
      let b_reached : IsReachedOn s run b = event_reached_on s run take a (event_reached_on s run push c (event_reached_on s run compute o (event_reached_on s run obey x reached))) in
      let steps : x.steps ≡ b.steps = sym (take_steps s run a ∙ push_steps s run c ∙ compute_steps s run o ∙ obey_steps s run x) in
      let here : Moved run from b.steps = subst (Moved run from) steps moved in
      let t = if is_place_boundary b.split.place then b else event_on s run tick b in
      let ticked : Moved run from t.steps =
      cond_both (is_place_boundary b.split.place) b (event_on s run tick b) (λ (y : At). Moved run from y.steps) (λ on. here)
      (λ off.
      let place : b.split.place ≡ run.places b.steps = sees timed laws s b b_reached in
      let none : is_place_boundary (run.places b.steps) ≡ false = ap is_place_boundary (sym place) ∙ off in
      any_tick s run (laws.cycles s) from starts b place (omega (arith, here.0)) (closed_by run (laws.cycles s) from starts b.steps here.0 here.1 none) (λ same. absurd (omega (arith, here.0, same)))) in
      subst (Moved run from) (sym (send_steps s run t)) ticked

  pub rounds_moved : (n : ℕ) (x : At) → IsReachedOn s run x → Moved run from x.steps → Moved run from (rounds_on s run n x).steps
  unfolding rounds_on
  rounds_moved zero x reached moved = moved
  rounds_moved (suc n) x reached moved =
      cond_both (is_boundary x.split) x (rounds_on s run n (round_on s run x)) (λ (y : At). Moved run from y.steps) (λ at. moved)
      (λ off. rounds_moved n (round_on s run x) (round_reached_on s run x reached) (round_moved x reached moved))

-- from the start of one cycle to that of the next
module _ {T : Type 0} (timed : Timed T) (laws : IsTimed timed) (s : Setup) (sound : timed.allows s) (x : At) (reached : IsReachedOn s (timed.run s) x)
    (boundary : is_boundary x.split ≡ true) (goes : has_ended x.split.place.run.demand.machine.end ≡ false) where
  parts : (is_place_boundary x.split.place && is_none x.split.hand) ≡ true
  parts = (and_parts (is_place_boundary x.split.place && is_none x.split.hand) (length x.split.listed_orders == 0) boundary).0

  at_start : is_place_boundary x.split.place ≡ true
  at_start = (and_parts (is_place_boundary x.split.place) (is_none x.split.hand) parts).0

  pub starts_there : StartsCycle ((timed.run s).places x.steps)
  starts_there =
      let is : IsByCycles (timed.run s).machines x.split.place = (laws.law s x sound reached).machine at_start in
      let over : is_over x.split.place.run.at ≡ false = sym is.over ∙ ap (λ (m : Machine). has_ended m.end) (sym is.machine) ∙ goes in
      let here : StartsCycle x.split.place = record { boundary = at_start; goes = over } in
      subst StartsCycle (sees timed laws s x reached) here

  pub hand_free : x.split.hand ≡ None
  hand_free = none_is x.split.hand (and_parts (is_place_boundary x.split.place) (is_none x.split.hand) parts).1

  pub next_cycle : {D : Type 0} (old new : SplitState D T) → IsOut timed s x.steps old → LeadsOn timed (λ s. rounds_on s (timed.run s) (timed.rounds s)) old new → IsNextCycle timed s x new
  next_cycle old new o leads =
      let r = timed.run s in
      let w = rounds_on s r (timed.rounds s) o.split in
      let w_reached : IsReachedOn s r w = rounds_reached_on s r (timed.rounds s) o.split o.reached in
      let moved = rounds_moved timed laws s sound x.steps starts_there (timed.rounds s) o.split o.reached (o.moved, o.between) in
      let there : is_boundary w.split ≡ true = laws.arrives s o.split sound o.reached in
      let place : is_place_boundary w.split.place ≡ true =
      (and_parts (is_place_boundary w.split.place) (is_none w.split.hand) (and_parts (is_place_boundary w.split.place && is_none w.split.hand) (length w.split.listed_orders == 0) there).0).0 in
      let at : w.split.place ≡ r.places w.steps = sees timed laws s w w_reached in
      let next = crossing r (laws.cycles s) x.steps starts_there w.steps moved.0 moved.1 (ap is_place_boundary (sym at) ∙ place) in
      record {
        split = w;
        reached = w_reached;
        stands = leads s o.split sound o.reached o.stands;
        boundary = there;
        cycle =
            ap (λ (p : Place). p.run.demand.machine.cycle) at
            ∙ next.cycle
            ∙ ap (λ (p : Place). p.run.demand.machine.cycle + 1) (sym (sees timed laws s x reached));
        unstopped = ap (λ (p : Place). is_halted p.run.at) at ∙ next.unstopped;
      }

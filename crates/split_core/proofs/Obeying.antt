-- The functional side obeys an order.
use Rattle.std.proofs.Common.{◌≡◌, ◌≤◌, if◌then◌else◌, Option, Some, None, List, [], ◌∷◌, drop, slice_get, refl, ap, sym, ◌∙◌, subst, arith}
use Rattle.circular_buffer.specs.Buffer.{Buffer, buffer}
use Rattle.rollback_cmds.specs.declared.order.Order.{Order}
use Rattle.rollback_cmds.specs.declared.order.Order.TheVariants.{Set, Commit, Interrupt, Time, Stop, Sync}
use Rattle.rollback_cmds.specs.Order.{opens_epoch_of}
use Rattle.trace_entry.specs.declared.Entry.{Entry}
use Rattle.mono_model.specs.declared.setup.Setup.{Setup}
use Rattle.mono_model.specs.Demand.{number_of}
use Rattle.mono_model.specs.Split.{Split, obey, obeys, on_obey, event_at}
use Rattle.machine_laws.specs.SplitLaw.{IsRunIn, IsRanged, MayObey as MayObeyListed}
use Rattle.func_model.specs.declared.walk.Walk.{Walk}
use Rattle.func_model.specs.Walk.{WalkStandsFor, IsObeyed, position_by}
use Rattle.side_laws.specs.Along.{MayObey}
use Rattle.side_laws.proofs.Obeying.{has_room}
use Rattle.split_core.specs.declared.state.SplitState.{SplitState}
use Rattle.split_core.specs.Along.{At, event_on}
use Rattle.split_core.specs.Timed.{Timed, IsTimed}
use Rattle.split_core.specs.Standing.{StandsOn, IsStandingOn}
use Rattle.split_core.proofs.Standing.{Agrees, agrees, position_small, epoch_small, still_stands, front_is, no_front}
use Rattle.machine_laws.specs.DemandRun.{DemandRun}

-- the oldest order that is listed may be obeyed
pub can_obey : {D T : Type 0} (timed : Timed T) (laws : IsTimed timed) (state : SplitState D T) (order : Order) → IsStandingOn timed state → slice_get state.listed_orders.items 0 ≡ Some order → MayObey order state.func
can_obey timed laws state order st front =
    let s = st.setup in
    let x = st.split in
    let h : StandsOn timed s x state = st.stands in
    let run : IsRunIn s (timed.run s) x.split = laws.law s x st.sound st.reached in
    let same : Agrees x state = agrees timed laws s x state st.sound st.reached h in
    let items : state.listed_orders.items ≡ x.split.listed_orders = ap (λ (b : Buffer Order). b.items) h.listed_orders in
    let may : MayObeyListed s x.split order = run.obeys order (drop 1 x.split.listed_orders) (front_is x.split.listed_orders order (ap (λ (os : List Order). slice_get os 0) (sym items) ∙ front)) in
    let small : IsRanged x.split = laws.ranged s x st.sound st.reached in
    let from : state.func.committed ≤ number_of order = omega (arith, same.committed, may.least) in
    let most : number_of order ≤ state.func.position = omega (arith, h.position, may.most) in
    record {
      reach = λ stopped. most;
      from = from;
      room = omega (arith, same.committed, may.window, h.func.holds.capacity);
      number = omega (arith, may.most, small.position);
      position = position_small timed laws state st;
      epoch = epoch_small timed laws state st;
      within = has_room s x.split.obeyed state.func h.func order (λ beyond. absurd (omega arith)) from may.output;
    }

-- what an order makes of the split state, as far as the core holds it
record IsBehind (x : Split) (o : Order) (os : List Order) (y : Split) : Type 0 where
  obeyed : y.obeyed ≡ o ∷ x.obeyed
  position : y.position ≡ position_by o x.position
  computed : y.computed ≡ (if opens_epoch_of o then None else x.computed)
  place : y.place ≡ x.place
  held : y.held ≡ x.held
  hand : y.hand ≡ x.hand
  entries : y.entries ≡ x.entries
  listed_orders : y.listed_orders ≡ os

obeys_behind : (x : Split) (o : Order) (os : List Order) → IsBehind x o os (obeys o (record x { listed_orders = os }))
obeys_behind x (Set m addr) os = record { obeyed = refl; position = refl; computed = refl; place = refl; held = refl; hand = refl; entries = refl; listed_orders = refl }
obeys_behind x (Commit m) os = record { obeyed = refl; position = refl; computed = refl; place = refl; held = refl; hand = refl; entries = refl; listed_orders = refl }
obeys_behind x (Interrupt m) os = record { obeyed = refl; position = refl; computed = refl; place = refl; held = refl; hand = refl; entries = refl; listed_orders = refl }
obeys_behind x (Time m v) os = record { obeyed = refl; position = refl; computed = refl; place = refl; held = refl; hand = refl; entries = refl; listed_orders = refl }
obeys_behind x (Stop m) os = record { obeyed = refl; position = refl; computed = refl; place = refl; held = refl; hand = refl; entries = refl; listed_orders = refl }
obeys_behind x (Sync m) os = record { obeyed = refl; position = refl; computed = refl; place = refl; held = refl; hand = refl; entries = refl; listed_orders = refl }

obey_is : (s : Setup) (r : DemandRun) (x : At) → event_on s r obey x ≡ record x { split = on_obey x.split.listed_orders x.split }
unfolding event_on event_at
obey_is s r x = refl

dropped : (listed : Buffer Order) → listed.items ≡ [] → buffer (drop 1 listed.items) listed.capacity ≡ listed
dropped listed none = ap (λ (os : List Order). buffer (drop 1 os) listed.capacity) none ∙ ap (λ (os : List Order). buffer os listed.capacity) (sym none)

module _ {D T : Type 0} (timed : Timed T) (laws : IsTimed timed) (s : Setup) (x : At) (state : SplitState D T) (h : StandsOn timed s x state) (listed : Buffer Order) (popped : listed ≡ buffer (drop 1 state.listed_orders.items) state.listed_orders.capacity) where
  items_are : state.listed_orders.items ≡ x.split.listed_orders
  items_are = ap (λ (b : Buffer Order). b.items) h.listed_orders

  pub nothing_obeyed : slice_get state.listed_orders.items 0 ≡ None → StandsOn timed s (event_on s (timed.run s) obey x) (record state { listed_orders = listed })
  nothing_obeyed front =
      let none : state.listed_orders.items ≡ [] = no_front state.listed_orders.items front in
      let P : Buffer Order → Type 0 = λ b. StandsOn timed s x (record state { listed_orders = b }) in
      still_stands timed laws s x (event_on s (timed.run s) obey x) (record state { listed_orders = listed })
      (obey_is s (timed.run s) x ∙ ap (λ (os : List Order). record x { split = on_obey os x.split }) (sym items_are ∙ none))
      (subst P (sym (popped ∙ dropped state.listed_orders none)) h)

  pub order_obeyed : (order : Order) (func : Walk D) (computed : Option Entry) → slice_get state.listed_orders.items 0 ≡ Some order →
      ((s : Setup) (os : List Order) → WalkStandsFor s os state.func → WalkStandsFor s (order ∷ os) func) → IsObeyed order state.func func →
      computed ≡ (if opens_epoch_of order then None else state.computed) →
      StandsOn timed s (event_on s (timed.run s) obey x) (record state { func = func; listed_orders = listed; computed = computed })
  order_obeyed order func computed front stands moved kept =
      let os = drop 1 x.split.listed_orders in
      let y = obeys order (record x.split { listed_orders = os }) in
      let is : IsBehind x.split order os y = obeys_behind x.split order os in
      let P : List Order → Type 0 = λ obeyed. WalkStandsFor {D = D} s obeyed func in
      still_stands timed laws s (record x { split = y }) (event_on s (timed.run s) obey x) (record state { func = func; listed_orders = listed; computed = computed })
      (obey_is s (timed.run s) x ∙ ap (λ (l : List Order). record x { split = on_obey l x.split }) (front_is x.split.listed_orders order (ap (λ (l : List Order). slice_get l 0) (sym items_are) ∙ front)))
      (record {
        func = subst P (sym is.obeyed) (stands s x.split.obeyed h.func);
        position = moved.position ∙ ap (position_by order) h.position ∙ sym is.position;
        time = h.time;
        held = h.held ∙ sym is.held;
        computed = kept ∙ ap (λ (o : Option Entry). if opens_epoch_of order then None else o) h.computed ∙ sym is.computed;
        hand = h.hand ∙ sym is.hand;
        entries = h.entries ∙ ap (λ (es : List Entry). buffer es s.ring) (sym is.entries);
        listed_orders = popped ∙ ap (λ (b : Buffer Order). buffer (drop 1 b.items) b.capacity) h.listed_orders ∙ ap (λ (l : List Order). buffer l 64) (sym is.listed_orders);
        rounds = h.rounds;
        steps = h.steps;
        going = h.going;
      })

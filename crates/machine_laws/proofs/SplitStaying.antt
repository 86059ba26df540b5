-- From one split state to a later one the functional side keeps what it has committed.
use Rattle.std.proofs.Common.{◌≡◌, ℕ, ◌+◌, ◌≤◌, ◌<◌, ◌==◌, ◌&&◌, is_none, nat_lt, true, Option, Some, None, List, [], ◌∷◌, ◌++◌, length, reverse, refl, ap, sym, ◌∙◌, subst, arith, ⊎_elim, append_assoc, length-append}
use Rattle.std.proofs.lemmas.List.{append_cancel_right}
use Rattle.std.proofs.lemmas.Bool.{cond_both, cases_lt, and_parts, eqb-true}
use Rattle.rollback_cmds.specs.declared.order.Order.{Order}
use Rattle.rollback_cmds.specs.declared.order.Order.TheVariants.{Set, Commit, Interrupt, Time, Stop, Sync}
use Rattle.trace_entry.specs.declared.Entry.{Entry}
use Rattle.mono_model.specs.declared.setup.Setup.{Setup}
use Rattle.mono_model.specs.Path.{entry}
use Rattle.mono_model.specs.Demand.{Place, place, told, step}
use Rattle.mono_model.specs.Split.{Split, Event, compute, push, obey, tick, take, send, may_compute, pushed, obeys, on_obey, may_tick, ticked_to, may_take, taken, on_take, sent, event_at, played, is_halted, is_cycle_start, is_place_boundary, is_boundary, rounds_to_boundary}
use Rattle.mono_model.proofs.Path.{path_below}
use Rattle.machine_laws.specs.Numbers.{last_commit, AreNumbered, AreAtCommit}
use Rattle.machine_laws.specs.Reached.{IsReached}
use Rattle.machine_laws.specs.SplitLaw.{IsLevelIn, IsRunIn}
use Rattle.machine_laws.specs.Stays.{KeepsBelow, KeepsAt, CommittedStays}
use Rattle.machine_laws.specs.Told.{AreTold}
use Rattle.machine_laws.specs.DemandRun.{DemandRun}
use Rattle.machine_laws.proofs.Laws.{IsDemandRun, grows_on, grows_to, still_from, last_place}
use Rattle.machine_laws.proofs.Making.{AreLater}
use Rattle.machine_laws.proofs.MonoRun.{mono_laws}
use Rattle.machine_laws.proofs.Numbering.{orders_numbered}
use Rattle.machine_laws.proofs.OrderSteps.{told_at_commit}
use Rattle.machine_laws.proofs.SplitCounts.{hand_front, numbered_behind}
use Rattle.machine_laws.proofs.SplitEvents.{event_to, event_is, played_keeps, rounds_keep}
use Rattle.machine_laws.proofs.SplitLists.{hand_list}
use Rattle.machine_laws.proofs.SplitReached.{event_reached, reached_run}
use Rattle.machine_laws.proofs.Staying.{TellsLater, tells_later, at_later}

-- A list of orders with these behind others.
pub record Extends (os all : List Order) : Type 0 where
  pub later : List Order
  pub is : all ≡ later ++ os

pub extends_none : (os : List Order) → Extends os os
extends_none os = record { later = []; is = refl }

pub extends_on : (os more all : List Order) → Extends os more → Extends more all → Extends os all
extends_on os more all front behind = record {
  later = behind.later ++ front.later;
  is = behind.is ∙ ap (λ (l : List Order). behind.later ++ l) front.is ∙ sym (append_assoc behind.later front.later os);
}

-- an event obeys one order more, or none
abbrev Obeys : Split → Split → Type 0
Obeys x y = Extends x.obeyed y.obeyed

none_obeyed : (x : Split) → Obeys x x
none_obeyed x = extends_none x.obeyed

order_obeyed : (o : Order) (os : List Order) (x : Split) → Obeys x (obeys o (record x { listed_orders = os }))
order_obeyed (Set m addr) os x = record { later = Set m addr ∷ []; is = refl }
order_obeyed (Commit m) os x = record { later = Commit m ∷ []; is = refl }
order_obeyed (Interrupt m) os x = record { later = Interrupt m ∷ []; is = refl }
order_obeyed (Time m v) os x = record { later = Time m v ∷ []; is = refl }
order_obeyed (Stop m) os x = record { later = Stop m ∷ []; is = refl }
order_obeyed (Sync m) os x = record { later = Sync m ∷ []; is = refl }

obey_obeyed : (listed : List Order) (x : Split) → Obeys x (on_obey listed x)
obey_obeyed [] x = none_obeyed x
obey_obeyed (o ∷ os) x = order_obeyed o os x

push_obeyed : (s : Setup) (computed : Option Entry) (x : Split) → Obeys x (pushed s computed x)
push_obeyed s None x = none_obeyed x
push_obeyed s (Some e) x =
    cond_both (nat_lt (length x.entries) s.ring) (record x { computed = None; entries = x.entries ++ e ∷ [] }) x (Obeys x) (λ room. none_obeyed x) (λ full. none_obeyed x)

take_obeyed : (entries : List Entry) (x : Split) → Obeys x (on_take entries x)
take_obeyed [] x = none_obeyed x
take_obeyed (e ∷ rest) x = cond_both (may_take x) (taken e rest x) x (Obeys x) (λ may. none_obeyed x) (λ not. none_obeyed x)

send_obeyed : (hand : Option Order) (x : Split) → Obeys x (sent hand x)
send_obeyed None x = none_obeyed x
send_obeyed (Some o) x =
    cond_both (nat_lt (length x.listed_orders) 64) (record x { hand = None; listed_orders = x.listed_orders ++ o ∷ [] }) x (Obeys x) (λ room. none_obeyed x) (λ full. none_obeyed x)

pub event_obeys : (s : Setup) (q : Place) (e : Event) (x : Split) → Obeys x (event_to s q e x)
unfolding event_to
event_obeys s q compute x =
    cond_both (may_compute s x) (record x { computed = Some (entry s x.obeyed x.position); position = x.position + 1 }) x (Obeys x) (λ may. none_obeyed x) (λ not. none_obeyed x)
event_obeys s q push x = push_obeyed s x.computed x
event_obeys s q obey x = obey_obeyed x.listed_orders x
event_obeys s q tick x = cond_both (may_tick x) (ticked_to q x) x (Obeys x) (λ may. none_obeyed x) (λ not. none_obeyed x)
event_obeys s q take x = take_obeyed x.entries x
event_obeys s q send x = send_obeyed x.hand x

-- Orders obeyed behind others commit nothing below what these have committed.
pub rises : (os later : List Order) → AreAtCommit (later ++ os) → last_commit os ≤ last_commit (later ++ os)
rises os [] are = omega arith
rises os (Set m addr ∷ later) are = rises os later are.1
rises os (Commit m ∷ later) are = omega (arith, rises os later are.1, are.0)
rises os (Interrupt m ∷ later) are = rises os later are.1
rises os (Time m v ∷ later) are = rises os later are.1
rises os (Stop m ∷ later) are = rises os later are.1
rises os (Sync m ∷ later) are = rises os later are.1

keeps_below : (s : Setup) (os later : List Order) → AreNumbered s (later ++ os) → AreAtCommit (later ++ os) → KeepsBelow s (last_commit os) os later
keeps_below s os [] numbered kinds i under = refl
keeps_below s os (o ∷ later) numbered kinds i under =
    path_below s o (later ++ os) i (omega (arith, numbered.0.least, rises os later kinds.1)) ∙ keeps_below s os later numbered.1 kinds.1 i under

later_front : (n : ℕ) (xs ys : List Order) → AreLater n (xs ++ ys) → AreLater n ys
later_front n [] ys are = are
later_front n (o ∷ xs) ys are = later_front n xs ys are.1

no_more : (more later os : List Order) → os ≡ more ++ (later ++ os) → later ≡ []
no_more more [] os is = refl
no_more more (o ∷ later) os is =
    absurd (omega (arith, ap (λ (l : List Order). length l) is, length-append more (o ∷ (later ++ os)), length-append later os))

module _ {s : Setup} {r : DemandRun} (laws : IsDemandRun s r) where
  -- the orders obeyed are the first of those told
  pub obeyed_first : (x : Split) → (is : IsRunIn s r x) → Extends x.obeyed (told (r.places is.steps))
  obeyed_first x is =
      let front = hand_list x.hand ++ reverse x.listed_orders in
      subst (λ (p : Place). Extends x.obeyed (told p)) is.at
      (record { later = front; is = is.orders ∙ hand_front x.hand (reverse x.listed_orders ++ x.obeyed) ∙ sym (append_assoc (hand_list x.hand) (reverse x.listed_orders) x.obeyed) })

  -- at the end all are
  pub ended_obeys : (x y : Split) → 1 ≤ s.cycles → IsRunIn s r x → IsRunIn s r y → is_halted y.place.run.at ≡ true → is_boundary y ≡ true → Obeys x y
  ended_obeys x y limited from to over at =
      let level : IsLevelIn s r y = to.level at in
      let last : r.places to.steps ≡ r.places r.bound = last_place laws limited to.steps (ap (λ (p : Place). is_halted p.run.at) (sym to.at) ∙ over) in
      let still : r.places (r.bound + from.steps) ≡ r.places r.bound = still_from laws limited (r.bound + from.steps) (omega arith) in
      let more = grows_on laws from.steps r.bound in
      let all : told (r.places (r.bound + from.steps)) ≡ y.obeyed =
      ap (λ (p : Place). told p) (still ∙ sym last ∙ sym to.at) ∙ sym level.obeyed in
      subst (λ (os : List Order). Extends x.obeyed os) all
      (extends_on x.obeyed (told (r.places from.steps)) (told (r.places (r.bound + from.steps))) (obeyed_first x from) (record { later = more.later; is = more.orders }))

  -- The orders told from a place with none owed on speak of what isn't committed there.
  module _ (settled : (k l : ℕ) → (r.places k).owed ≡ 0 → k ≤ l → TellsLater (r.places k) (r.places l)) where
    pub later_than : (k l : ℕ) (ahead later : List Order) → (r.places k).owed ≡ 0 → told (r.places l) ≡ ahead ++ (later ++ told (r.places k)) → AreLater (r.places k).run.demand.to_commit later
    later_than k l ahead later all is = ⊎_elim before behind (cases_lt l k)
      where
        n : ℕ
        n = (r.places k).run.demand.to_commit

        behind : k ≤ l → AreLater n later
        behind less =
            let t = settled k l all less in
            later_front n ahead later
            (subst (AreLater n) (append_cancel_right t.later (ahead ++ later) (told (r.places k)) (sym t.orders ∙ is ∙ sym (append_assoc ahead later (told (r.places k))))) t.are)

        before : l < k → AreLater n later
        before more =
            let t = grows_to laws l k (omega arith) in
            let os = told (r.places k) in
            let none : later ≡ [] =
            no_more (t.later ++ ahead) later os (t.orders ∙ ap (λ (l : List Order). t.later ++ l) is ∙ sym (append_assoc t.later ahead (later ++ os))) in
            subst (AreLater n) (sym none) tt

    pub committed_stays : (x y : Split) → IsRunIn s r x → IsRunIn s r y → Obeys x y → CommittedStays s x y
    committed_stays x y from to more =
        let all = obeyed_first y to in
        let numbered : AreNumbered s (more.later ++ x.obeyed) =
        subst (AreNumbered s) more.is (numbered_behind s all.later y.obeyed (subst (AreNumbered s) all.is (laws.numbered to.steps))) in
        let kinds : AreAtCommit (more.later ++ x.obeyed) = subst AreAtCommit more.is to.kinds in
        record {
          later = more.later;
          obeyed = more.is;
          number = omega (arith, from.counted.committed, to.counted.committed, rises x.obeyed more.later kinds, ap (λ (os : List Order). last_commit os) more.is);
          below = subst (λ (n : ℕ). KeepsBelow s n x.obeyed more.later) (sym from.counted.committed) (keeps_below s x.obeyed more.later numbered kinds);
          at = λ boundary.
              let level : IsLevelIn s r x = from.level boundary in
              let parts = and_parts (is_place_boundary x.place && is_none x.hand) (length x.listed_orders == 0) boundary in
              let there = and_parts (is_place_boundary x.place) (is_none x.hand) parts.0 in
              let none : x.place.owed ≡ 0 = eqb-true x.place.owed 0 (and_parts (x.place.owed == 0) (is_cycle_start x.place.run.at) there.0).0 in
              let first : x.obeyed ≡ told (r.places from.steps) = level.obeyed ∙ ap (λ (p : Place). told p) from.at in
              let number : x.committed_number ≡ (r.places from.steps).run.demand.to_commit = level.to_commit ∙ ap (λ (p : Place). p.run.demand.to_commit) from.at in
              let told_is : told (r.places to.steps) ≡ all.later ++ (more.later ++ told (r.places from.steps)) =
              all.is ∙ ap (λ (os : List Order). all.later ++ os) (more.is ∙ ap (λ (os : List Order). more.later ++ os) first) in
              at_later s x.committed_number more.later x.obeyed
              (subst (λ (n : ℕ). AreLater n more.later) (sym number)
              (later_than from.steps to.steps all.later more.later (ap (λ (p : Place). p.owed) (sym from.at) ∙ none) told_is));
        }

-- of the monolithic machine's split state
module _ (s : Setup) (x : Split) (reached : IsReached s x) where
  stays_to : (y : Split) → IsReached s y → Obeys x y → CommittedStays s x y
  stays_to y to more = committed_stays (mono_laws s) (tells_later s) x y (reached_run s x reached) (reached_run s y to) more

  -- a later state
  abbrev IsBehind : Split → Type 0
  IsBehind y = IsReached s y × Obeys x y

  event_behind : (e : Event) (y : Split) → IsBehind y → IsBehind (event_at s e y)
  event_behind e y is = (
    event_reached s e y is.0,
    extends_on x.obeyed y.obeyed (event_at s e y).obeyed is.1 (subst (Obeys y) (sym (event_is s e y)) (event_obeys s (step s y.place) e y)),
  )

  behind : (y : Split) → IsBehind y → CommittedStays s x y
  behind y is = stays_to y is.0 is.1

pub events_stay : (s : Setup) (events : List Event) (x : Split) → IsReached s x → CommittedStays s x (played s events x)
events_stay s events x reached =
    behind s x reached (played s events x) (played_keeps s (IsBehind s x reached) (event_behind s x reached) events x (reached, none_obeyed x))

pub rounds_stay : (s : Setup) (n : ℕ) (x : Split) → IsReached s x → CommittedStays s x (rounds_to_boundary s n x)
rounds_stay s n x reached =
    behind s x reached (rounds_to_boundary s n x) (rounds_keep s (IsBehind s x reached) (event_behind s x reached) n x (reached, none_obeyed x))

pub end_stays : (s : Setup) (x y : Split) → 1 ≤ s.cycles → IsReached s x → IsReached s y → is_halted y.place.run.at ≡ true → is_boundary y ≡ true → CommittedStays s x y
end_stays s x y limited reached to over at =
    stays_to s x reached y to (ended_obeys (mono_laws s) x y limited (reached_run s x reached) (reached_run s y to) over at)

-- Of a functional side that obeys the orders told, one after the other.
module _ (s : Setup) (os later : List Order) (are : AreTold s (later ++ os)) where
  pub told_rises : last_commit os ≤ last_commit (later ++ os)
  told_rises = rises os later (told_at_commit s (later ++ os) are)

  pub told_below : KeepsBelow s (last_commit os) os later
  told_below = keeps_below s os later (subst (AreNumbered s) are.are (orders_numbered s are.steps)) (told_at_commit s (later ++ os) are)

pub told_at : (s : Setup) (k : ℕ) (later : List Order) → (place s k).owed ≡ 0 → AreTold s (later ++ told (place s k)) → KeepsAt s (place s k).run.demand.to_commit (told (place s k)) later
told_at s k later all are =
    at_later s (place s k).run.demand.to_commit later (told (place s k)) (later_than (mono_laws s) (tells_later s) k are.steps [] later all are.are)

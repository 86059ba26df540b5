-- How far the functional side is ahead: entries of the timing side's epoch have the numbers from that of the record to
-- fetch on, up to the position; and no order speaks of an instruction above the position at which it is obeyed.
use Rattle.std.proofs.Common.{◌≡◌, ◌⊎◌, ℕ, zero, suc, ◌+◌, ◌≤◌, ◌<◌, nat_lt, ◌==◌, ◌&&◌, ◌||◌, not, if◌then◌else◌, is_none, Bool, true, false, Option, Some, None, IfSome, List, [], ◌∷◌, ◌++◌, length, refl, ap, sym, ◌∙◌, subst, arith, inl, inr, ⊎_elim, append_assoc}
use Rattle.std.proofs.lemmas.Bool.{cond_both, cond-true, cond-false, and_parts, eq-eqb, eqb-true, eqb-false, or_left, or_from}
use mathlib.Core.List.{append-nil}
use Rattle.rollback_cmds.specs.declared.order.Order.{Order}
use Rattle.rollback_cmds.specs.declared.order.Order.TheVariants.{Set, Commit, Interrupt, Time, Stop, Sync}
use Rattle.rollback_cmds.specs.Order.{opens_epoch_of}
use Rattle.trace_entry.specs.declared.Entry.{Entry}
use Rattle.mono_model.specs.declared.setup.Setup.{Setup}
use Rattle.mono_model.specs.Machine.{machine_start}
use Rattle.mono_model.specs.Path.{entry, openings, stops}
use Rattle.mono_model.specs.Sequence.{entry_at}
use Rattle.mono_model.specs.Demand.{next, Place, told, needs_entry, number_of}
use Rattle.mono_model.specs.Split.{Split, split_start, Event, room, goes_to, compute, push, obey, tick, take, send, may_compute, on_compute, pushed, obeys, on_obey, is_halted, may_tick, told_by, opens, has_appended, held_after, ticked_to, may_take, taken, on_take, sent}
use Rattle.machine_laws.proofs.Telling.{by_none, by_one}
use Rattle.machine_laws.specs.DemandRun.{DemandRun}
use Rattle.machine_laws.proofs.Laws.{IsDemandRun, stepped_from}
use Rattle.machine_laws.proofs.SplitEvents.{tick_to, event_to}
use Rattle.machine_laws.proofs.SplitOrders.{IsOrdered, none_is, may_hand}
use Rattle.machine_laws.proofs.SplitTurns.{one}
use Rattle.machine_laws.proofs.SplitSteps.{Owes, owes_none, owes_one, Steps, tells_none, tells_commit, tells_opening, tells_stop, Stepped}
use Rattle.machine_laws.proofs.SplitLists.{position_by, position_behind, AreReached, opening_position, position_last, reached_last, reached_further, position_stays, position_same, hand_list, openings_told, entry_list, Lead, EpochsAtMost, lead_last, lead_stale, lead_without, lead_none, lead_most, lead_front, lead_rest, most_append, most_front, most_behind, most_further}

-- the orders that wait, the first in front
abbrev pub pending : Split → List Order
pending x = x.listed_orders ++ hand_list x.hand

-- the entries under way, the first in front
abbrev pub flight : Split → List Entry
flight x = entry_list x.held ++ (x.entries ++ entry_list x.computed)

-- the position once all orders that wait are obeyed
abbrev pub goal_position : Split → ℕ
goal_position x = position_behind (pending x) x.position

abbrev pub Stopless : List Order → Type 0
Stopless [] = Unit {0}
Stopless (o ∷ os) = (stops o ≡ false) × Stopless os

abbrev pub StopLast : List Order → Type 0
StopLast [] = Unit {0}
StopLast (o ∷ os) = Stopless os

pub record IsAhead (x : Split) : Type 0 where
  pub owes : Owes x.place
  pub going : is_halted x.place.run.at ≡ false → Stopless (told x.place)
  pub last : StopLast (told x.place)
  pub reached : AreReached x.position (pending x)
  pub below : is_halted x.place.run.at ≡ false → next x.place.run.demand ≤ goal_position x
  pub lead : is_halted x.place.run.at ≡ false → x.place.owed ≡ 0 → Lead (openings (told x.place)) (next x.place.run.demand) (flight x) (goal_position x)
  pub epochs : EpochsAtMost (openings x.obeyed) (flight x)
  pub held : IfSome x.held (λ e. e.epoch ≡ openings (told x.place))

pub start_ahead : (s : Setup) → IsAhead (split_start s)
unfolding split_start machine_start
start_ahead s = record {
  owes = owes_none refl;
  going = λ on. tt;
  last = tt;
  reached = tt;
  below = λ on. omega arith;
  lead = λ on all. refl;
  epochs = tt;
  held = tt;
}

-- orders that wait or were obeyed are those told
pub told_openings : {r : DemandRun} (x : Split) → IsOrdered r x → openings (told x.place) ≡ openings (pending x) + openings x.obeyed
told_openings x ordered = ap (λ (os : List Order). openings os) ordered.orders ∙ openings_told x.hand x.listed_orders x.obeyed

pub entry_epoch : (s : Setup) (os : List Order) (n : ℕ) → (entry s os n).epoch ≡ openings os
unfolding entry entry_at
entry_epoch s os n = refl

pub entry_number : (s : Setup) (os : List Order) (n : ℕ) → (entry s os n).number ≡ n
unfolding entry entry_at
entry_number s os n = refl

-- Compute.
pub flight_more : (h : Option Entry) (es : List Entry) (e : Entry) → (entry_list h ++ (es ++ entry_list None)) ++ e ∷ [] ≡ entry_list h ++ (es ++ entry_list (Some e))
flight_more h es e = append_assoc (entry_list h) (es ++ []) (e ∷ []) ∙ ap (λ (l : List Entry). entry_list h ++ l) (ap (λ (l : List Entry). l ++ e ∷ []) (append-nil es))

pending_cases : (k : ℕ) → (k ≡ 0) ⊎ (0 < k)
pending_cases zero = inl refl
pending_cases (suc k) = inr (omega arith)

module _ (s : Setup) {r : DemandRun} (x : Split) (ordered : IsOrdered r x) (is : IsAhead x) where
  computed_more : x.computed ≡ None → IsAhead (record x { computed = Some (entry s x.obeyed x.position); position = x.position + 1 })
  computed_more none = record {
    owes = is.owes;
    going = is.going;
    last = is.last;
    reached = reached_further (pending x) x.position (x.position + 1) (omega arith) is.reached;
    below = λ on. omega (arith, is.below on, further);
    lead = λ on all. subst (λ (l : List Entry). Lead epoch n l (position_behind (pending x) (x.position + 1))) (flight_more x.held x.entries e) (leads (subst (λ (l : List Entry). Lead epoch n l (goal_position x)) flies (is.lead on all)));
    epochs = subst (EpochsAtMost (openings x.obeyed)) (flight_more x.held x.entries e)
        (most_append (openings x.obeyed) front (e ∷ []) (subst (EpochsAtMost (openings x.obeyed)) flies is.epochs) (omega (arith, entry_epoch s x.obeyed x.position), tt));
    held = is.held;
  }
    where
      e : Entry
      e = entry s x.obeyed x.position

      epoch : ℕ
      epoch = openings (told x.place)

      n : ℕ
      n = next x.place.run.demand

      front : List Entry
      front = entry_list x.held ++ (x.entries ++ entry_list None)

      flies : flight x ≡ front
      flies = ap (λ (c : Option Entry). entry_list x.held ++ (x.entries ++ entry_list c)) none

      further : goal_position x ≤ position_behind (pending x) (x.position + 1)
      further = ⊎_elim
          (λ zero. omega (arith, position_stays (pending x) x.position zero, position_stays (pending x) (x.position + 1) zero))
          (λ some. omega (arith, position_same (pending x) x.position (x.position + 1) some))
          (pending_cases (openings (pending x)))

      leads : Lead epoch n front (goal_position x) → Lead epoch n (front ++ e ∷ []) (position_behind (pending x) (x.position + 1))
      leads lead = ⊎_elim
          (λ zero. subst (Lead epoch n (front ++ e ∷ [])) (omega (arith, position_stays (pending x) x.position zero, position_stays (pending x) (x.position + 1) zero))
          (lead_last epoch n (goal_position x) front e (omega (arith, entry_epoch s x.obeyed x.position, told_openings x ordered)) (omega (arith, entry_number s x.obeyed x.position, position_stays (pending x) x.position zero)) lead))
          (λ some. subst (Lead epoch n (front ++ e ∷ [])) (position_same (pending x) x.position (x.position + 1) some)
          (lead_stale epoch n (goal_position x) front e (omega (arith, entry_epoch s x.obeyed x.position, told_openings x ordered)) lead))
          (pending_cases (openings (pending x)))

  may_computed : may_compute s x ≡ true → x.computed ≡ None
  may_computed may =
      none_is x.computed (and_parts (is_none x.computed) (not x.is_stopped) (and_parts (is_none x.computed && not x.is_stopped) (nat_lt x.position (x.committed_number + room s)) may).0).0

  compute_ahead : IsAhead (on_compute s x)
  compute_ahead =
      cond_both (may_compute s x) (record x { computed = Some (entry s x.obeyed x.position); position = x.position + 1 }) x IsAhead (λ may. computed_more (may_computed may)) (λ may. is)

  -- Push.
  push_ahead : (c : Option Entry) → x.computed ≡ c → IsAhead (pushed s c x)
  push_ahead None e = is
  push_ahead (Some a) e =
      cond_both (nat_lt (length x.entries) s.ring) (record x { computed = None; entries = x.entries ++ a ∷ [] }) x IsAhead
      (λ may. record {
        owes = is.owes;
        going = is.going;
        last = is.last;
        reached = is.reached;
        below = is.below;
        lead = λ on all. subst (λ (l : List Entry). Lead (openings (told x.place)) (next x.place.run.demand) l (goal_position x)) flies (is.lead on all);
        epochs = subst (EpochsAtMost (openings x.obeyed)) flies is.epochs;
        held = is.held;
      })
      (λ may. is)
    where
      flies : flight x ≡ entry_list x.held ++ ((x.entries ++ a ∷ []) ++ [])
      flies = ap (λ (c : Option Entry). entry_list x.held ++ (x.entries ++ entry_list c)) e ∙ ap (λ (l : List Entry). entry_list x.held ++ l) (sym (append-nil (x.entries ++ a ∷ [])))

  -- Obey.
  without_computed : (c : Option Entry) (epoch n m k : ℕ) → k < epoch → EpochsAtMost k (entry_list x.held ++ (x.entries ++ entry_list c)) → Lead epoch n (entry_list x.held ++ (x.entries ++ entry_list c)) m →
      Lead epoch n (entry_list x.held ++ (x.entries ++ [])) m
  without_computed None epoch n m k less most lead = lead
  without_computed (Some a) epoch n m k less most lead =
      lead_without epoch n m (entry_list x.held ++ (x.entries ++ [])) a
      (omega (arith, (most_behind k x.entries (a ∷ []) (most_behind k (entry_list x.held) (x.entries ++ a ∷ []) most)).0))
      (subst (λ (l : List Entry). Lead epoch n l m) (sym (flight_more x.held x.entries a)) lead)

  fewer_computed : (c : Option Entry) (k : ℕ) → EpochsAtMost k (entry_list x.held ++ (x.entries ++ entry_list c)) → EpochsAtMost k (entry_list x.held ++ (x.entries ++ []))
  fewer_computed None k most = most
  fewer_computed (Some a) k most = most_front k (entry_list x.held ++ (x.entries ++ [])) (a ∷ []) (subst (EpochsAtMost k) (sym (flight_more x.held x.entries a)) most)

  module _ (o : Order) (os : List Order) (e : x.listed_orders ≡ o ∷ os) where
    waiting : pending x ≡ o ∷ (os ++ hand_list x.hand)
    waiting = ap (λ (l : List Order). l ++ hand_list x.hand) e

    goal : goal_position x ≡ position_behind (os ++ hand_list x.hand) (position_by o x.position)
    goal = ap (λ (l : List Order). position_behind l x.position) waiting

    behind_reached : AreReached (position_by o x.position) (os ++ hand_list x.hand)
    behind_reached = (subst (AreReached x.position) waiting is.reached).1

    went_ahead : (n : ℕ) → opens_epoch_of o ≡ true → position_by o x.position ≡ n → IsAhead (goes_to o n (record x { listed_orders = os }))
    went_ahead n opening at = record {
      owes = is.owes;
      going = is.going;
      last = is.last;
      reached = subst (λ (k : ℕ). AreReached k (os ++ hand_list x.hand)) at behind_reached;
      below = λ on. omega (arith, is.below on, goal, ap (position_behind (os ++ hand_list x.hand)) at);
      lead = λ on all.
          subst (Lead (openings (told x.place)) (next x.place.run.demand) (entry_list x.held ++ (x.entries ++ []))) (goal ∙ ap (position_behind (os ++ hand_list x.hand)) at)
          (without_computed x.computed (openings (told x.place)) (next x.place.run.demand) (goal_position x) (openings x.obeyed) older is.epochs (is.lead on all));
      epochs = most_further (openings x.obeyed) (openings (o ∷ x.obeyed)) (entry_list x.held ++ (x.entries ++ [])) (omega arith) (fewer_computed x.computed (openings x.obeyed) is.epochs);
      held = is.held;
    }
      where
        opened : openings (o ∷ (os ++ hand_list x.hand)) ≡ 1 + openings (os ++ hand_list x.hand)
        opened = ap (λ (b : Bool). (if b then 1 else 0) + openings (os ++ hand_list x.hand)) opening

        older : openings x.obeyed < openings (told x.place)
        older = omega (arith, told_openings x ordered, ap (λ (l : List Order). openings l) waiting, opened)

    committed_ahead : (n : ℕ) → o ≡ Commit n → IsAhead (record (record x { listed_orders = os }) { obeyed = Commit n ∷ x.obeyed; committed_number = n })
    committed_ahead n at = record {
      owes = is.owes;
      going = is.going;
      last = is.last;
      reached = subst (λ (k : ℕ). AreReached k (os ++ hand_list x.hand)) stays behind_reached;
      below = λ on. omega (arith, is.below on, goal, ap (position_behind (os ++ hand_list x.hand)) stays);
      lead = λ on all. subst (Lead (openings (told x.place)) (next x.place.run.demand) (flight x)) (goal ∙ ap (position_behind (os ++ hand_list x.hand)) stays) (is.lead on all);
      epochs = most_further (openings x.obeyed) (openings (Commit n ∷ x.obeyed)) (flight x) (omega arith) is.epochs;
      held = is.held;
    }
      where
        stays : position_by o x.position ≡ x.position
        stays = ap (λ (a : Order). position_by a x.position) at

same_ahead : (x : Split) (n : ℕ) (b : Bool) → IsAhead x → IsAhead (record x { committed_number = n; is_stopped = b })
same_ahead x n b is = record { owes = is.owes; going = is.going; last = is.last; reached = is.reached; below = is.below; lead = is.lead; epochs = is.epochs; held = is.held }

order_ahead : (s : Setup) {r : DemandRun} (o : Order) (os : List Order) (x : Split) → IsOrdered r x → IsAhead x → x.listed_orders ≡ o ∷ os → IsAhead (obeys o (record x { listed_orders = os }))
order_ahead s (Set n addr) os x ordered is e = went_ahead s x ordered is (Set n addr) os e n refl refl
order_ahead s (Commit n) os x ordered is e = committed_ahead s x ordered is (Commit n) os e n refl
order_ahead s (Interrupt n) os x ordered is e = same_ahead (goes_to (Interrupt n) n (record x { listed_orders = os })) n x.is_stopped (went_ahead s x ordered is (Interrupt n) os e n refl refl)
order_ahead s (Time n v) os x ordered is e = went_ahead s x ordered is (Time n v) os e n refl refl
order_ahead s (Stop n) os x ordered is e = same_ahead (goes_to (Stop n) n (record x { listed_orders = os })) x.committed_number true (went_ahead s x ordered is (Stop n) os e n refl refl)
order_ahead s (Sync n) os x ordered is e = same_ahead (goes_to (Sync n) n (record x { listed_orders = os })) n x.is_stopped (went_ahead s x ordered is (Sync n) os e n refl refl)

obey_ahead : (s : Setup) {r : DemandRun} (l : List Order) (x : Split) → x.listed_orders ≡ l → IsOrdered r x → IsAhead x → IsAhead (on_obey l x)
obey_ahead s [] x e ordered is = is
obey_ahead s (o ∷ os) x e ordered is = order_ahead s o os x ordered is e

-- Tick.
pub may_go : (x : Split) → may_tick x ≡ true → not (is_halted x.place.run.at && x.place.owed == 0) ≡ true
may_go x may =
    (and_parts (is_none x.hand) (not (is_halted x.place.run.at && x.place.owed == 0))
    (and_parts (is_none x.hand && not (is_halted x.place.run.at && x.place.owed == 0)) (not (needs_entry x.place && is_none x.held)) may).0).1

pub may_use : (x : Split) → may_tick x ≡ true → not (needs_entry x.place && is_none x.held) ≡ true
may_use x may = (and_parts (is_none x.hand && not (is_halted x.place.run.at && x.place.owed == 0)) (not (needs_entry x.place && is_none x.held)) may).1

runs_on : (b c : Bool) → not (b && c) ≡ true → c ≡ true → b ≡ false
runs_on true true is e = cc
runs_on true false is e = cc
runs_on false c is e = refl

pub not_halted : (x : Split) → may_tick x ≡ true → Owes x.place → is_halted x.place.run.at ≡ false
not_halted x may (owes_none all) = runs_on (is_halted x.place.run.at) (x.place.owed == 0) (may_go x may) (eq-eqb x.place.owed 0 all)
not_halted x may (owes_one all m o os orders opening on) = on

some_held : (b : Bool) (h : Option Entry) → not (b && is_none h) ≡ true → b ≡ true → (e : Entry) × (h ≡ Some e)
some_held b (Some e) is needed = (e, refl)
some_held true None is needed = cc
some_held false None is needed = cc

pub needs_none : (owed : ℕ) (b : Bool) → (if owed == 0 then b else false) ≡ true → owed ≡ 0
needs_none owed b is = by_test (owed == 0) refl is
  where
    by_test : (t : Bool) → (owed == 0) ≡ t → (if t then b else false) ≡ true → owed ≡ 0
    by_test true e is = eqb-true owed 0 e
    by_test false e is = cc

-- what a step does with the held entry, where it tells no opening
abbrev after_use : Bool → Option Entry → Option Entry
after_use true h = None
after_use false h = h

kept_by : (o : Option Order) (p q : Place) (h : Option Entry) (a : Bool) → opens o ≡ false → has_appended p q ≡ a → held_after o p q h ≡ after_use a h
kept_by o p q h true none has = cond-true (opens o || has_appended p q) None h (or_right (opens o) (has_appended p q) has)
  where
    or_right : (b c : Bool) → c ≡ true → (b || c) ≡ true
    or_right true c e = refl
    or_right false c e = e
kept_by o p q h false none has = cond-false (opens o || has_appended p q) None h (or_from (opens o) (has_appended p q) none has)

pub dropped_by : (o : Option Order) (p q : Place) (h : Option Entry) → opens o ≡ true → held_after o p q h ≡ None
dropped_by o p q h opening = cond-true (opens o || has_appended p q) None h (or_left (opens o) (has_appended p q) opening)

-- a record appended uses the held entry
used_lead : (a : Bool) (h : Option Entry) (rest : List Entry) (epoch n m : ℕ) → (a ≡ true → (e : Entry) × (h ≡ Some e)) → IfSome h (λ e. e.epoch ≡ epoch) → Lead epoch n (entry_list h ++ rest) m →
    Lead epoch (n + one a) (entry_list (after_use a h) ++ rest) m
used_lead true None rest epoch n m some at lead = let e = some refl in cc (e.1)
used_lead true (Some e) rest epoch n m some at lead =
    let k : suc n ≡ n + one true = omega arith in
    subst (λ (i : ℕ). Lead epoch i rest m) k (lead_front epoch n m e rest at lead).1
used_lead false h rest epoch n m some at lead =
    let k : n ≡ n + one false = omega arith in
    subst (λ (i : ℕ). Lead epoch i (entry_list h ++ rest) m) k lead

used_most : (a : Bool) (h : Option Entry) (rest : List Entry) (k : ℕ) → EpochsAtMost k (entry_list h ++ rest) → EpochsAtMost k (entry_list (after_use a h) ++ rest)
used_most true h rest k most = most_behind k (entry_list h) rest most
used_most false h rest k most = most

used_held : (a : Bool) (h : Option Entry) (epoch : ℕ) → IfSome h (λ e. e.epoch ≡ epoch) → IfSome (after_use a h) (λ e. e.epoch ≡ epoch)
used_held true h epoch at = tt
used_held false h epoch at = at

module _ (x : Split) (is : IsAhead x) (q : Place) (stepped : Stepped x.place q) (may : may_tick x ≡ true) (obeyed_fewer : openings x.obeyed ≤ openings (told x.place)) where
  a : Bool
  a = stepped.appends

  on_there : is_halted x.place.run.at ≡ false
  on_there = not_halted x may is.owes

  empty : pending x ≡ x.listed_orders
  empty = ap (λ (h : Option Order). x.listed_orders ++ hand_list h) (may_hand x may) ∙ append-nil x.listed_orders

  with_hand : (o : Order) → position_behind (x.listed_orders ++ o ∷ []) x.position ≡ position_by o (goal_position x)
  with_hand o = position_last x.listed_orders o x.position ∙ ap (λ (l : List Order). position_by o (position_behind l x.position)) (sym empty)

  has_held : a ≡ true → (e : Entry) × (x.held ≡ Some e)
  unfolding a
  has_held is_a = some_held (needs_entry x.place) x.held (may_use x may) (stepped.needs is_a)

  lead_there : x.place.owed ≡ 0 → Lead (openings (told x.place)) (next x.place.run.demand + one a) (entry_list (after_use a x.held) ++ (x.entries ++ entry_list x.computed)) (goal_position x)
  lead_there all =
      used_lead a x.held (x.entries ++ entry_list x.computed) (openings (told x.place)) (next x.place.run.demand) (goal_position x) has_held is.held (is.lead on_there all)

  within_by : (b : Bool) → a ≡ b → next x.place.run.demand + one b ≤ goal_position x
  unfolding a
  within_by true e =
      let all = needs_none x.place.owed _ (stepped.needs e) in
      subst (λ (b : Bool). next x.place.run.demand + one b ≤ goal_position x) e
      (lead_most (openings (told x.place)) (next x.place.run.demand + one a) (goal_position x) (entry_list (after_use a x.held) ++ (x.entries ++ entry_list x.computed)) (lead_there all))
  within_by false e = omega (arith, is.below on_there)

  within : next x.place.run.demand + one a ≤ goal_position x
  within = within_by a refl

  told_last : (o : Order) → number_of o ≤ goal_position x → AreReached x.position (x.listed_orders ++ o ∷ [])
  told_last o most = reached_last x.listed_orders o x.position (subst (AreReached x.position) empty is.reached) (omega (arith, ap (λ (l : List Order). position_behind l x.position) empty))

  abbrev ticked_with : Option Order → Option Entry → Split
  ticked_with o h = record x { place = q; hand = o; held = h }

  by_parts : (o : Option Order) (h : Option Entry) → told_by x.place q ≡ o → held_after o x.place q x.held ≡ h → IsAhead (ticked_with o h) → IsAhead (ticked_to q x)
  by_parts o h tells keeps ahead =
      subst (λ (b : Option Order). IsAhead (ticked_with b (held_after b x.place q x.held))) (sym tells)
      (subst (λ (c : Option Entry). IsAhead (ticked_with o c)) (sym keeps) ahead)

  by_made : Steps (next x.place.run.demand + one a) x.place q → IsAhead (ticked_to q x)
  unfolding a
  by_made (tells_none all is_told to none on) =
      by_parts None (after_use a x.held) (by_none x.place q is_told) (kept_by None x.place q x.held a refl stepped.has) (record {
        owes = stepped.owes;
        going = λ on. subst Stopless (sym is_told) (is.going on_there);
        last = subst StopLast (sym is_told) is.last;
        reached = subst (AreReached x.position) (empty ∙ sym (append-nil x.listed_orders)) is.reached;
        below = λ on. omega (arith, to, within, same);
        lead = λ on none. subst (λ (n : ℕ). Lead (openings (told q)) n flies (position_behind (x.listed_orders ++ []) x.position)) (sym to)
            (subst (λ (n : ℕ). Lead (openings (told q)) (next x.place.run.demand + one a) flies n) same
            (subst (λ (os : List Order). Lead (openings os) (next x.place.run.demand + one a) flies (goal_position x)) (sym is_told) (lead_there all)));
        epochs = used_most a x.held (x.entries ++ entry_list x.computed) (openings x.obeyed) is.epochs;
        held = subst (λ (os : List Order). IfSome (after_use a x.held) (λ e. e.epoch ≡ openings os)) (sym is_told) (used_held a x.held (openings (told x.place)) is.held);
      })
    where
      flies : List Entry
      flies = entry_list (after_use a x.held) ++ (x.entries ++ entry_list x.computed)

      same : goal_position x ≡ position_behind (x.listed_orders ++ []) x.position
      same = ap (λ (l : List Order). position_behind l x.position) (empty ∙ sym (append-nil x.listed_orders))
  by_made (tells_commit m all is_told least most to on) =
      by_parts (Some (Commit m)) (after_use a x.held) (by_one x.place q (Commit m) is_told) (kept_by (Some (Commit m)) x.place q x.held a refl stepped.has) (record {
        owes = stepped.owes;
        going = λ on. subst Stopless (sym is_told) (refl, is.going on_there);
        last = subst StopLast (sym is_told) (is.going on_there);
        reached = told_last (Commit m) (omega (arith, within));
        below = λ on. omega (arith, within, with_hand (Commit m));
        lead = λ on none. subst (λ (n : ℕ). Lead (openings (told q)) n flies (position_behind (x.listed_orders ++ Commit m ∷ []) x.position)) (sym (to none))
            (subst (λ (n : ℕ). Lead (openings (told q)) (next x.place.run.demand + one a) flies n) (sym (with_hand (Commit m)))
            (subst (λ (k : ℕ). Lead k (next x.place.run.demand + one a) flies (goal_position x)) epoch (lead_there all)));
        epochs = used_most a x.held (x.entries ++ entry_list x.computed) (openings x.obeyed) is.epochs;
        held = subst (λ (k : ℕ). IfSome (after_use a x.held) (λ e. e.epoch ≡ k)) epoch (used_held a x.held (openings (told x.place)) is.held);
      })
    where
      flies : List Entry
      flies = entry_list (after_use a x.held) ++ (x.entries ++ entry_list x.computed)

      epoch : openings (told x.place) ≡ openings (told q)
      epoch = omega (arith, ap (λ (os : List Order). openings os) is_told)
  by_made (tells_opening o is_told opening most none on) =
      by_parts (Some o) None (by_one x.place q o is_told) (dropped_by (Some o) x.place q x.held opening.opens) (record {
        owes = stepped.owes;
        going = λ on. subst Stopless (sym is_told) (opening.runs, is.going on_there);
        last = subst StopLast (sym is_told) (is.going on_there);
        reached = told_last o (omega (arith, within, opening.number));
        below = λ on. omega (arith, goal);
        lead = λ on none. subst (Lead (openings (told q)) (next q.run.demand) flies) (sym goal) (lead_none (openings (told q)) (next q.run.demand) (openings x.obeyed) flies later most_flies);
        epochs = most_flies;
        held = tt;
      })
    where
      flies : List Entry
      flies = x.entries ++ entry_list x.computed

      goal : position_behind (x.listed_orders ++ o ∷ []) x.position ≡ next q.run.demand
      goal = with_hand o ∙ opening_position o (goal_position x) (next q.run.demand) opening

      opened : openings (o ∷ told x.place) ≡ 1 + openings (told x.place)
      opened = ap (λ (b : Bool). (if b then 1 else 0) + openings (told x.place)) opening.opens

      most_flies : EpochsAtMost (openings x.obeyed) flies
      most_flies = most_behind (openings x.obeyed) (entry_list x.held) flies is.epochs

      later : openings x.obeyed < openings (told q)
      later = omega (arith, ap (λ (os : List Order). openings os) is_told, opened, obeyed_fewer)
  by_made (tells_stop m is_told most none on) =
      by_parts (Some (Stop m)) None (by_one x.place q (Stop m) is_told) (dropped_by (Some (Stop m)) x.place q x.held refl) (record {
        owes = stepped.owes;
        going = λ off. cc;
        last = subst StopLast (sym is_told) (is.going on_there);
        reached = told_last (Stop m) (omega (arith, within));
        below = λ off. cc;
        lead = λ off none. cc;
        epochs = most_behind (openings x.obeyed) (entry_list x.held) (x.entries ++ entry_list x.computed) is.epochs;
        held = tt;
      })

tick_ahead : {s : Setup} {r : DemandRun} (laws : IsDemandRun s r) (k : ℕ) (x : Split) → x.place ≡ r.places k → IsOrdered r x → IsAhead x → IsAhead (tick_to (r.places (suc k)) x)
unfolding a
tick_ahead {r = r} laws k x at ordered is =
    let q : Place = r.places (suc k) in
    cond_both (may_tick x) (ticked_to q x) x IsAhead
    (λ may.
    let stepped : Stepped x.place q = stepped_from laws k x.place at (not_halted x may is.owes) in
    by_made x is q stepped may (omega (arith, told_openings x ordered)) stepped.made)
    (λ may. is)

-- Take.
take_ahead : (s : Setup) (l : List Entry) (x : Split) → x.entries ≡ l → IsAhead x → IsAhead (on_take l x)
take_ahead s [] x e is = is
take_ahead s (a ∷ rest) x e is = cond_both (may_take x) (taken a rest x) x IsAhead (λ may. by_epoch (none_is x.held (and_parts (needs_entry x.place) (is_none x.held) may).1)) (λ may. is)
  where
    by_epoch : x.held ≡ None → IsAhead (taken a rest x)
    by_epoch none = cond_both (a.epoch == openings (told x.place)) (Some a) x.held (λ h. IsAhead (record x { entries = rest; held = h }))
        (λ same. record {
          owes = is.owes;
          going = is.going;
          last = is.last;
          reached = is.reached;
          below = is.below;
          lead = λ on all. subst (λ (l : List Entry). Lead (openings (told x.place)) (next x.place.run.demand) l (goal_position x)) flies (is.lead on all);
          epochs = subst (EpochsAtMost (openings x.obeyed)) flies is.epochs;
          held = eqb-true a.epoch (openings (told x.place)) same;
        })
        (λ other. record {
          owes = is.owes;
          going = is.going;
          last = is.last;
          reached = is.reached;
          below = is.below;
          lead = λ on all.
              subst (λ (l : List Entry). Lead (openings (told x.place)) (next x.place.run.demand) l (goal_position x)) gone
              (lead_rest (openings (told x.place)) (next x.place.run.demand) (goal_position x) a (rest ++ entry_list x.computed) (eqb-false a.epoch (openings (told x.place)) other)
              (subst (λ (l : List Entry). Lead (openings (told x.place)) (next x.place.run.demand) l (goal_position x)) flies (is.lead on all)));
          epochs = subst (EpochsAtMost (openings x.obeyed)) gone ((subst (EpochsAtMost (openings x.obeyed)) flies is.epochs).1);
          held = is.held;
        })
      where
        flies : flight x ≡ a ∷ (rest ++ entry_list x.computed)
        flies = ap (λ (h : Option Entry). entry_list h ++ (x.entries ++ entry_list x.computed)) none ∙ ap (λ (l : List Entry). l ++ entry_list x.computed) e

        gone : rest ++ entry_list x.computed ≡ entry_list x.held ++ (rest ++ entry_list x.computed)
        gone = ap (λ (h : Option Entry). entry_list h ++ (rest ++ entry_list x.computed)) (sym none)

-- Send.
send_ahead : (s : Setup) (h : Option Order) (x : Split) → x.hand ≡ h → IsAhead x → IsAhead (sent h x)
send_ahead s None x e is = is
send_ahead s (Some o) x e is =
    cond_both (nat_lt (length x.listed_orders) 64) (record x { hand = None; listed_orders = x.listed_orders ++ o ∷ [] }) x IsAhead
    (λ may. record {
      owes = is.owes;
      going = is.going;
      last = is.last;
      reached = subst (AreReached x.position) waits is.reached;
      below = λ on. omega (arith, is.below on, goal);
      lead = λ on all. subst (Lead (openings (told x.place)) (next x.place.run.demand) (flight x)) goal (is.lead on all);
      epochs = is.epochs;
      held = is.held;
    })
    (λ may. is)
  where
    waits : pending x ≡ (x.listed_orders ++ o ∷ []) ++ []
    waits = ap (λ (h : Option Order). x.listed_orders ++ hand_list h) e ∙ sym (append-nil (x.listed_orders ++ o ∷ []))

    goal : goal_position x ≡ position_behind ((x.listed_orders ++ o ∷ []) ++ []) x.position
    goal = ap (λ (l : List Order). position_behind l x.position) waits

module _ {s : Setup} {r : DemandRun} (laws : IsDemandRun s r) where
  pub event_ahead : (k : ℕ) (e : Event) (x : Split) → x.place ≡ r.places k → IsOrdered r x → IsAhead x → IsAhead (event_to s (r.places (suc k)) e x)
  unfolding event_to
  event_ahead k compute x at ordered is = compute_ahead s x ordered is
  event_ahead k push x at ordered is = push_ahead s x ordered is x.computed refl
  event_ahead k obey x at ordered is = obey_ahead s x.listed_orders x refl ordered is
  event_ahead k tick x at ordered is = tick_ahead laws k x at ordered is
  event_ahead k take x at ordered is = take_ahead s x.entries x refl is
  event_ahead k send x at ordered is = send_ahead s x.hand x refl is

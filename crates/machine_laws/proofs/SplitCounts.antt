-- The functional side's numbers are those that the orders obeyed say.
use Rattle.std.proofs.Common.{◌≡◌, ℕ, ◌+◌, ◌≤◌, ◌<◌, nat_lt, not, is_none, ◌&&◌, ◌||◌, Bool, true, false, Option, Some, None, List, [], ◌∷◌, ◌++◌, length, reverse, refl, ap, sym, ◌∙◌, subst, arith, append_assoc}
use Rattle.std.proofs.lemmas.Bool.{cond_both, and_parts, ltb-true}
use Rattle.rollback_cmds.specs.declared.order.Order.{Order}
use Rattle.rollback_cmds.specs.declared.order.Order.TheVariants.{Set, Commit, Interrupt, Time, Stop, Sync}
use Rattle.trace_entry.specs.declared.Entry.{Entry}
use Rattle.mono_model.specs.declared.setup.Setup.{Setup}
use Rattle.mono_model.specs.Path.{entry, GoesOn, has_stop}
use Rattle.mono_model.specs.Demand.{Place, told, number_of}
use Rattle.mono_model.specs.Split.{Split, split_start, Event, compute, push, obey, tick, take, send, room, may_compute, on_compute, pushed, obeys, on_obey, may_tick, ticked_to, may_take, taken, on_take, sent}
use Rattle.machine_laws.specs.Numbers.{IsNumbered, AreNumbered, IsAtCommit, AreAtCommit}
use Rattle.machine_laws.specs.Telling.{with_order}
use Rattle.machine_laws.specs.SplitLaw.{IsCounted}
use Rattle.machine_laws.specs.DemandRun.{DemandRun}
use Rattle.machine_laws.proofs.Laws.{IsDemandRun}
use Rattle.machine_laws.proofs.SplitEvents.{tick_to, event_to}
use Rattle.machine_laws.proofs.SplitOrders.{IsOrdered, obey_list}
use Rattle.machine_laws.proofs.SplitLists.{hand_list, AreReached}
use Rattle.machine_laws.proofs.SplitAhead.{IsAhead, Stopless, StopLast}

pub start_counted : (s : Setup) → IsCounted s (split_start s)
unfolding split_start
start_counted s = record { committed = refl; least = omega arith; most = omega arith; stopped = refl; on = λ e. tt }

-- the orders obeyed are the oldest of those told
pub hand_front : (h : Option Order) (os : List Order) → with_order h os ≡ hand_list h ++ os
hand_front None os = refl
hand_front (Some o) os = refl

pub told_front : {r : DemandRun} (x : Split) → IsOrdered r x → told x.place ≡ (hand_list x.hand ++ reverse x.listed_orders) ++ x.obeyed
told_front x ordered =
    ordered.orders ∙ hand_front x.hand (reverse x.listed_orders ++ x.obeyed) ∙ sym (append_assoc (hand_list x.hand) (reverse x.listed_orders) x.obeyed)

pub next_front : {r : DemandRun} (x : Split) (o : Order) (os : List Order) → IsOrdered r x → x.listed_orders ≡ o ∷ os → told x.place ≡ (hand_list x.hand ++ reverse os) ++ (o ∷ x.obeyed)
next_front x o os ordered e =
    ordered.orders ∙ hand_front x.hand (reverse x.listed_orders ++ x.obeyed) ∙ ap (λ (l : List Order). hand_list x.hand ++ l) (ap (λ (l : List Order). reverse l ++ x.obeyed) e ∙ obey_list o os x.obeyed)
    ∙ sym (append_assoc (hand_list x.hand) (reverse os) (o ∷ x.obeyed))

pub numbered_behind : (s : Setup) (xs ys : List Order) → AreNumbered s (xs ++ ys) → AreNumbered s ys
numbered_behind s [] ys are = are
numbered_behind s (o ∷ xs) ys are = numbered_behind s xs ys are.1

pub at_commit_behind : (xs ys : List Order) → AreAtCommit (xs ++ ys) → AreAtCommit ys
at_commit_behind [] ys are = are
at_commit_behind (o ∷ xs) ys are = at_commit_behind xs ys are.1

stopless_behind : (xs ys : List Order) → Stopless (xs ++ ys) → Stopless ys
stopless_behind [] ys less = less
stopless_behind (o ∷ xs) ys less = stopless_behind xs ys less.1

stop_behind : (xs : List Order) (o : Order) (ys : List Order) → StopLast (xs ++ o ∷ ys) → Stopless ys
stop_behind [] o ys last = last
stop_behind (a ∷ xs) o ys last = (stopless_behind xs (o ∷ ys) last).1

pub none_stops : (os : List Order) → Stopless os → has_stop os ≡ false
none_stops [] less = refl
none_stops (o ∷ os) less = ap (λ (b : Bool). b || has_stop os) less.0 ∙ none_stops os less.1

-- What holds of the oldest listed order before it is obeyed.
pub record IsNext (s : Setup) (x : Split) (o : Order) : Type 0 where
  pub numbered : IsNumbered s x.obeyed o
  pub kind : IsAtCommit x.obeyed o
  pub reached : number_of o ≤ x.position
  pub running : has_stop x.obeyed ≡ false

pub next_is : {s : Setup} {r : DemandRun} (laws : IsDemandRun s r) (x : Split) (o : Order) (os : List Order) → IsOrdered r x → IsAhead x → x.listed_orders ≡ o ∷ os → IsNext s x o
next_is {s = s} laws x o os ordered ahead e = record {
  numbered = (numbered_behind s front (o ∷ x.obeyed) (subst (AreNumbered s) told_is (subst (λ (p : Place). AreNumbered s (told p)) (sym ordered.at) (laws.numbered ordered.steps)))).0;
  kind = (at_commit_behind front (o ∷ x.obeyed) (subst AreAtCommit told_is (subst (λ (p : Place). AreAtCommit (told p)) (sym ordered.at) (laws.kinds ordered.steps)))).0;
  reached = (subst (λ (l : List Order). AreReached x.position (l ++ hand_list x.hand)) e ahead.reached).0;
  running = none_stops x.obeyed (stop_behind front o x.obeyed (subst StopLast told_is ahead.last));
}
  where
    front : List Order
    front = hand_list x.hand ++ reverse os

    told_is : told x.place ≡ front ++ (o ∷ x.obeyed)
    told_is = next_front x o os ordered e

order_counted : (s : Setup) (o : Order) (os : List Order) (x : Split) → IsNext s x o → IsCounted s x → IsCounted s (obeys o (record x { listed_orders = os }))
order_counted s (Set n addr) os x next is = record {
  committed = is.committed;
  least = omega (arith, is.committed, next.numbered.least);
  most = omega (arith, is.committed, next.numbered.most);
  stopped = is.stopped;
  on = λ e. omega arith;
}
order_counted s (Commit n) os x next is = record {
  committed = refl;
  least = next.reached;
  most = omega (arith, is.committed, is.most, next.kind);
  stopped = is.stopped;
  on = is.on;
}
order_counted s (Interrupt n) os x next is = record {
  committed = next.kind;
  least = omega arith;
  most = omega arith;
  stopped = is.stopped;
  on = λ e. omega arith;
}
order_counted s (Time n v) os x next is = record {
  committed = is.committed;
  least = omega (arith, is.committed, next.numbered.least);
  most = omega (arith, is.committed, next.numbered.most);
  stopped = is.stopped;
  on = λ e. omega arith;
}
order_counted s (Stop n) os x next is = record {
  committed = is.committed;
  least = omega (arith, is.committed, next.numbered.least);
  most = omega (arith, is.committed, next.numbered.most);
  stopped = refl;
  on = λ e. cc;
}
order_counted s (Sync n) os x next is = record {
  committed = next.kind;
  least = omega arith;
  most = omega arith;
  stopped = is.stopped;
  on = λ e. omega arith;
}

obey_counted : {s : Setup} {r : DemandRun} (laws : IsDemandRun s r) (l : List Order) (x : Split) → x.listed_orders ≡ l → IsOrdered r x → IsAhead x → IsCounted s x → IsCounted s (on_obey l x)
obey_counted laws [] x e ordered ahead is = is
obey_counted {s = s} laws (o ∷ os) x e ordered ahead is = order_counted s o os x (next_is laws x o os ordered ahead e) is

-- the path goes on from a later position too
goes_on : (os : List Order) (n m : ℕ) → n ≤ m → GoesOn os n → GoesOn os m
goes_on [] n m less on = tt
goes_on (Set k addr ∷ os) n m less on = omega (arith, on)
goes_on (Commit k ∷ os) n m less on = goes_on os n m less on
goes_on (Interrupt k ∷ os) n m less on = omega (arith, on)
goes_on (Time k v ∷ os) n m less on = omega (arith, on)
goes_on (Stop k ∷ os) n m less on = goes_on os n m less on
goes_on (Sync k ∷ os) n m less on = omega (arith, on)

compute_counted : (s : Setup) (x : Split) → IsCounted s x → IsCounted s (on_compute s x)
compute_counted s x is =
    cond_both (may_compute s x) (record x { computed = Some (entry s x.obeyed x.position); position = x.position + 1 }) x (IsCounted s)
    (λ may. record {
      committed = is.committed;
      least = omega (arith, is.least);
      most = omega (arith, has_room may);
      stopped = is.stopped;
      on = λ e. goes_on x.obeyed x.position (x.position + 1) (omega arith) (is.on e);
    })
    (λ may. is)
  where
    has_room : may_compute s x ≡ true → x.position < x.committed_number + room s
    has_room may = ltb-true x.position (x.committed_number + room s) (and_parts (is_none x.computed && not x.is_stopped) (nat_lt x.position (x.committed_number + room s)) may).1

push_counted : (s : Setup) (e : Option Entry) (x : Split) → IsCounted s x → IsCounted s (pushed s e x)
push_counted s None x is = is
push_counted s (Some e) x is =
    cond_both (nat_lt (length x.entries) s.ring) (record x { computed = None; entries = x.entries ++ e ∷ [] }) x (IsCounted s)
    (λ may. record { committed = is.committed; least = is.least; most = is.most; stopped = is.stopped; on = is.on }) (λ may. is)

tick_counted : (s : Setup) (q : Place) (x : Split) → IsCounted s x → IsCounted s (tick_to q x)
tick_counted s q x is =
    cond_both (may_tick x) (ticked_to q x) x (IsCounted s)
    (λ may. record { committed = is.committed; least = is.least; most = is.most; stopped = is.stopped; on = is.on }) (λ may. is)

take_counted : (s : Setup) (l : List Entry) (x : Split) → IsCounted s x → IsCounted s (on_take l x)
take_counted s [] x is = is
take_counted s (e ∷ rest) x is =
    cond_both (may_take x) (taken e rest x) x (IsCounted s)
    (λ may. record { committed = is.committed; least = is.least; most = is.most; stopped = is.stopped; on = is.on }) (λ may. is)

send_counted : (s : Setup) (h : Option Order) (x : Split) → IsCounted s x → IsCounted s (sent h x)
send_counted s None x is = is
send_counted s (Some o) x is =
    cond_both (nat_lt (length x.listed_orders) 64) (record x { hand = None; listed_orders = x.listed_orders ++ o ∷ [] }) x (IsCounted s)
    (λ may. record { committed = is.committed; least = is.least; most = is.most; stopped = is.stopped; on = is.on }) (λ may. is)

module _ {s : Setup} {r : DemandRun} (laws : IsDemandRun s r) where
  pub event_counted : (q : Place) (e : Event) (x : Split) → IsOrdered r x → IsAhead x → IsCounted s x → IsCounted s (event_to s q e x)
  unfolding event_to
  event_counted q compute x ordered ahead is = compute_counted s x is
  event_counted q push x ordered ahead is = push_counted s x.computed x is
  event_counted q obey x ordered ahead is = obey_counted laws x.listed_orders x refl ordered ahead is
  event_counted q tick x ordered ahead is = tick_counted s q x is
  event_counted q take x ordered ahead is = take_counted s x.entries x is
  event_counted q send x ordered ahead is = send_counted s x.hand x is

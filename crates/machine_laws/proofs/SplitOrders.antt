-- The split state's place and orders: the place is one of the demand run, and the orders obeyed, listed and in hand are
-- those told there.
use Rattle.std.proofs.Common.{◌≡◌, ℕ, suc, ◌+◌, nat_lt, ◌==◌, ◌&&◌, not, is_none, true, Option, Some, None, List, [], ◌∷◌, ◌++◌, length, reverse, refl, ap, sym, ◌∙◌, subst, append_assoc}
use mathlib.Core.List.{reverse-cons, reverse-append}
use Rattle.std.proofs.lemmas.Bool.{cond_both, and_parts}
use Rattle.rollback_cmds.specs.declared.order.Order.{Order}
use Rattle.rollback_cmds.specs.declared.order.Order.TheVariants.{Set, Commit, Interrupt, Time, Stop, Sync}
use Rattle.trace_entry.specs.declared.Entry.{Entry}
use Rattle.mono_model.specs.declared.setup.Setup.{Setup}
use Rattle.mono_model.specs.Path.{entry}
use Rattle.mono_model.specs.Demand.{told, needs_entry}
use Rattle.mono_model.specs.Split.{Split, split_start, Event, compute, push, obey, tick, take, send, may_compute, on_compute, pushed, obeys, on_obey, is_halted, may_tick, told_by, ticked_to, may_take, taken, on_take, sent}
use Rattle.machine_laws.specs.Telling.{with_order}
use Rattle.machine_laws.specs.DemandRun.{DemandRun}
use Rattle.machine_laws.proofs.Laws.{IsDemandRun, tells_from}
use Rattle.machine_laws.proofs.SplitEvents.{tick_to, event_to}

-- The place, and the orders.
pub record IsOrdered (r : DemandRun) (x : Split) : Type 0 where
  pub steps : ℕ
  pub at : x.place ≡ r.places steps
  pub orders : told x.place ≡ with_order x.hand (reverse x.listed_orders ++ x.obeyed)

-- the oldest listed order goes behind those obeyed
pub obey_list : (o : Order) (os obeyed : List Order) → reverse (o ∷ os) ++ obeyed ≡ reverse os ++ o ∷ obeyed
obey_list o os obeyed = ap (λ (l : List Order). l ++ obeyed) (reverse-cons o os) ∙ append_assoc (reverse os) (o ∷ []) obeyed

-- a step is made with no order in hand
pub none_is : {A : Type 0} (o : Option A) → is_none o ≡ true → o ≡ None
none_is None is = refl
none_is (Some a) is = cc

pub may_hand : (x : Split) → may_tick x ≡ true → x.hand ≡ None
may_hand x may =
    none_is x.hand (and_parts (is_none x.hand) (not (is_halted x.place.run.at && x.place.owed == 0))
    (and_parts (is_none x.hand && not (is_halted x.place.run.at && x.place.owed == 0)) (not (needs_entry x.place && is_none x.held)) may).0).0

-- the order in hand goes to the end of the list
pub reverse_last : (os : List Order) (o : Order) → reverse (os ++ o ∷ []) ≡ o ∷ reverse os
reverse_last os o = reverse-append os (o ∷ [])

module _ {s : Setup} {r : DemandRun} (laws : IsDemandRun s r) where
  pub start_ordered : IsOrdered r (split_start s)
  unfolding split_start
  start_ordered = record { steps = 0; at = sym laws.start; orders = refl }

  compute_ordered : (x : Split) → IsOrdered r x → IsOrdered r (on_compute s x)
  compute_ordered x is =
      cond_both (may_compute s x) (record x { computed = Some (entry s x.obeyed x.position); position = x.position + 1 }) x (IsOrdered r)
      (λ may. record { steps = is.steps; at = is.at; orders = is.orders }) (λ may. is)

  push_ordered : (e : Option Entry) (x : Split) → IsOrdered r x → IsOrdered r (pushed s e x)
  push_ordered None x is = is
  push_ordered (Some e) x is =
      cond_both (nat_lt (length x.entries) s.ring) (record x { computed = None; entries = x.entries ++ e ∷ [] }) x (IsOrdered r)
      (λ may. record { steps = is.steps; at = is.at; orders = is.orders }) (λ may. is)

  order_ordered : (o : Order) (os : List Order) (x : Split) → IsOrdered r x → x.listed_orders ≡ o ∷ os → IsOrdered r (obeys o (record x { listed_orders = os }))
  order_ordered o os x is e = by_order o refl
    where
      told_is : told x.place ≡ with_order x.hand (reverse os ++ o ∷ x.obeyed)
      told_is = is.orders ∙ ap (λ (l : List Order). with_order x.hand (reverse l ++ x.obeyed)) e ∙ ap (λ (l : List Order). with_order x.hand l) (obey_list o os x.obeyed)

      by_order : (a : Order) → o ≡ a → IsOrdered r (obeys a (record x { listed_orders = os }))
      by_order (Set n addr) is_a = record { steps = is.steps; at = is.at; orders = subst (λ (a : Order). told x.place ≡ with_order x.hand (reverse os ++ a ∷ x.obeyed)) is_a told_is }
      by_order (Commit n) is_a = record { steps = is.steps; at = is.at; orders = subst (λ (a : Order). told x.place ≡ with_order x.hand (reverse os ++ a ∷ x.obeyed)) is_a told_is }
      by_order (Interrupt n) is_a = record { steps = is.steps; at = is.at; orders = subst (λ (a : Order). told x.place ≡ with_order x.hand (reverse os ++ a ∷ x.obeyed)) is_a told_is }
      by_order (Time n v) is_a = record { steps = is.steps; at = is.at; orders = subst (λ (a : Order). told x.place ≡ with_order x.hand (reverse os ++ a ∷ x.obeyed)) is_a told_is }
      by_order (Stop n) is_a = record { steps = is.steps; at = is.at; orders = subst (λ (a : Order). told x.place ≡ with_order x.hand (reverse os ++ a ∷ x.obeyed)) is_a told_is }
      by_order (Sync n) is_a = record { steps = is.steps; at = is.at; orders = subst (λ (a : Order). told x.place ≡ with_order x.hand (reverse os ++ a ∷ x.obeyed)) is_a told_is }

  obey_ordered : (l : List Order) (x : Split) → x.listed_orders ≡ l → IsOrdered r x → IsOrdered r (on_obey l x)
  obey_ordered [] x e is = is
  obey_ordered (o ∷ os) x e is = order_ordered o os x is e

  tick_ordered : (k : ℕ) (x : Split) → x.place ≡ r.places k → IsOrdered r x → IsOrdered r (tick_to (r.places (suc k)) x)
  tick_ordered k x at is =
      cond_both (may_tick x) (ticked_to (r.places (suc k)) x) x (IsOrdered r)
      (λ may. record {
        steps = suc k;
        at = refl;
        orders = tells_from laws k x.place at
            ∙ ap (λ (os : List Order). with_order (told_by x.place (r.places (suc k))) os) (is.orders ∙ ap (λ (h : Option Order). with_order h (reverse x.listed_orders ++ x.obeyed)) (may_hand x may));
      }) (λ may. is)

  take_ordered : (l : List Entry) (x : Split) → IsOrdered r x → IsOrdered r (on_take l x)
  take_ordered [] x is = is
  take_ordered (e ∷ rest) x is =
      cond_both (may_take x) (taken e rest x) x (IsOrdered r)
      (λ may. record { steps = is.steps; at = is.at; orders = is.orders }) (λ may. is)

  send_ordered : (h : Option Order) (x : Split) → x.hand ≡ h → IsOrdered r x → IsOrdered r (sent h x)
  send_ordered None x e is = is
  send_ordered (Some o) x e is =
      cond_both (nat_lt (length x.listed_orders) 64) (record x { hand = None; listed_orders = x.listed_orders ++ o ∷ [] }) x (IsOrdered r)
      (λ may. record {
        steps = is.steps;
        at = is.at;
        orders = is.orders ∙ ap (λ (h : Option Order). with_order h (reverse x.listed_orders ++ x.obeyed)) e ∙ ap (λ (l : List Order). l ++ x.obeyed) (sym (reverse_last x.listed_orders o));
      }) (λ may. is)

  pub event_ordered : (k : ℕ) (e : Event) (x : Split) → x.place ≡ r.places k → IsOrdered r x → IsOrdered r (event_to s (r.places (suc k)) e x)
  unfolding event_to
  event_ordered k compute x at is = compute_ordered x is
  event_ordered k push x at is = push_ordered x.computed x is
  event_ordered k obey x at is = obey_ordered x.listed_orders x refl is
  event_ordered k tick x at is = tick_ordered k x at is
  event_ordered k take x at is = take_ordered x.entries x is
  event_ordered k send x at is = send_ordered x.hand x refl is

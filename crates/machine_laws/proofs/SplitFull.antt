-- The lists between the sides stay within their lengths.
use Rattle.std.proofs.Common.{◌≡◌, ◌+◌, nat_lt, Option, Some, None, List, [], ◌∷◌, ◌++◌, length, refl, ap, arith, length-append}
use Rattle.std.proofs.lemmas.Bool.{cond_both, ltb-true}
use Rattle.rollback_cmds.specs.declared.order.Order.{Order}
use Rattle.rollback_cmds.specs.declared.order.Order.TheVariants.{Set, Commit, Interrupt, Time, Stop, Sync}
use Rattle.trace_entry.specs.declared.Entry.{Entry}
use Rattle.mono_model.specs.declared.setup.Setup.{Setup}
use Rattle.mono_model.specs.Path.{entry}
use Rattle.mono_model.specs.Demand.{Place}
use Rattle.mono_model.specs.Split.{Split, split_start, Event, compute, push, obey, tick, take, send, may_compute, pushed, obeys, on_obey, may_tick, ticked_to, may_take, taken, on_take, sent}
use Rattle.machine_laws.specs.SplitLaw.{IsListed}
use Rattle.machine_laws.proofs.SplitEvents.{event_to}

pub start_listed : (s : Setup) → IsListed s (split_start s)
unfolding split_start
start_listed s = record { entries = omega arith; orders = omega arith }

push_listed : (s : Setup) (e : Option Entry) (x : Split) → IsListed s x → IsListed s (pushed s e x)
push_listed s None x is = is
push_listed s (Some e) x is =
    cond_both (nat_lt (length x.entries) s.ring) (record x { computed = None; entries = x.entries ++ e ∷ [] }) x (IsListed s)
    (λ may. record { entries = omega (arith, length-append x.entries (e ∷ []), ltb-true (length x.entries) s.ring may); orders = is.orders }) (λ may. is)

order_listed : (s : Setup) (o : Order) (os : List Order) (x : Split) → x.listed_orders ≡ o ∷ os → IsListed s x → IsListed s (obeys o (record x { listed_orders = os }))
order_listed s (Set n addr) os x e is = record { entries = is.entries; orders = omega (arith, is.orders, ap (λ (l : List Order). length l) e) }
order_listed s (Commit n) os x e is = record { entries = is.entries; orders = omega (arith, is.orders, ap (λ (l : List Order). length l) e) }
order_listed s (Interrupt n) os x e is = record { entries = is.entries; orders = omega (arith, is.orders, ap (λ (l : List Order). length l) e) }
order_listed s (Time n v) os x e is = record { entries = is.entries; orders = omega (arith, is.orders, ap (λ (l : List Order). length l) e) }
order_listed s (Stop n) os x e is = record { entries = is.entries; orders = omega (arith, is.orders, ap (λ (l : List Order). length l) e) }
order_listed s (Sync n) os x e is = record { entries = is.entries; orders = omega (arith, is.orders, ap (λ (l : List Order). length l) e) }

obey_listed : (s : Setup) (l : List Order) (x : Split) → x.listed_orders ≡ l → IsListed s x → IsListed s (on_obey l x)
obey_listed s [] x e is = is
obey_listed s (o ∷ os) x e is = order_listed s o os x e is

take_listed : (s : Setup) (l : List Entry) (x : Split) → x.entries ≡ l → IsListed s x → IsListed s (on_take l x)
take_listed s [] x e is = is
take_listed s (a ∷ rest) x e is =
    cond_both (may_take x) (taken a rest x) x (IsListed s)
    (λ may. record { entries = omega (arith, is.entries, ap (λ (l : List Entry). length l) e); orders = is.orders }) (λ may. is)

send_listed : (s : Setup) (h : Option Order) (x : Split) → IsListed s x → IsListed s (sent h x)
send_listed s None x is = is
send_listed s (Some o) x is =
    cond_both (nat_lt (length x.listed_orders) 64) (record x { hand = None; listed_orders = x.listed_orders ++ o ∷ [] }) x (IsListed s)
    (λ may. record { entries = is.entries; orders = omega (arith, length-append x.listed_orders (o ∷ []), ltb-true (length x.listed_orders) 64 may) }) (λ may. is)

pub event_listed : (s : Setup) (q : Place) (e : Event) (x : Split) → IsListed s x → IsListed s (event_to s q e x)
unfolding event_to
event_listed s q compute x is =
    cond_both (may_compute s x) (record x { computed = Some (entry s x.obeyed x.position); position = x.position + 1 }) x (IsListed s)
    (λ may. record { entries = is.entries; orders = is.orders }) (λ may. is)
event_listed s q push x is = push_listed s x.computed x is
event_listed s q obey x is = obey_listed s x.listed_orders x refl is
event_listed s q tick x is =
    cond_both (may_tick x) (ticked_to q x) x (IsListed s)
    (λ may. record { entries = is.entries; orders = is.orders }) (λ may. is)
event_listed s q take x is = take_listed s x.entries x refl is
event_listed s q send x is = send_listed s x.hand x is

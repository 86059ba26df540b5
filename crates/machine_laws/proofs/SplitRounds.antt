-- What the events of a round leave of place, orders and entries.
use Rattle.std.proofs.Common.{◌≡◌, ℕ, ◌+◌, ◌-◌, ◌≤◌, ◌<◌, nat_lt, ◌==◌, Option, Some, None, IfSome, List, [], ◌∷◌, ◌++◌, length, refl, ap, arith, length-append}
use Rattle.std.proofs.lemmas.Bool.{cond_both, cond-true, lt-ltb}
use Rattle.rollback_cmds.specs.declared.order.Order.{Order}
use Rattle.rollback_cmds.specs.declared.order.Order.TheVariants.{Set, Commit, Interrupt, Time, Stop, Sync}
use Rattle.trace_entry.specs.declared.Entry.{Entry}
use Rattle.mono_model.specs.declared.setup.Setup.{Setup}
use Rattle.mono_model.specs.Path.{entry, openings}
use Rattle.mono_model.specs.Demand.{Place, told}
use Rattle.mono_model.specs.Split.{Split, split_start, Event, compute, push, obey, tick, take, send, may_compute, on_compute, pushed, obeys, on_obey, may_tick, ticked_to, may_take, taken, on_take, sent}
use Rattle.machine_laws.proofs.SplitEvents.{event_to}
use Rattle.machine_laws.proofs.SplitAhead.{entry_epoch}

-- The computed entry is of the functional side's epoch.
abbrev pub IsFresh : Split → Type 0
IsFresh x = IfSome x.computed (λ e. e.epoch ≡ openings x.obeyed)

more_commits : (c : Option Entry) (n : ℕ) (os : List Order) → IfSome c (λ e. e.epoch ≡ openings os) → IfSome c (λ e. e.epoch ≡ openings (Commit n ∷ os))
more_commits None n os is = tt
more_commits (Some e) n os is = omega (arith, is)

order_fresh : (o : Order) (os : List Order) (x : Split) → IsFresh x → IsFresh (obeys o (record x { listed_orders = os }))
order_fresh (Set n addr) os x is = tt
order_fresh (Commit n) os x is = more_commits x.computed n x.obeyed is
order_fresh (Interrupt n) os x is = tt
order_fresh (Time n v) os x is = tt
order_fresh (Stop n) os x is = tt
order_fresh (Sync n) os x is = tt

obey_fresh : (l : List Order) (x : Split) → IsFresh x → IsFresh (on_obey l x)
obey_fresh [] x is = is
obey_fresh (o ∷ os) x is = order_fresh o os x is

push_fresh : (s : Setup) (c : Option Entry) (x : Split) → IsFresh x → IsFresh (pushed s c x)
push_fresh s None x is = is
push_fresh s (Some e) x is =
    cond_both (nat_lt (length x.entries) s.ring) (record x { computed = None; entries = x.entries ++ e ∷ [] }) x IsFresh (λ may. tt) (λ may. is)

take_fresh : (l : List Entry) (x : Split) → IsFresh x → IsFresh (on_take l x)
take_fresh [] x is = is
take_fresh (a ∷ rest) x is = cond_both (may_take x) (taken a rest x) x IsFresh (λ may. is) (λ may. is)

send_fresh : (h : Option Order) (x : Split) → IsFresh x → IsFresh (sent h x)
send_fresh None x is = is
send_fresh (Some o) x is = cond_both (nat_lt (length x.listed_orders) 64) (record x { hand = None; listed_orders = x.listed_orders ++ o ∷ [] }) x IsFresh (λ may. is) (λ may. is)

pub event_fresh : (s : Setup) (q : Place) (e : Event) (x : Split) → IsFresh x → IsFresh (event_to s q e x)
unfolding event_to
event_fresh s q compute x is =
    cond_both (may_compute s x) (record x { computed = Some (entry s x.obeyed x.position); position = x.position + 1 }) x IsFresh
    (λ may. entry_epoch s x.obeyed x.position) (λ may. is)
event_fresh s q push x is = push_fresh s x.computed x is
event_fresh s q obey x is = obey_fresh x.listed_orders x is
event_fresh s q tick x is = cond_both (may_tick x) (ticked_to q x) x IsFresh (λ may. is) (λ may. is)
event_fresh s q take x is = take_fresh x.entries x is
event_fresh s q send x is = send_fresh x.hand x is

pub start_fresh : (s : Setup) → IsFresh (split_start s)
unfolding split_start
start_fresh s = tt

-- What computing and pushing keep.
pub record SameSide (x y : Split) : Type 0 where
  pub place : y.place ≡ x.place
  pub hand : y.hand ≡ x.hand
  pub held : y.held ≡ x.held

same_side : (x : Split) → SameSide x x
same_side x = record { place = refl; hand = refl; held = refl }

pub compute_side : (s : Setup) (x : Split) → SameSide x (on_compute s x)
compute_side s x =
    cond_both (may_compute s x) (record x { computed = Some (entry s x.obeyed x.position); position = x.position + 1 }) x (SameSide x)
    (λ may. record { place = refl; hand = refl; held = refl }) (λ may. same_side x)

pub compute_listed : (s : Setup) (x : Split) → (on_compute s x).listed_orders ≡ x.listed_orders
compute_listed s x =
    cond_both (may_compute s x) (record x { computed = Some (entry s x.obeyed x.position); position = x.position + 1 }) x (λ y. y.listed_orders ≡ x.listed_orders) (λ may. refl) (λ may. refl)

pub push_side : (s : Setup) (c : Option Entry) (x : Split) → SameSide x (pushed s c x)
push_side s None x = same_side x
push_side s (Some e) x =
    cond_both (nat_lt (length x.entries) s.ring) (record x { computed = None; entries = x.entries ++ e ∷ [] }) x (SameSide x)
    (λ may. record { place = refl; hand = refl; held = refl }) (λ may. same_side x)

pub push_listed : (s : Setup) (c : Option Entry) (x : Split) → (pushed s c x).listed_orders ≡ x.listed_orders
push_listed s None x = refl
push_listed s (Some e) x =
    cond_both (nat_lt (length x.entries) s.ring) (record x { computed = None; entries = x.entries ++ e ∷ [] }) x (λ y. y.listed_orders ≡ x.listed_orders) (λ may. refl) (λ may. refl)

order_side : (o : Order) (os : List Order) (x : Split) → SameSide x (obeys o (record x { listed_orders = os }))
order_side (Set n addr) os x = record { place = refl; hand = refl; held = refl }
order_side (Commit n) os x = record { place = refl; hand = refl; held = refl }
order_side (Interrupt n) os x = record { place = refl; hand = refl; held = refl }
order_side (Time n v) os x = record { place = refl; hand = refl; held = refl }
order_side (Stop n) os x = record { place = refl; hand = refl; held = refl }
order_side (Sync n) os x = record { place = refl; hand = refl; held = refl }

pub obey_side : (l : List Order) (x : Split) → SameSide x (on_obey l x)
obey_side [] x = same_side x
obey_side (o ∷ os) x = order_side o os x

order_rest : (o : Order) (os : List Order) (x : Split) → (obeys o (record x { listed_orders = os })).listed_orders ≡ os
order_rest (Set n addr) os x = refl
order_rest (Commit n) os x = refl
order_rest (Interrupt n) os x = refl
order_rest (Time n v) os x = refl
order_rest (Stop n) os x = refl
order_rest (Sync n) os x = refl

pub obey_count : (l : List Order) (x : Split) → x.listed_orders ≡ l → length (on_obey l x).listed_orders ≡ length l - 1
obey_count [] x e = omega (arith, ap (λ (l : List Order). length l) e)
obey_count (o ∷ os) x e = omega (arith, ap (λ (l : List Order). length l) (order_rest o os x))

-- what taking keeps
pub record Takes (x y : Split) : Type 0 where
  pub place : y.place ≡ x.place
  pub hand : y.hand ≡ x.hand
  pub listed_orders : y.listed_orders ≡ x.listed_orders
  pub held : y.held ≡ None → x.held ≡ None

pub take_takes : (l : List Entry) (x : Split) → Takes x (on_take l x)
take_takes [] x = record { place = refl; hand = refl; listed_orders = refl; held = λ e. e }
take_takes (a ∷ rest) x =
    cond_both (may_take x) (taken a rest x) x (Takes x)
    (λ may. cond_both (a.epoch == openings (told x.place)) (Some a) x.held (λ h. Takes x (record x { entries = rest; held = h }))
    (λ e. record { place = refl; hand = refl; listed_orders = refl; held = λ none. cc })
    (λ e. record { place = refl; hand = refl; listed_orders = refl; held = λ none. none }))
    (λ may. record { place = refl; hand = refl; listed_orders = refl; held = λ e. e })

-- how many orders wait, with one more for that in hand
abbrev pub waiting_for : List Order → Option Order → ℕ
waiting_for l None = length l
waiting_for l (Some o) = length l + 2

-- what sending leaves
pub record Sends (x y : Split) : Type 0 where
  pub place : y.place ≡ x.place
  pub held : y.held ≡ x.held
  pub entries : y.entries ≡ x.entries

pub send_sends : (h : Option Order) (x : Split) → Sends x (sent h x)
send_sends None x = record { place = refl; held = refl; entries = refl }
send_sends (Some o) x =
    cond_both (nat_lt (length x.listed_orders) 64) (record x { hand = None; listed_orders = x.listed_orders ++ o ∷ [] }) x (Sends x)
    (λ may. record { place = refl; held = refl; entries = refl }) (λ may. record { place = refl; held = refl; entries = refl })

pub send_waits : (h : Option Order) (x : Split) (k : ℕ) → x.hand ≡ h → length x.listed_orders ≡ k - 1 → k ≤ 64 → 1 ≤ waiting_for x.listed_orders h + k → waiting_for (sent h x).listed_orders (sent h x).hand < k + waiting_for [] h
send_waits None x k e count most some =
    let none : waiting_for x.listed_orders x.hand ≡ length x.listed_orders = ap (waiting_for x.listed_orders) e in
    omega arith
send_waits (Some o) x k e count most some =
    let sends : sent (Some o) x ≡ record x { hand = None; listed_orders = x.listed_orders ++ o ∷ [] } =
    cond-true (nat_lt (length x.listed_orders) 64) (record x { hand = None; listed_orders = x.listed_orders ++ o ∷ [] }) x (lt-ltb (length x.listed_orders) 64 (omega arith)) in
    let now : waiting_for (sent (Some o) x).listed_orders (sent (Some o) x).hand ≡ length (x.listed_orders ++ o ∷ []) = ap (λ (y : Split). waiting_for y.listed_orders y.hand) sends in
    omega (arith, now, length-append x.listed_orders (o ∷ []))

-- No event lowers the number of the first instruction that isn't committed.
use Rattle.std.proofs.Common.{◌≡◌, ℕ, ◌≤◌, ◌+◌, ◌++◌, nat_lt, Option, Some, None, List, [], ◌∷◌, length, refl, sym, subst, arith}
use Rattle.std.proofs.lemmas.Bool.{cond_both}
use Rattle.rollback_cmds.specs.declared.order.Order.{Order}
use Rattle.rollback_cmds.specs.declared.order.Order.TheVariants.{Set, Commit, Interrupt, Time, Stop, Sync}
use Rattle.trace_entry.specs.declared.Entry.{Entry}
use Rattle.mono_model.specs.declared.setup.Setup.{Setup}
use Rattle.mono_model.specs.Path.{entry}
use Rattle.mono_model.specs.Demand.{Place, number_of, step}
use Rattle.mono_model.specs.Split.{Split, Event, compute, push, obey, tick, take, send, may_compute, on_compute, pushed, obeys, on_obey, may_tick, ticked_to, may_take, taken, on_take, sent, event_at}
use Rattle.machine_laws.specs.Reached.{IsReached}
use Rattle.machine_laws.proofs.SplitEvents.{tick_to, event_to, event_is}
use Rattle.machine_laws.proofs.SplitReached.{reached_run}

-- what an event leaves that obeys no order
abbrev Keeps : Split → Split → Type 0
Keeps x y = y.committed_number ≡ x.committed_number

compute_keeps : (s : Setup) (x : Split) → Keeps x (on_compute s x)
compute_keeps s x =
    cond_both (may_compute s x)
    (record x { computed = Some (entry s x.obeyed x.position); position = x.position + 1 }) x (Keeps x)
    (λ may. refl) (λ not. refl)

push_keeps : (s : Setup) (computed : Option Entry) (x : Split) → Keeps x (pushed s computed x)
push_keeps s None x = refl
push_keeps s (Some e) x =
    cond_both (nat_lt (length x.entries) s.ring)
    (record x { computed = None; entries = x.entries ++ e ∷ [] }) x (Keeps x) (λ room. refl) (λ full. refl)

tick_keeps : (q : Place) (x : Split) → Keeps x (tick_to q x)
tick_keeps q x = cond_both (may_tick x) (ticked_to q x) x (Keeps x) (λ may. refl) (λ not. refl)

take_keeps : (entries : List Entry) (x : Split) → Keeps x (on_take entries x)
take_keeps [] x = refl
take_keeps (e ∷ rest) x = cond_both (may_take x) (taken e rest x) x (Keeps x) (λ may. refl) (λ not. refl)

send_keeps : (hand : Option Order) (x : Split) → Keeps x (sent hand x)
send_keeps None x = refl
send_keeps (Some o) x =
    cond_both (nat_lt (length x.listed_orders) 64)
    (record x { hand = None; listed_orders = x.listed_orders ++ o ∷ [] }) x (Keeps x) (λ room. refl) (λ full. refl)

-- an order commits nothing below what is committed
order_rises : (o : Order) (x : Split) (n : ℕ) → n ≡ x.committed_number → n ≤ number_of o
    → n ≤ (obeys o x).committed_number
order_rises (Set m addr) x n here least = omega arith
order_rises (Commit m) x n here least = least
order_rises (Interrupt m) x n here least = least
order_rises (Time m v) x n here least = omega arith
order_rises (Stop m) x n here least = omega arith
order_rises (Sync m) x n here least = least

obey_rises : (x : Split) (listed : List Order)
    → ((o : Order) (os : List Order) → listed ≡ o ∷ os → x.committed_number ≤ number_of o)
    → x.committed_number ≤ (on_obey listed x).committed_number
obey_rises x [] least = omega arith
obey_rises x (o ∷ os) least =
    order_rises o (record x { listed_orders = os }) x.committed_number refl (least o os refl)

kept : (x y : Split) → Keeps x y → x.committed_number ≤ y.committed_number
kept x y same = omega arith

-- an event lowers it no further than the order that it obeys
pub rises_to : (s : Setup) (q : Place) (e : Event) (x : Split)
    → ((o : Order) (os : List Order) → x.listed_orders ≡ o ∷ os → x.committed_number ≤ number_of o)
    → x.committed_number ≤ (event_to s q e x).committed_number
unfolding event_to
rises_to s q compute x least = kept x (on_compute s x) (compute_keeps s x)
rises_to s q push x least = kept x (pushed s x.computed x) (push_keeps s x.computed x)
rises_to s q obey x least = obey_rises x x.listed_orders least
rises_to s q tick x least = kept x (tick_to q x) (tick_keeps q x)
rises_to s q take x least = kept x (on_take x.entries x) (take_keeps x.entries x)
rises_to s q send x least = kept x (sent x.hand x) (send_keeps x.hand x)

pub event_rises : (s : Setup) (e : Event) (x : Split) → IsReached s x
    → x.committed_number ≤ (event_at s e x).committed_number
event_rises s e x reached =
    subst (λ (y : Split). x.committed_number ≤ y.committed_number) (sym (event_is s e x))
    (rises_to s (step s x.place) e x (λ o os is. ((reached_run s x reached).obeys o os is).least))

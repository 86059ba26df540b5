-- The entries under way are those of their numbers under the orders of their epochs, and the held one is the one that the
-- place needs.
use Rattle.std.proofs.Common.{◌≡◌, ◌≤◌, ℕ, suc, ◌+◌, nat_lt, ◌==◌, ◌&&◌, ◌||◌, not, if◌then◌else◌, is_none, Bool, true, false, Option, Some, None, IfSome, List, [], ◌∷◌, ◌++◌, length, reverse, drop, refl, ap, sym, ◌∙◌, subst, arith}
use Rattle.std.proofs.lemmas.Bool.{cond_both, and_parts}
use mathlib.Core.List.{append-nil}
use Rattle.rollback_cmds.specs.declared.order.Order.{Order}
use Rattle.rollback_cmds.specs.declared.order.Order.TheVariants.{Set, Commit, Interrupt, Time, Stop, Sync}
use Rattle.trace_entry.specs.declared.Entry.{Entry}
use Rattle.mono_model.specs.declared.setup.Setup.{Setup}
use Rattle.mono_model.specs.Arch.{Arch}
use Rattle.mono_model.specs.Path.{entry, openings, path, time_of}
use Rattle.mono_model.specs.Sequence.{entry_at}
use Rattle.mono_model.specs.Demand.{next, Place, told, needs_entry, needed_entry, At, interrupting, committing, completing, issuing, trying, ending, stopping, halted, is_try}
use Rattle.mono_model.specs.Split.{Split, split_start, Event, compute, push, obey, tick, take, send, room, may_compute, on_compute, pushed, obeys, on_obey, is_halted, may_tick, told_by, opens, has_appended, held_after, ticked_to, may_take, taken, on_take, sent}
use Rattle.mono_model.proofs.Path.{path-commit}
use Rattle.machine_laws.specs.Telling.{with_order}
use Rattle.machine_laws.specs.SplitLaw.{IsCounted, IsEntry, Each}
use Rattle.machine_laws.specs.DemandRun.{DemandRun}
use Rattle.machine_laws.proofs.Laws.{IsDemandRun, tells_from, stepped_from}
use Rattle.machine_laws.proofs.SplitEvents.{tick_to, event_to}
use Rattle.machine_laws.proofs.SplitOrders.{IsOrdered, none_is, event_ordered, start_ordered}
use Rattle.machine_laws.proofs.SplitSteps.{Steps, tells_none, tells_commit, tells_opening, tells_stop}
use Rattle.machine_laws.proofs.SplitTurns.{one}
use Rattle.machine_laws.proofs.SplitLists.{hand_list, entry_list, openings_append, EpochsAtMost}
use Rattle.machine_laws.proofs.Telling.{by_one}
use Rattle.machine_laws.proofs.SplitAhead.{IsAhead, flight, dropped_by, entry_epoch, entry_number, flight_more, not_halted, event_ahead, start_ahead}
use Rattle.machine_laws.proofs.SplitCounts.{told_front, event_counted, start_counted}

pub record IsMade (s : Setup) (x : Split) : Type 0 where
  pub entries : Each (IsEntry s (told x.place)) (flight x)
  -- once the last order is told nothing is held
  pub halts : is_halted x.place.run.at ≡ true → x.held ≡ None

start_made : (s : Setup) → IsMade s (split_start s)
unfolding split_start
start_made s = record { entries = tt; halts = λ e. refl }

module _ (P : Entry → Type 0) where
  each_append : (xs ys : List Entry) → Each P xs → Each P ys → Each P (xs ++ ys)
  each_append [] ys first second = second
  each_append (e ∷ xs) ys first second = (first.0, each_append xs ys first.1 second)

  pub each_front : (xs ys : List Entry) → Each P (xs ++ ys) → Each P xs
  each_front [] ys all = tt
  each_front (e ∷ xs) ys all = (all.0, each_front xs ys all.1)

  pub each_behind : (xs ys : List Entry) → Each P (xs ++ ys) → Each P ys
  each_behind [] ys all = all
  each_behind (e ∷ xs) ys all = each_behind xs ys all.1

  pub each_more : (Q : Entry → Type 0) → ((e : Entry) → P e → Q e) → (xs : List Entry) → Each P xs → Each Q xs
  each_more Q gives [] all = tt
  each_more Q gives (e ∷ xs) all = (gives e all.0, each_more Q gives xs all.1)

  pub each_some : (c : Option Entry) → Each P (entry_list c) → IfSome c P
  each_some None all = tt
  each_some (Some e) all = all.0

  pub each_both : (k : ℕ) (xs : List Entry) → EpochsAtMost k xs → Each P xs → Each (λ e. (e.epoch ≤ k) × P e) xs
  each_both k [] most all = tt
  each_both k (e ∷ xs) most all = ((most.0, all.0), each_both k xs most.1 all.1)

-- more orders are told
entry_more : (s : Setup) (o : Option Order) (os : List Order) (e : Entry) → IsEntry s os e → IsEntry s (with_order o os) e
entry_more s None os e is = is
entry_more s (Some o) os e is = record { later = o ∷ is.later; before = is.before; orders = ap (λ (l : List Order). o ∷ l) is.orders; made = is.made }

module _ (s : Setup) {r : DemandRun} (x : Split) (ordered : IsOrdered r x) (ahead : IsAhead x) (is : IsMade s x) where
  abbrev Made : Entry → Type 0
  Made = IsEntry s (told x.place)

  computed_made : x.computed ≡ None → IsMade s (record x { computed = Some (entry s x.obeyed x.position); position = x.position + 1 })
  computed_made none =
      let e = entry s x.obeyed x.position in
      let flies : flight x ≡ entry_list x.held ++ (x.entries ++ entry_list None) = ap (λ (c : Option Entry). entry_list x.held ++ (x.entries ++ entry_list c)) none in
      record {
        entries = subst (Each Made) (flight_more x.held x.entries e)
            (each_append Made (entry_list x.held ++ (x.entries ++ entry_list None)) (e ∷ []) (subst (Each Made) flies is.entries)
            (record { later = hand_list x.hand ++ reverse x.listed_orders; before = x.obeyed; orders = told_front x ordered; made = ap (entry s x.obeyed) (sym (entry_number s x.obeyed x.position)) }, tt));
        halts = is.halts;
      }

  compute_made : IsMade s (on_compute s x)
  compute_made =
      cond_both (may_compute s x) (record x { computed = Some (entry s x.obeyed x.position); position = x.position + 1 }) x (IsMade s)
      (λ may. computed_made (none_is x.computed (and_parts (is_none x.computed) (not x.is_stopped) (and_parts (is_none x.computed && not x.is_stopped) (nat_lt x.position (x.committed_number + room s)) may).0).0))
      (λ may. is)

  push_made : (c : Option Entry) → x.computed ≡ c → IsMade s (pushed s c x)
  push_made None e = is
  push_made (Some a) e =
      let flies : flight x ≡ entry_list x.held ++ ((x.entries ++ a ∷ []) ++ []) =
      ap (λ (c : Option Entry). entry_list x.held ++ (x.entries ++ entry_list c)) e ∙ ap (λ (l : List Entry). entry_list x.held ++ l) (sym (append-nil (x.entries ++ a ∷ []))) in
      cond_both (nat_lt (length x.entries) s.ring) (record x { computed = None; entries = x.entries ++ a ∷ [] }) x (IsMade s)
      (λ may. record { entries = subst (Each Made) flies is.entries; halts = is.halts }) (λ may. is)

  fewer_made : Each Made (entry_list x.held ++ (x.entries ++ []))
  fewer_made =
      let behind = each_behind Made (entry_list x.held) (x.entries ++ entry_list x.computed) is.entries in
      each_append Made (entry_list x.held) (x.entries ++ []) (each_front Made (entry_list x.held) (x.entries ++ entry_list x.computed) is.entries)
      (each_append Made x.entries [] (each_front Made x.entries (entry_list x.computed) behind) tt)

  order_made : (o : Order) (os : List Order) → IsMade s (obeys o (record x { listed_orders = os }))
  order_made (Set n addr) os = record { entries = fewer_made; halts = is.halts }
  order_made (Commit n) os = record { entries = is.entries; halts = is.halts }
  order_made (Interrupt n) os = record { entries = fewer_made; halts = is.halts }
  order_made (Time n v) os = record { entries = fewer_made; halts = is.halts }
  order_made (Stop n) os = record { entries = fewer_made; halts = is.halts }
  order_made (Sync n) os = record { entries = fewer_made; halts = is.halts }

  obey_made : (l : List Order) → IsMade s (on_obey l x)
  obey_made [] = is
  obey_made (o ∷ os) = order_made o os

  ticked_halts : (n : ℕ) (q : Place) → Steps n x.place q → is_halted q.run.at ≡ true → held_after (told_by x.place q) x.place q x.held ≡ None
  ticked_halts n q (tells_none all is_told to none on) off = cc
  ticked_halts n q (tells_commit m all is_told least most to on) off = cc
  ticked_halts n q (tells_opening o is_told opening most none on) off = cc
  ticked_halts n q (tells_stop m is_told most none on) off =
      ap (λ (o : Option Order). held_after o x.place q x.held) (by_one x.place q (Stop m) is_told) ∙ dropped_by (Some (Stop m)) x.place q x.held refl

  ticked_made : IsDemandRun s r → (k : ℕ) → x.place ≡ r.places k → may_tick x ≡ true → IsMade s (ticked_to (r.places (suc k)) x)
  ticked_made laws k at may =
      let p = x.place in
      let q = r.places (suc k) in
      let o = told_by p q in
      let rest = x.entries ++ entry_list x.computed in
      let stepped = stepped_from laws k p at (not_halted x may ahead.owes) in
      let fewer : Each Made (entry_list (held_after o p q x.held) ++ rest) =
      cond_both (opens o || has_appended p q) None x.held (λ h. Each Made (entry_list h ++ rest)) (λ e. each_behind Made (entry_list x.held) rest is.entries) (λ e. is.entries) in
      let told_is = tells_from laws k p at in
      record {
        entries = subst (λ (os : List Order). Each (IsEntry s os) (entry_list (held_after o p q x.held) ++ rest)) (sym told_is)
            (each_more Made (IsEntry s (with_order o (told p))) (entry_more s o (told p)) (entry_list (held_after o p q x.held) ++ rest) fewer);
        halts = ticked_halts (next p.run.demand + one stepped.appends) q stepped.made;
      }

  tick_made : IsDemandRun s r → (k : ℕ) → x.place ≡ r.places k → IsMade s (tick_to (r.places (suc k)) x)
  tick_made laws k at = cond_both (may_tick x) (ticked_to (r.places (suc k)) x) x (IsMade s) (ticked_made laws k at) (λ may. is)

try_on : (at : At) → is_try at ≡ true → is_halted at ≡ false
try_on interrupting e = refl
try_on committing e = refl
try_on completing e = refl
try_on issuing e = refl
try_on (trying more) e = refl
try_on ending e = refl
try_on stopping e = refl
try_on halted e = cc

needs_try : (b t : Bool) → (if b then t else false) ≡ true → t ≡ true
needs_try true t e = e
needs_try false t e = cc

pub needs_on : (p : Place) → needs_entry p ≡ true → is_halted p.run.at ≡ false
needs_on p needs = try_on p.run.at (needs_try (p.owed == 0) (is_try p.run.at) needs)

take_made : (s : Setup) (l : List Entry) (x : Split) → x.entries ≡ l → IsMade s x → IsMade s (on_take l x)
take_made s [] x e is = is
take_made s (a ∷ rest) x e is =
    cond_both (may_take x) (taken a rest x) x (IsMade s)
    (λ may. by_epoch (and_parts (needs_entry x.place) (is_none x.held) may).0 (none_is x.held (and_parts (needs_entry x.place) (is_none x.held) may).1)) (λ may. is)
  where
    by_epoch : needs_entry x.place ≡ true → x.held ≡ None → IsMade s (taken a rest x)
    by_epoch needs none = cond_both (a.epoch == openings (told x.place)) (Some a) x.held (λ h. IsMade s (record x { entries = rest; held = h }))
        (λ same. record { entries = all; halts = λ off. let on = needs_on x.place needs in cc })
        (λ other. record { entries = subst (λ (h : Option Entry). Each (IsEntry s (told x.place)) (entry_list h ++ (rest ++ entry_list x.computed))) (sym none) all.1; halts = is.halts })
      where
        flies : flight x ≡ a ∷ (rest ++ entry_list x.computed)
        flies = ap (λ (h : Option Entry). entry_list h ++ (x.entries ++ entry_list x.computed)) none ∙ ap (λ (l : List Entry). l ++ entry_list x.computed) e

        all : Each (IsEntry s (told x.place)) (a ∷ (rest ++ entry_list x.computed))
        all = subst (Each (IsEntry s (told x.place))) flies is.entries

send_made : (s : Setup) (h : Option Order) (x : Split) → IsMade s x → IsMade s (sent h x)
send_made s None x is = is
send_made s (Some o) x is =
    cond_both (nat_lt (length x.listed_orders) 64) (record x { hand = None; listed_orders = x.listed_orders ++ o ∷ [] }) x (IsMade s)
    (λ may. record { entries = is.entries; halts = is.halts }) (λ may. is)

pub record EntriesHold (s : Setup) (r : DemandRun) (x : Split) : Type 0 where
  pub ordered : IsOrdered r x
  pub ahead : IsAhead x
  pub counted : IsCounted s x
  pub made : IsMade s x

module _ {s : Setup} {r : DemandRun} (laws : IsDemandRun s r) where
  event_made : (k : ℕ) (e : Event) (x : Split) → x.place ≡ r.places k → IsOrdered r x → IsAhead x → IsMade s x → IsMade s (event_to s (r.places (suc k)) e x)
  unfolding event_to
  event_made k compute x at ordered ahead is = compute_made s x ordered ahead is
  event_made k push x at ordered ahead is = push_made s x ordered ahead is x.computed refl
  event_made k obey x at ordered ahead is = obey_made s x ordered ahead is x.listed_orders
  event_made k tick x at ordered ahead is = tick_made s x ordered ahead is laws k at
  event_made k take x at ordered ahead is = take_made s x.entries x refl is
  event_made k send x at ordered ahead is = send_made s x.hand x is

  pub start_holds : EntriesHold s r (split_start s)
  start_holds = record { ordered = start_ordered laws; ahead = start_ahead s; counted = start_counted s; made = start_made s }

  -- an event that leads on from a place of the run keeps all
  pub event_holds : (k : ℕ) (e : Event) (x : Split) → x.place ≡ r.places k → EntriesHold s r x → EntriesHold s r (event_to s (r.places (suc k)) e x)
  event_holds k e x at is = record {
    ordered = event_ordered laws k e x at is.ordered;
    ahead = event_ahead laws k e x at is.ordered is.ahead;
    counted = event_counted laws (r.places (suc k)) e x is.ordered is.ahead is.counted;
    made = event_made k e x at is.ordered is.ahead is.made;
  }

-- Orders that open no epoch leave all entries.
commit_entry : (s : Setup) (m : ℕ) (os : List Order) (n : ℕ) → entry s (Commit m ∷ os) n ≡ entry s os n
unfolding entry
commit_entry s m os n =
    let none : 0 + openings os ≡ openings os = omega arith in
    ap (λ (a : Arch). entry_at s (time_of os n) a n (0 + openings os)) (path-commit s m os n) ∙ ap (entry_at s (time_of os n) (path s os n) n) none

pub no_opening : (s : Setup) (later os : List Order) (n : ℕ) → openings later ≡ 0 → entry s (later ++ os) n ≡ entry s os n
no_opening s [] os n none = refl
no_opening s (Set m addr ∷ later) os n none = absurd (omega arith)
no_opening s (Commit m ∷ later) os n none = commit_entry s m (later ++ os) n ∙ no_opening s later os n (omega arith)
no_opening s (Interrupt m ∷ later) os n none = absurd (omega arith)
no_opening s (Time m v ∷ later) os n none = absurd (omega arith)
no_opening s (Stop m ∷ later) os n none = absurd (omega arith)
no_opening s (Sync m ∷ later) os n none = absurd (omega arith)

-- an entry of the epoch that the orders told open, with the number of the record to fetch, is the one that the place needs
pub is_needed : (s : Setup) (p : Place) (e : Entry) → p.owed ≡ 0 → IsEntry s (told p) e → e.epoch ≡ openings (told p) → e.number ≡ next p.run.demand → e ≡ needed_entry s p
is_needed s p e all is at number =
    let epoch : e.epoch ≡ openings is.before = ap (λ (a : Entry). a.epoch) is.made ∙ entry_epoch s is.before e.number in
    let none : openings is.later ≡ 0 = omega (arith, at, epoch, ap (λ (l : List Order). openings l) is.orders, openings_append is.later is.before) in
    is.made ∙ sym (no_opening s is.later is.before e.number none) ∙ ap (λ (l : List Order). entry s l e.number) (sym is.orders)
    ∙ ap (entry s (told p)) number ∙ ap (λ (k : ℕ). entry s (drop k p.run.demand.orders) (next p.run.demand)) all

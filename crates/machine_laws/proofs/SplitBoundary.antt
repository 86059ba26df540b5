-- The rounds to a boundary come to one.
use Rattle.std.proofs.Common.{◌≡◌, ℕ, zero, suc, ◌+◌, ◌-◌, ◌≤◌, ◌<◌, ◌&&◌, is_none, Bool, true, false, Option, Some, None, List, [], length, refl, ap, sym, ◌∙◌, subst, arith}
use Rattle.std.proofs.lemmas.Bool.{and_parts}
use Rattle.rollback_cmds.specs.declared.order.Order.{Order}
use Rattle.mono_model.specs.declared.setup.Setup.{Setup}
use Rattle.mono_model.specs.Path.{openings}
use Rattle.mono_model.specs.Demand.{Place, told, needs_entry}
use Rattle.mono_model.specs.Split.{Split, on_compute, pushed, on_obey, may_take, on_take, sent}
use Rattle.machine_laws.proofs.SplitRounds.{compute_side, compute_listed, push_side, push_listed, obey_side, obey_count, take_takes, waiting_for, send_sends, send_waits}
use Rattle.machine_laws.proofs.SplitStale.{stale}

-- the state of a round before its step
abbrev pub before_step : Setup → Split → Split
before_step s x =
    let y = on_obey x.listed_orders x in
    let z = on_compute s y in
    let a = pushed s z.computed z in
    on_take a.entries a

pub record Before (x b : Split) : Type 0 where
  pub place : b.place ≡ x.place
  pub hand : b.hand ≡ x.hand
  pub held : b.held ≡ None → x.held ≡ None
  pub listed_orders : length b.listed_orders ≡ length x.listed_orders - 1

pub before_is : (s : Setup) (x : Split) → Before x (before_step s x)
before_is s x =
    let y = on_obey x.listed_orders x in
    let z = on_compute s y in
    let a = pushed s z.computed z in
    let obeyed = obey_side x.listed_orders x in
    let computed = compute_side s y in
    let pushes = push_side s z.computed z in
    let takes = take_takes a.entries a in
    record {
      place = takes.place ∙ pushes.place ∙ computed.place ∙ obeyed.place;
      hand = takes.hand ∙ pushes.hand ∙ computed.hand ∙ obeyed.hand;
      held = λ none. sym (pushes.held ∙ computed.held ∙ obeyed.held) ∙ takes.held none;
      listed_orders = ap (λ (l : List Order). length l) (takes.listed_orders ∙ push_listed s z.computed z ∙ compute_listed s y) ∙ obey_count x.listed_orders x refl;
    }

-- How long the timing side may wait: for its orders to be obeyed, and where it lacks an entry, for those of older epochs
-- to be dropped.
abbrev pub wait_of : ℕ → Bool → ℕ → ℕ → ℕ
wait_of ring false p st = p
wait_of ring true zero st = st + 1
wait_of ring true (suc p) st = suc p + ring + 2

pub wait_most : (ring : ℕ) (lack : Bool) (p st : ℕ) → p ≤ 66 → st ≤ ring → wait_of ring lack p st ≤ ring + 68
wait_most ring false p st few least = omega arith
wait_most ring true zero st few least = omega arith
wait_most ring true (suc p) st few least = omega arith

pub fewer_wait : (ring : ℕ) (lack now : Bool) (p q st su : ℕ) → q < p → su ≤ ring → (now ≡ true → lack ≡ true) → wait_of ring now q su < wait_of ring lack p st
fewer_wait ring lack now zero q st su less most gives = absurd (omega arith)
fewer_wait ring false false (suc p) q st su less most gives = less
fewer_wait ring true false (suc p) q st su less most gives = omega arith
fewer_wait ring false true (suc p) q st su less most gives = let lacks = gives refl in cc
fewer_wait ring true true (suc p) zero st su less most gives = omega arith
fewer_wait ring true true (suc p) (suc q) st su less most gives = omega arith

abbrev pub waits : Setup → Split → ℕ
waits s x = wait_of s.ring (may_take x) (waiting_for x.listed_orders x.hand) (stale (openings (told x.place)) x.entries)

pub waiting_is : (l : List Order) (h : Option Order) → waiting_for l h ≡ length l + waiting_for [] h
waiting_is l None = omega arith
waiting_is l (Some o) = omega arith

pub none_from : {A : Type 0} (o : Option A) → o ≡ None → is_none o ≡ true
none_from o e = ap (λ h. is_none h) e

pub some_none : {A : Type 0} (o : Option A) → is_none o ≡ true → o ≡ None
some_none None e = refl
some_none (Some a) e = cc

-- where orders wait there are fewer behind a round without a step
pub orders_fewer : (s : Setup) (x : Split) → length x.listed_orders ≤ 64 → 1 ≤ waiting_for x.listed_orders x.hand → (su : ℕ) → su ≤ s.ring →
    wait_of s.ring (may_take (sent (before_step s x).hand (before_step s x))) (waiting_for (sent (before_step s x).hand (before_step s x)).listed_orders (sent (before_step s x).hand (before_step s x)).hand) su < waits s x
orders_fewer s x most some su few =
    let b = before_step s x in
    let r = sent b.hand b in
    let is = before_is s x in
    let sends = send_sends b.hand b in
    let same : waiting_for [] b.hand ≡ waiting_for [] x.hand = ap (waiting_for []) is.hand in
    let fewer : waiting_for r.listed_orders r.hand < length x.listed_orders + waiting_for [] b.hand =
    send_waits b.hand b (length x.listed_orders) refl is.listed_orders most (omega (arith, waiting_is x.listed_orders x.hand, waiting_is b.listed_orders b.hand, same)) in
    fewer_wait s.ring (may_take x) (may_take r) (waiting_for x.listed_orders x.hand) (waiting_for r.listed_orders r.hand) (stale (openings (told x.place)) x.entries) su
    (omega (arith, fewer, waiting_is x.listed_orders x.hand, same)) few
    (λ now.
    let parts = and_parts (needs_entry r.place) (is_none r.held) now in
    let needs : needs_entry x.place ≡ true = subst (λ (p : Place). needs_entry p ≡ true) (sends.place ∙ is.place) parts.0 in
    let none : x.held ≡ None = is.held (sym sends.held ∙ some_none r.held parts.1) in
    both needs (none_from x.held none))
  where
    both : {b c : Bool} → b ≡ true → c ≡ true → (b && c) ≡ true
    both e f = cc

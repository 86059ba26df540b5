-- A step tells one order at most, and one that opens an epoch, but Stop, has the number of the next record to fetch.
use Rattle.std.proofs.Common.{◌≡◌, ◌⊎◌, ℕ, zero, suc, ◌-◌, ◌≤◌, ◌==◌, Option, Some, None, IfSome, List, [], ◌∷◌, ◌++◌, length, drop, refl, ap, sym, ◌∙◌, subst, arith, inl, inr, ⊎_elim, length-append}
use Rattle.std.proofs.lemmas.Bool.{cond-true, cond-false, eq-eqb, ne_eqb}
use Rattle.rollback_cmds.specs.declared.order.Order.{Order}
use Rattle.mono_model.specs.declared.setup.Setup.{Setup}
use Rattle.mono_model.specs.Demand.{next, Run, turn_at, turn, step_by, step, place, Place, told}
use Rattle.mono_model.specs.Split.{newest, told_by}
use Rattle.machine_laws.specs.Telling.{with_order, OpensAt}
use Rattle.machine_laws.proofs.Making.{AllOpenAt, turn_made}
use Rattle.machine_laws.proofs.Always.{owed_behind, at_each_turn, owed_within}

-- one more order, which opens an epoch at this number, if it opens one but Stop
pub record OneMore (n : ℕ) (os behind : List Order) : Type 0 where
  pub order : Order
  pub orders : behind ≡ order ∷ os
  pub opens : OpensAt n order

-- the orders told are the same, or one more
abbrev pub TellsOne : Place → Place → Type 0
TellsOne p q = (told q ≡ told p) ⊎ OneMore (next q.run.demand) (told p) (told q)

pub by_none : (p q : Place) → told q ≡ told p → told_by p q ≡ None
by_none p q is =
    cond-true (length (told p) == length (told q)) None (newest (told q)) (eq-eqb (length (told p)) (length (told q)) (ap (λ (os : List Order). length os) (sym is)))

pub by_one : (p q : Place) (o : Order) → told q ≡ o ∷ told p → told_by p q ≡ Some o
by_one p q o is =
    let count : length (told q) ≡ suc (length (told p)) = ap (λ (os : List Order). length os) is in
    cond-false (length (told p) == length (told q)) None (newest (told q)) (ne_eqb (length (told p)) (length (told q)) (λ same. omega arith)) ∙ ap newest is

-- so many orders in front are such
abbrev pub FirstOpenAt : ℕ → ℕ → List Order → Type 0
FirstOpenAt n zero os = Unit {0}
FirstOpenAt n (suc k) [] = Unit {0}
FirstOpenAt n (suc k) (o ∷ os) = OpensAt n o × FirstOpenAt n k os

pub one_fewer : (n k : ℕ) (os : List Order) → FirstOpenAt n (suc k) os → FirstOpenAt n k os
one_fewer n zero os opens = tt
one_fewer n (suc k) [] opens = tt
one_fewer n (suc k) (o ∷ os) opens = (opens.0, one_fewer n k os opens.1)

pub first_made : (n k : ℕ) (made os : List Order) → AllOpenAt n made → k ≤ length made → FirstOpenAt n k (made ++ os)
first_made n zero made os opens within = tt
first_made n (suc k) [] os opens within = absurd (omega arith)
first_made n (suc k) (o ∷ made) os opens within = (opens.0, first_made n k made os opens.1 (omega arith))

-- the oldest of them
pub oldest_of : (n k : ℕ) (os : List Order) → FirstOpenAt n (suc k) os → suc k ≤ length os → OneMore n (drop (suc k) os) (drop k os)
oldest_of n k [] opens within = absurd (omega arith)
oldest_of n zero (o ∷ os) opens within = record { order = o; orders = refl; opens = opens.0 }
oldest_of n (suc k) (o ∷ os) opens within = oldest_of n k os opens.1 (omega arith)

drop_made : (made os : List Order) → drop (length made) (made ++ os) ≡ os
drop_made [] os = refl
drop_made (o ∷ made) os = drop_made made os

pub turn_tells : (n : ℕ) (made os behind : List Order) → AllOpenAt n made → behind ≡ made ++ os → (k : ℕ) → k ≡ length behind - length os - 1 →
    (drop k behind ≡ os) ⊎ OneMore n os (drop k behind)
turn_tells n [] os behind opens is k e =
    let none : k ≡ 0 = omega (arith, ap (λ (x : List Order). length x) is) in
    inl (ap (λ (j : ℕ). drop j behind) none ∙ is)
turn_tells n (x ∷ made) os behind opens is k e =
    let count : k ≡ length made = omega (arith, ap (λ (y : List Order). length y) is, length-append made os) in
    let one : OneMore n (drop (suc (length made)) (x ∷ made ++ os)) (drop (length made) (x ∷ made ++ os)) =
    oldest_of n (length made) (x ∷ made ++ os) (first_made n (suc (length made)) (x ∷ made) os opens (omega arith)) (omega (arith, length-append made os)) in
    inr (record {
      order = one.order;
      orders = ap (λ (j : ℕ). drop j behind) count ∙ ap (λ (y : List Order). drop (length made) y) is ∙ one.orders ∙ ap (λ (y : List Order). one.order ∷ y) (drop_made made os);
      opens = one.opens;
    })

-- the orders of a turn that aren't told yet are such too
abbrev OwedOpenAt : Place → Type 0
OwedOpenAt p = FirstOpenAt (next p.run.demand) p.owed p.run.demand.orders

turn_owed : (s : Setup) (r : Run) → FirstOpenAt (next (turn s r).demand) (owed_behind s r) (turn s r).demand.orders
unfolding turn
turn_owed s r =
    let behind = (turn_at s r.at r.demand).demand in
    let made = turn_made s r.at r.demand in
    let owed = length behind.orders - length r.demand.orders - 1 in
    subst (λ (os : List Order). FirstOpenAt (next behind) owed os) (sym made.orders)
    (first_made (next behind) owed made.made r.demand.orders made.opens (omega (arith, ap (λ (os : List Order). length os) made.orders, length-append made.made r.demand.orders)))

place_owed : (s : Setup) (k : ℕ) → OwedOpenAt (place s k)
place_owed s =
    at_each_turn s (λ k r owed. FirstOpenAt (next r.demand) owed r.demand.orders) tt (λ k r opens. turn_owed s r)
    (λ k owed r opens. one_fewer (next r.demand) owed r.demand.orders opens)

step_tells : (s : Setup) (owed : ℕ) (r : Run) → FirstOpenAt (next r.demand) owed r.demand.orders → owed ≤ length r.demand.orders → TellsOne (record { run = r; owed = owed }) (step_by s owed r)
unfolding turn
step_tells s zero r opens within =
    let behind = (turn_at s r.at r.demand).demand in
    let made = turn_made s r.at r.demand in
    turn_tells (next behind) made.made r.demand.orders behind.orders made.opens made.orders (length behind.orders - length r.demand.orders - 1) refl
step_tells s (suc owed) r opens within = inr (oldest_of (next r.demand) owed r.demand.orders opens within)

place_tells : (s : Setup) (k : ℕ) → TellsOne (place s k) (place s (suc k))
unfolding place step
place_tells s k = step_tells s (place s k).owed (place s k).run (place_owed s k) (owed_within s k)

-- a step tells what `told_by` says
pub tells_told : (p q : Place) → TellsOne p q → told q ≡ with_order (told_by p q) (told p)
tells_told p q tells = ⊎_elim none one tells
  where
    none : told q ≡ told p → told q ≡ with_order (told_by p q) (told p)
    none is = is ∙ ap (λ (o : Option Order). with_order o (told p)) (sym (by_none p q is))

    one : OneMore (next q.run.demand) (told p) (told q) → told q ≡ with_order (told_by p q) (told p)
    one more = more.orders ∙ ap (λ (o : Option Order). with_order o (told p)) (sym (by_one p q more.order more.orders))

pub step_told : (s : Setup) (k : ℕ) → told (place s (suc k)) ≡ with_order (told_by (place s k) (place s (suc k))) (told (place s k))
step_told s k = tells_told (place s k) (place s (suc k)) (place_tells s k)

pub tells_opens : (p q : Place) → TellsOne p q → IfSome (told_by p q) (OpensAt (next q.run.demand))
tells_opens p q tells = ⊎_elim none one tells
  where
    none : told q ≡ told p → IfSome (told_by p q) (OpensAt (next q.run.demand))
    none is = subst (λ (o : Option Order). IfSome o (OpensAt (next q.run.demand))) (sym (by_none p q is)) tt

    one : OneMore (next q.run.demand) (told p) (told q) → IfSome (told_by p q) (OpensAt (next q.run.demand))
    one more = subst (λ (o : Option Order). IfSome o (OpensAt (next q.run.demand))) (sym (by_one p q more.order more.orders)) more.opens

pub step_opens : (s : Setup) (k : ℕ) → IfSome (told_by (place s k) (place s (suc k))) (OpensAt (next (place s (suc k)).run.demand))
step_opens s k = tells_opens (place s k) (place s (suc k)) (place_tells s k)

-- Each order of a run is told by a step, and what holds of the orders told holds of those in its list.
use Rattle.std.proofs.Common.{◌≡◌, ◌⊎◌, ℕ, zero, suc, ◌+◌, ◌*◌, ◌≤◌, true, Option, Some, None, List, [], ◌∷◌, ◌++◌, length, reverse, drop, refl, ap, sym, ◌∙◌, subst, arith, inl, inr, ⊎_elim, mul-le-mul, length-append}
use Rattle.std.proofs.lemmas.List.{reverse-append, length-reverse}
use Rattle.std.proofs.lemmas.Bool.{cases_lt}
use Rattle.rollback_cmds.specs.declared.order.Order.{Order}
use Rattle.trace_entry.specs.declared.Entry.{Entry}
use Rattle.mono_model.specs.declared.setup.Setup.{Setup}
use Rattle.mono_model.specs.Setup.{is_setup}
use Rattle.mono_model.specs.Path.{entry, openings}
use Rattle.mono_model.specs.Demand.{Place, place, told, next, needs_entry, needed_entry, is_try, step_bound, order_in, order, entry_in}
use Rattle.mono_model.specs.Split.{told_by}
use Rattle.machine_laws.specs.Numbers.{last_commit, AreAtCommit}
use Rattle.machine_laws.specs.Telling.{with_order}
use Rattle.machine_laws.specs.Told.{AreTold, IsToldBehind, IsToldAt, HasName}
use Rattle.machine_laws.specs.NextOrder.{AreSmall}
use Rattle.machine_laws.proofs.Bounds.{run_bounded}
use Rattle.machine_laws.proofs.Epochs.{entry_of_epoch}
use Rattle.machine_laws.proofs.Numbering.{orders_at_commit}
use Rattle.machine_laws.proofs.SplitAhead.{entry_epoch, entry_number, needs_none}
use Rattle.machine_laws.proofs.SplitBounds.{told_count}
use Rattle.mono_model.specs.Sound.{IsSetup}
use Rattle.mono_model.proofs.Sound.{setup_facts}
use Rattle.machine_laws.proofs.Staying.{done_told}
use Rattle.machine_laws.proofs.Telling.{step_told}
use Rattle.machine_laws.proofs.Laws.{Grows, grows_to}
use Rattle.machine_laws.proofs.MonoRun.{mono_laws}
use Rattle.machine_laws.proofs.Whole.{orders_are}

-- an order in a list with one more behind it is in the list, or is that one
some_same : (x y : Order) → Some x ≡ Some y → x ≡ y
some_same x y e = cc

in_front : (xs : List Order) (x o : Order) (i : ℕ) → order_in (xs ++ x ∷ []) i ≡ Some o → (order_in xs i ≡ Some o) ⊎ ((length xs ≡ i) × (x ≡ o))
in_front [] x o zero is = inr (refl, some_same x o is)
in_front [] x o (suc i) is = cc
in_front (y ∷ ys) x o zero is = inl is
in_front (y ∷ ys) x o (suc i) is = ⊎_elim (λ front. inl front) (λ last. inr (ap suc last.0, last.1)) (in_front ys x o i is)

pub tells_more : (s : Setup) (k : ℕ) (o : Order) → told_by (place s k) (place s (suc k)) ≡ Some o → told (place s (suc k)) ≡ o ∷ told (place s k)
tells_more s k o is = step_told s k ∙ ap (λ (x : Option Order). with_order x (told (place s k))) is

told_one : (s : Setup) (k i : ℕ) (o x : Order) → told_by (place s k) (place s (suc k)) ≡ Some x → length (reverse (told (place s k))) ≡ i → x ≡ o → IsToldAt s i o
told_one s k i o x is at same = record {
  before = told (place s k);
  length_is = sym (length-reverse (told (place s k))) ∙ at;
  told = record { steps = k; before = refl; tells = is ∙ ap (λ (y : Order). Some y) same; behind = tells_more s k o (is ∙ ap (λ (y : Order). Some y) same) };
}

by_told : (s : Setup) (k i : ℕ) (o : Order) (t : Option Order) → told_by (place s k) (place s (suc k)) ≡ t → (order_in (reverse (told (place s k))) i ≡ Some o → IsToldAt s i o) →
    order_in (reverse (told (place s (suc k)))) i ≡ Some o → IsToldAt s i o
by_told s k i o None e before is =
    before (ap (λ (os : List Order). order_in (reverse os) i) (sym (step_told s k ∙ ap (λ (x : Option Order). with_order x (told (place s k))) e)) ∙ is)
by_told s k i o (Some x) e before is =
    let os : List Order = told (place s k) in
    let more : reverse (told (place s (suc k))) ≡ reverse os ++ x ∷ [] = ap (λ (l : List Order). reverse l) (tells_more s k x e) ∙ reverse-append (x ∷ []) os in
    ⊎_elim before (λ last. told_one s k i o x e last.0 last.1)
    (in_front (reverse os) x o i (ap (λ (l : List Order). order_in l i) (sym more) ∙ is))

none_at : (s : Setup) (i : ℕ) (o : Order) → order_in (reverse (told (place s zero))) i ≡ Some o → IsToldAt s i o
unfolding place
none_at s i o is = cc

told_at : (s : Setup) (k i : ℕ) (o : Order) → order_in (reverse (told (place s k))) i ≡ Some o → IsToldAt s i o
told_at s zero i o is = none_at s i o is
told_at s (suc k) i o is = by_told s k i o (told_by (place s k) (place s (suc k))) refl (told_at s k i o) is

pub order_told_at : (s : Setup) (i : ℕ) (o : Order) → order s i ≡ Some o → IsToldAt s i o
order_told_at s i o is = told_at s (step_bound s) i o (ap (λ (os : List Order). order_in os i) (sym (orders_are s)) ∙ is)

-- as many orders told are the same orders
same_list : (later os : List Order) → length (later ++ os) ≡ length os → later ++ os ≡ os
same_list [] os is = refl
same_list (o ∷ later) os is = absurd (omega (arith, length-append (o ∷ later) os))

as_many : (p q : Place) → Grows p q → length (told q) ≡ length (told p) → told q ≡ told p
as_many p q grows is = grows.orders ∙ same_list grows.later (told p) (sym (ap (λ (os : List Order). length os) grows.orders) ∙ is)

pub same_told : (s : Setup) (k l : ℕ) → length (told (place s l)) ≡ length (told (place s k)) → told (place s l) ≡ told (place s k)
same_told s k l is = ⊎_elim
    (λ less. sym (as_many (place s l) (place s k) (grows_to (mono_laws s) l k (omega arith)) (sym is)))
    (λ more. as_many (place s k) (place s l) (grows_to (mono_laws s) k l (omega arith)) is) (cases_lt l k)

pub order_told_behind : (s : Setup) (os : List Order) (o : Order) → AreTold s os → order s (length os) ≡ Some o → IsToldBehind s os o
order_told_behind s os o are is =
    let at : IsToldAt s (length os) o = order_told_at s (length os) o is in
    let same : told (place s at.told.steps) ≡ os =
    same_told s are.steps at.told.steps
    (ap (λ (l : List Order). length l) at.told.before ∙ at.length_is ∙ ap (λ (l : List Order). length l) (sym are.are)) ∙ are.are in
    record {
      steps = at.told.steps;
      before = same;
      tells = at.told.tells;
      behind = tells_more s at.told.steps o at.told.tells ∙ ap (λ (l : List Order). o ∷ l) same;
    }

-- what holds of the orders told
pub none_told : (s : Setup) → AreTold s []
unfolding place
none_told s = record { steps = 0; are = refl }

pub told_at_commit : (s : Setup) (os : List Order) → AreTold s os → AreAtCommit os
told_at_commit s os told = subst AreAtCommit told.are (orders_at_commit s told.steps)

pub told_small : (s : Setup) (os : List Order) → is_setup s ≡ true → AreTold s os → AreSmall s os
told_small s os sound are =
    let r : IsSetup s = setup_facts s sound in
    let bounded = run_bounded s are.steps r.some_cycle in
    let commits : s.params.core_commit * s.cycles ≤ 8 * 1099511627776 = mul-le-mul r.commit r.cycles in
    let fetches : s.params.core_fetch + 6 ≤ 14 = omega (arith, r.fetch) in
    let steps : s.cycles * (s.params.core_fetch + 6) ≤ 1099511627776 * 14 = mul-le-mul r.cycles fetches in
    record {
      position = omega (arith, ap (λ (l : List Order). last_commit l) are.are, done_told s are.steps, bounded.to_commit, commits, r.window, r.ring);
      epoch = omega (arith, ap (λ (l : List Order). openings l) are.are, told_count s are.steps r.some_cycle, steps);
    }

pub told_named : (s : Setup) (os : List Order) (n : ℕ) → 1 ≤ s.cycles → AreTold s os → HasName s os n
told_named s os n limited are =
    let epoch : (entry s os n).epoch ≡ openings os = entry_epoch s os n in
    let number : (entry s os n).number ≡ n = entry_number s os n in
    record {
      epoch = epoch;
      number = number;
      named = ap (λ (l : List Order). entry s l n) (sym are.are) ∙ sym (entry_of_epoch s are.steps n limited)
          ∙ ap (λ (l : List Order). entry_in s (openings l) n) are.are ∙ ap (λ (e : ℕ). entry_in s e n) (sym epoch) ∙ ap (entry_in s (entry s os n).epoch) (sym number);
    }

-- the entry that a try needs
pub needed_is : (s : Setup) (k : ℕ) (e : Entry) → 1 ≤ s.cycles → needs_entry (place s k) ≡ true → e ≡ entry_in s e.epoch e.number →
    e.epoch ≡ openings (told (place s k)) → e.number ≡ next (place s k).run.demand → e ≡ needed_entry s (place s k)
needed_is s k e limited needs named epoch number =
    let p : Place = place s k in
    named ∙ ap (λ (f : ℕ). entry_in s f e.number) epoch ∙ ap (entry_in s (openings (told p))) number ∙ entry_of_epoch s k (next p.run.demand) limited
    ∙ ap (λ (n : ℕ). entry s (drop n p.run.demand.orders) (next p.run.demand)) (needs_none p.owed (is_try p.run.at) needs)

-- An entry under way is that of its epoch and number.
use Rattle.std.proofs.Common.{◌≡◌, ◌⊎◌, ℕ, zero, suc, ◌+◌, ◌-◌, ◌≤◌, ◌==◌, Option, Some, None, List, [], ◌∷◌, ◌++◌, reverse, refl, ap, sym, ◌∙◌, subst, arith, inl, inr, ⊎_elim, append_assoc}
use Rattle.std.proofs.lemmas.Bool.{cond_both, cond-true, eq-eqb, eqb-true}
use mathlib.Core.List.{append-nil, reverse-append, reverse-reverse}
use Rattle.rollback_cmds.specs.declared.order.Order.{Order}
use Rattle.trace_entry.specs.declared.Entry.{Entry}
use Rattle.mono_model.specs.declared.setup.Setup.{Setup}
use Rattle.mono_model.specs.Path.{entry, openings}
use Rattle.mono_model.specs.Demand.{Place, told, prefix_with}
use Rattle.mono_model.specs.Split.{told_by}
use Rattle.machine_laws.specs.Telling.{with_order}
use Rattle.machine_laws.specs.SplitLaw.{IsEntry}
use Rattle.machine_laws.specs.DemandRun.{DemandRun}
use Rattle.machine_laws.proofs.Laws.{IsDemandRun, still_from}
use Rattle.machine_laws.proofs.SplitOrders.{obey_list}
use Rattle.machine_laws.proofs.SplitLists.{openings_reverse}
use Rattle.machine_laws.proofs.SplitAhead.{entry_epoch}
use Rattle.machine_laws.proofs.SplitEntries.{no_opening}

-- the shortest front of the orders that opens an epoch gives its entries
prefix_entry : (s : Setup) (n epoch : ℕ) (xs ys acc : List Order) → epoch ≡ openings xs + openings acc → entry s (prefix_with acc (xs ++ ys) epoch) n ≡ entry s (reverse xs ++ acc) n
prefix_entry s n epoch [] [] acc is = refl
prefix_entry s n epoch [] (o ∷ ys) acc is =
    ap (λ (l : List Order). entry s l n) (cond-true (openings acc == epoch) acc (prefix_with (o ∷ acc) ys epoch) (eq-eqb (openings acc) epoch (omega (arith, is))))
prefix_entry s n epoch (o ∷ xs) ys acc is =
    cond_both (openings acc == epoch) acc (prefix_with (o ∷ acc) (xs ++ ys) epoch) (λ (l : List Order). entry s l n ≡ entry s (reverse (o ∷ xs) ++ acc) n)
    (λ same. sym (no_opening s (reverse (o ∷ xs)) acc n (omega (arith, is, eqb-true (openings acc) epoch same, openings_reverse (o ∷ xs)))))
    (λ other. prefix_entry s n epoch xs ys (o ∷ acc) (omega (arith, is)) ∙ ap (λ (l : List Order). entry s l n) (sym (obey_list o xs acc)))

-- the orders told at a place are the oldest of all
pub record Grown (os all : List Order) : Type 0 where
  pub later : List Order
  pub orders : all ≡ later ++ os

grown_by : (o : Option Order) (os all : List Order) → Grown os all → Grown os (with_order o all)
grown_by None os all is = is
grown_by (Some o) os all is = record { later = o ∷ is.later; orders = ap (λ (l : List Order). o ∷ l) is.orders }

total : (a b : ℕ) → (a ≤ b) ⊎ (b ≤ a)
total zero b = inl (omega arith)
total (suc a) zero = inr (omega arith)
total (suc a) (suc b) = ⊎_elim (λ l. inl (omega arith)) (λ r. inr (omega arith)) (total a b)

module _ {s : Setup} {r : DemandRun} (laws : IsDemandRun s r) where
  pub grown_on : (k j : ℕ) → Grown (told (r.places k)) (told (r.places (j + k)))
  grown_on k zero = let e : k ≡ zero + k = omega arith in subst (λ (i : ℕ). Grown (told (r.places k)) (told (r.places i))) e (record { later = []; orders = refl })
  grown_on k (suc j) =
      let e : suc (j + k) ≡ suc j + k = omega arith in
      subst (λ (i : ℕ). Grown (told (r.places k)) (told (r.places i))) e
      (subst (Grown (told (r.places k))) (sym (laws.tells (j + k))) (grown_by (told_by (r.places (j + k)) (r.places (suc (j + k)))) (told (r.places k)) (told (r.places (j + k))) (grown_on k j)))

  pub grown_all : (k : ℕ) → 1 ≤ s.cycles → Grown (told (r.places k)) (told (r.places r.bound))
  grown_all k cycles = ⊎_elim early late (total k r.bound)
    where
      early : k ≤ r.bound → Grown (told (r.places k)) (told (r.places r.bound))
      early less = let e : (r.bound - k) + k ≡ r.bound = omega arith in subst (λ (i : ℕ). Grown (told (r.places k)) (told (r.places i))) e (grown_on k (r.bound - k))

      late : r.bound ≤ k → Grown (told (r.places k)) (told (r.places r.bound))
      late more = record { later = []; orders = ap (λ (p : Place). told p) (sym (still_from laws cycles k more)) }

  pub entry_named : (k : ℕ) (e : Entry) → 1 ≤ s.cycles → IsEntry s (told (r.places k)) e → e ≡ r.entry_of e.epoch e.number
  entry_named k e cycles is =
      is.made ∙ ap (λ (l : List Order). entry s l e.number) (sym (append-nil is.before) ∙ ap (λ (l : List Order). l ++ []) (sym reversed)) ∙ sym (prefix_entry s e.number e.epoch (reverse is.before) (reverse front) [] epoch)
      ∙ ap (λ (l : List Order). entry s (prefix_with [] l e.epoch) e.number) (sym all) ∙ sym (laws.named e.epoch e.number)
    where
      grown : Grown (told (r.places k)) (told (r.places r.bound))
      grown = grown_all k cycles

      front : List Order
      front = grown.later ++ is.later

      reversed : reverse (reverse is.before) ≡ is.before
      reversed = reverse-reverse is.before

      all : reverse (told (r.places r.bound)) ≡ reverse is.before ++ reverse front
      all = ap (λ (l : List Order). reverse l) (grown.orders ∙ ap (λ (l : List Order). grown.later ++ l) is.orders ∙ sym (append_assoc grown.later is.later is.before)) ∙ reverse-append front is.before

      epoch : e.epoch ≡ openings (reverse is.before) + openings []
      epoch = omega (arith, ap (λ (a : Entry). a.epoch) is.made, entry_epoch s is.before e.number, openings_reverse is.before)

-- The orders told up to a place are the first ones of the whole run's.
use Rattle.std.proofs.Common.{◌≡◌, ℕ, suc, ◌≤◌, ◌<◌, Option, Some, None, IfSome, List, [], ◌∷◌, ◌++◌, length, reverse, refl, ap, sym, ◌∙◌, arith, ⊎_elim, append_assoc, append-nil}
use Rattle.std.proofs.lemmas.List.{reverse-append, length-reverse}
use Rattle.std.proofs.lemmas.Bool.{cases_lt}
use Rattle.rollback_cmds.specs.declared.order.Order.{Order}
use Rattle.mono_model.specs.declared.setup.Setup.{Setup}
use Rattle.mono_model.specs.Demand.{Place, place, told, step_bound, orders, order_in, order}
use Rattle.mono_model.specs.Split.{told_by}
use Rattle.machine_laws.specs.Telling.{with_order}
use Rattle.machine_laws.proofs.Laws.{grows_to}
use Rattle.machine_laws.proofs.MonoRun.{mono_laws}
use Rattle.machine_laws.proofs.Halting.{run_halts}
use Rattle.machine_laws.proofs.Telling.{step_told}

-- the whole list begins with what is told
pub record Begins (s : Setup) (p : Place) : Type 0 where
  pub rest : List Order
  pub orders : orders s ≡ reverse (told p) ++ rest

pub orders_are : (s : Setup) → orders s ≡ reverse (told (place s (step_bound s)))
unfolding orders
orders_are s = refl

pub begins : (s : Setup) (k : ℕ) → 1 ≤ s.cycles → Begins s (place s k)
begins s k limited = ⊎_elim behind within (cases_lt (step_bound s) k)
  where
    bound : ℕ
    bound = step_bound s

    behind : bound < k → Begins s (place s k)
    behind over =
        let same : place s k ≡ place s bound = (run_halts s limited).still k (omega arith) in
        record {
          rest = [];
          orders = orders_are s ∙ ap (λ (p : Place). reverse (told p)) (sym same) ∙ sym (append-nil (reverse (told (place s k))));
        }

    within : k ≤ bound → Begins s (place s k)
    within under =
        let grows = grows_to (mono_laws s) k bound under in
        record {
          rest = reverse grows.later;
          orders = orders_are s ∙ ap (λ (os : List Order). reverse os) grows.orders ∙ reverse-append grows.later (told (place s k));
        }

pub orders_begin : (s : Setup) (k : ℕ) → 1 ≤ s.cycles → (rest : List Order) × (orders s ≡ reverse (told (place s k)) ++ rest)
orders_begin s k limited = let b = begins s k limited in (b.rest, b.orders)

-- the order that a step tells is the next one of all
in_its_place : (xs ys : List Order) (o : Order) → order_in (xs ++ o ∷ ys) (length xs) ≡ Some o
in_its_place [] ys o = refl
in_its_place (x ∷ xs) ys o = in_its_place xs ys o

-- where a step tells an order
pub record NextOrder (s : Setup) (p : Place) (o : Order) : Type 0 where
  pub rest : List Order
  pub orders : orders s ≡ reverse (told p) ++ o ∷ rest

pub next_order : (s : Setup) (k : ℕ) (o : Order) → 1 ≤ s.cycles → told_by (place s k) (place s (suc k)) ≡ Some o → NextOrder s (place s k) o
next_order s k o limited is =
    let p = place s k in
    let b = begins s (suc k) limited in
    let more : told (place s (suc k)) ≡ o ∷ told p = step_told s k ∙ ap (λ (x : Option Order). with_order x (told p)) is in
    record {
      rest = b.rest;
      orders = b.orders ∙ ap (λ (os : List Order). reverse os ++ b.rest) more ∙ ap (λ (os : List Order). os ++ b.rest) (reverse-append (o ∷ []) (told p))
          ∙ append_assoc (reverse (told p)) (o ∷ []) b.rest;
    }

pub by_some : {A : Type 0} (o : Option A) (P : A → Type 0) → ((x : A) → o ≡ Some x → P x) → IfSome o P
by_some None P holds = tt
by_some (Some x) P holds = holds x refl

pub order_is : (s : Setup) (k : ℕ) → 1 ≤ s.cycles → IfSome (told_by (place s k) (place s (suc k))) (λ o. order s (length (told (place s k))) ≡ Some o)
order_is s k limited =
    by_some (told_by (place s k) (place s (suc k))) (λ o. order s (length (told (place s k))) ≡ Some o) (λ o is.
    let n = next_order s k o limited is in
    let count : length (told (place s k)) ≡ length (reverse (told (place s k))) = sym (length-reverse (told (place s k))) in
    ap (λ (os : List Order). order_in os (length (told (place s k)))) n.orders
    ∙ ap (λ (i : ℕ). order_in (reverse (told (place s k)) ++ o ∷ n.rest) i) count
    ∙ in_its_place (reverse (told (place s k))) n.rest o)

-- Epochs are counted by the orders told: the entries of the newest one, and the number at which it begins.
use Rattle.std.proofs.Common.{◌≡◌, ℕ, zero, suc, ◌+◌, ◌-◌, ◌≤◌, ◌==◌, if◌then◌else◌, Bool, true, false, Option, IfSome, List, [], ◌∷◌, ◌++◌, reverse, refl, ap, sym, ◌∙◌, arith, append_assoc, append-nil}
use Rattle.std.proofs.lemmas.List.{reverse-append, reverse-reverse}
use Rattle.std.proofs.lemmas.Bool.{cond-true, cond_both, eq-eqb, eqb-true}
use Rattle.rollback_cmds.specs.declared.order.Order.{Order}
use Rattle.rollback_cmds.specs.declared.order.Order.TheVariants.{Set, Commit, Interrupt, Time, Stop, Sync}
use Rattle.rollback_cmds.specs.Order.{opens_epoch_of}
use Rattle.mono_model.specs.declared.setup.Setup.{Setup}
use Rattle.mono_model.specs.Path.{path, time_of, entry, openings}
use Rattle.mono_model.specs.Sequence.{entry_at}
use Rattle.mono_model.specs.Demand.{place, told, orders, number_of, opening_number, opening_in, first, prefix_with, entry_in}
use Rattle.mono_model.specs.Split.{told_by}
use Rattle.machine_laws.specs.Telling.{with_order}
use Rattle.machine_laws.proofs.Telling.{step_told}
use Rattle.machine_laws.proofs.Whole.{begins, next_order, by_some}

-- orders, the first in front, put one after the other in front of a list
abbrev onto : List Order → List Order → List Order
onto [] os = os
onto (o ∷ xs) os = onto xs (o ∷ os)

onto_is : (xs os : List Order) → onto xs os ≡ reverse xs ++ os
onto_is [] os = refl
onto_is (o ∷ xs) os =
    onto_is xs (o ∷ os) ∙ sym (append_assoc (reverse xs) (o ∷ []) os) ∙ ap (λ (ys : List Order). ys ++ os) (sym (reverse-append (o ∷ []) xs))

openings_grow : (xs os : List Order) → openings os ≤ openings (onto xs os)
openings_grow [] os = omega arith
openings_grow (o ∷ xs) os = omega (arith, openings_grow xs (o ∷ os))

-- an order that opens no epoch leaves all entries
entry_same : (s : Setup) (o : Order) (os : List Order) (n : ℕ) → openings (o ∷ os) ≤ openings os → entry s (o ∷ os) n ≡ entry s os n
unfolding entry path
entry_same s (Set m addr) os n same = absurd (omega arith)
entry_same s (Commit m) os n same = ap (λ (e : ℕ). entry_at s (time_of os n) (path s os n) n e) (omega arith)
entry_same s (Interrupt m) os n same = absurd (omega arith)
entry_same s (Time m v) os n same = absurd (omega arith)
entry_same s (Stop m) os n same = absurd (omega arith)
entry_same s (Sync m) os n same = absurd (omega arith)

entries_same : (s : Setup) (xs os : List Order) (n : ℕ) → openings (onto xs os) ≡ openings os → entry s (onto xs os) n ≡ entry s os n
entries_same s [] os n same = refl
entries_same s (o ∷ xs) os n same =
    let grow = openings_grow xs (o ∷ os) in
    let one : openings os ≤ openings (o ∷ os) = omega arith in
    entries_same s xs (o ∷ os) n (omega (arith, grow)) ∙ entry_same s o os n (omega (arith, grow))

-- the shortest front with as many openings has the same entries as all of them
prefix_entries : (s : Setup) (xs rest os : List Order) (n epoch : ℕ) → epoch ≡ openings (onto xs os) → entry s (prefix_with os (xs ++ rest) epoch) n ≡ entry s (onto xs os) n
prefix_entries s [] [] os n epoch is = refl
prefix_entries s [] (o ∷ rest) os n epoch is =
    ap (λ (ys : List Order). entry s ys n) (cond-true (openings os == epoch) os (prefix_with (o ∷ os) rest epoch) (eq-eqb (openings os) epoch (sym is)))
prefix_entries s (o ∷ xs) rest os n epoch is =
    cond_both (openings os == epoch) os (prefix_with (o ∷ os) (xs ++ rest) epoch) (λ ys. entry s ys n ≡ entry s (onto (o ∷ xs) os) n)
    (λ same. sym (entries_same s (o ∷ xs) os n (sym (eqb-true (openings os) epoch same ∙ is))))
    (λ other. prefix_entries s xs rest (o ∷ os) n epoch is)

-- the entries of the epoch in which the orders told end
pub entry_of_epoch : (s : Setup) (k n : ℕ) → 1 ≤ s.cycles → entry_in s (openings (told (place s k))) n ≡ entry s (told (place s k)) n
unfolding entry_in
entry_of_epoch s k n limited =
    let os = told (place s k) in
    let b = begins s k limited in
    let back : onto (reverse os) [] ≡ os = onto_is (reverse os) [] ∙ append-nil (reverse (reverse os)) ∙ reverse-reverse os in
    ap (λ (ys : List Order). entry s (prefix_with [] ys (openings os)) n) b.orders
    ∙ prefix_entries s (reverse os) b.rest [] n (openings os) (ap openings (sym back))
    ∙ ap (λ (ys : List Order). entry s ys n) back

openings_onto : (xs os : List Order) → openings (onto xs os) ≡ openings xs + openings os
openings_onto [] os = omega arith
openings_onto (o ∷ xs) os = omega (arith, openings_onto xs (o ∷ os))

openings_reverse : (os : List Order) → openings (reverse os) ≡ openings os
openings_reverse os =
    let e : onto os [] ≡ reverse os = onto_is os [] ∙ append-nil (reverse os) in
    let f : openings (onto os []) ≡ openings os = openings_onto os [] ∙ omega arith in
    ap openings (sym e) ∙ f

-- the number in the opening behind so many others
here_number : (b : Bool) (left number later : ℕ) → b ≡ true → left ≡ 0 → opening_number b left number later ≡ number
here_number true zero number later opens none = refl
here_number true (suc left) number later opens none = absurd (omega arith)
here_number false left number later opens none = cc

later_number : (b : Bool) (left count number later : ℕ) → left ≡ (if b then 1 else 0) + count → opening_number b left number later ≡ later
later_number true zero count number later is = absurd (omega arith)
later_number true (suc left) count number later is = refl
later_number false left count number later is = refl

one_less : (b : Bool) (left count : ℕ) → left ≡ (if b then 1 else 0) + count → (if b then left - 1 else left) ≡ count
one_less true left count is = omega arith
one_less false left count is = omega arith

opening_behind : (xs ys : List Order) (o : Order) (left : ℕ) → opens_epoch_of o ≡ true → left ≡ openings xs → opening_in (xs ++ o ∷ ys) left ≡ number_of o
opening_behind [] ys o left opens is =
    here_number (opens_epoch_of o) left (number_of o) (opening_in ys (if opens_epoch_of o then left - 1 else left)) opens is
opening_behind (x ∷ xs) ys o left opens is =
    later_number (opens_epoch_of x) left (openings xs) (number_of x) (opening_in (xs ++ o ∷ ys) (if opens_epoch_of x then left - 1 else left)) is
    ∙ opening_behind xs ys o (if opens_epoch_of x then left - 1 else left) opens (one_less (opens_epoch_of x) left (openings xs) is)

first_suc : (s : Setup) (n epoch : ℕ) → n ≡ suc epoch → first s n ≡ opening_in (orders s) epoch
unfolding first
first_suc s n epoch is = ap (λ (k : ℕ). first s k) is

one_opening : (b : Bool) (n : ℕ) → b ≡ true → (if b then 1 else 0) + n ≡ suc n
one_opening true n is = omega arith
one_opening false n is = cc

-- the epoch that a step opens begins at the number in its order
pub first_is : (s : Setup) (k : ℕ) → 1 ≤ s.cycles →
    IfSome (told_by (place s k) (place s (suc k))) (λ o. opens_epoch_of o ≡ true → first s (openings (told (place s (suc k)))) ≡ number_of o)
first_is s k limited =
    by_some (told_by (place s k) (place s (suc k))) (λ o. opens_epoch_of o ≡ true → first s (openings (told (place s (suc k)))) ≡ number_of o) (λ o is opens.
    let p = place s k in
    let n = next_order s k o limited is in
    let more : told (place s (suc k)) ≡ o ∷ told p = step_told s k ∙ ap (λ (x : Option Order). with_order x (told p)) is in
    let count : openings (told (place s (suc k))) ≡ suc (openings (told p)) = ap openings more ∙ one_opening (opens_epoch_of o) (openings (told p)) opens in
    first_suc s (openings (told (place s (suc k)))) (openings (told p)) count
    ∙ ap (λ (os : List Order). opening_in os (openings (told p))) n.orders
    ∙ opening_behind (reverse (told p)) n.rest o (openings (told p)) opens (sym (openings_reverse (told p))))

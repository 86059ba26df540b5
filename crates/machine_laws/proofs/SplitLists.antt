-- Lists of orders that wait to be obeyed, and of entries under way.
use Rattle.std.proofs.Common.{◌≡◌, ◌⊎◌, ℕ, suc, ◌+◌, ◌≤◌, ◌<◌, Option, Some, None, List, [], ◌∷◌, ◌++◌, reverse, refl, ap, sym, ◌∙◌, arith, inl, inr, ⊎_elim}
use mathlib.Core.List.{reverse-cons}
use Rattle.rollback_cmds.specs.declared.order.Order.{Order}
use Rattle.rollback_cmds.specs.declared.order.Order.TheVariants.{Set, Commit, Interrupt, Time, Stop, Sync}
use Rattle.trace_entry.specs.declared.Entry.{Entry}
use Rattle.mono_model.specs.Path.{openings}
use Rattle.mono_model.specs.Demand.{number_of}
use Rattle.machine_laws.specs.Telling.{with_order}
use Rattle.machine_laws.proofs.SplitTurns.{IsOpening}

-- the position once an order is obeyed
abbrev pub position_by : Order → ℕ → ℕ
position_by (Set m addr) n = m
position_by (Commit m) n = n
position_by (Interrupt m) n = m
position_by (Time m v) n = m
position_by (Stop m) n = m
position_by (Sync m) n = m

-- and once orders are, the first in front
abbrev pub position_behind : List Order → ℕ → ℕ
position_behind [] n = n
position_behind (o ∷ os) n = position_behind os (position_by o n)

-- each order has a number at or below the position at which it is obeyed
abbrev pub AreReached : ℕ → List Order → Type 0
AreReached n [] = Unit {0}
AreReached n (o ∷ os) = (number_of o ≤ n) × AreReached (position_by o n) os

pub opening_position : (o : Order) (n k : ℕ) → IsOpening k o → position_by o n ≡ k
opening_position (Set m addr) n k is = is.number
opening_position (Commit m) n k is = absurd (cc (is.opens))
opening_position (Interrupt m) n k is = is.number
opening_position (Time m v) n k is = is.number
opening_position (Stop m) n k is = is.number
opening_position (Sync m) n k is = is.number

pub position_last : (os : List Order) (o : Order) (n : ℕ) → position_behind (os ++ o ∷ []) n ≡ position_by o (position_behind os n)
position_last [] o n = refl
position_last (a ∷ os) o n = position_last os o (position_by a n)

pub reached_last : (os : List Order) (o : Order) (n : ℕ) → AreReached n os → number_of o ≤ position_behind os n → AreReached n (os ++ o ∷ [])
reached_last [] o n are most = (most, tt)
reached_last (a ∷ os) o n are most = (are.0, reached_last os o (position_by a n) are.1 most)

-- a position further on
reached_by : (o : Order) (os : List Order) (n m : ℕ) → n ≤ m → AreReached (position_by o n) os → ((k l : ℕ) → k ≤ l → AreReached k os → AreReached l os) → AreReached (position_by o m) os
reached_by (Set k addr) os n m less are more = are
reached_by (Commit k) os n m less are more = more n m less are
reached_by (Interrupt k) os n m less are more = are
reached_by (Time k v) os n m less are more = are
reached_by (Stop k) os n m less are more = are
reached_by (Sync k) os n m less are more = are

pub reached_further : (os : List Order) (n m : ℕ) → n ≤ m → AreReached n os → AreReached m os
reached_further [] n m less are = tt
reached_further (o ∷ os) n m less are = (omega (arith, are.0), reached_by o os n m less are.1 (reached_further os))

-- where no order opens an epoch the position stays, else it is that of the last one
pub position_stays : (os : List Order) (n : ℕ) → openings os ≡ 0 → position_behind os n ≡ n
position_stays [] n none = refl
position_stays (Set m addr ∷ os) n none = absurd (omega arith)
position_stays (Commit m ∷ os) n none = position_stays os n (omega arith)
position_stays (Interrupt m ∷ os) n none = absurd (omega arith)
position_stays (Time m v ∷ os) n none = absurd (omega arith)
position_stays (Stop m ∷ os) n none = absurd (omega arith)
position_stays (Sync m ∷ os) n none = absurd (omega arith)

pub position_same : (os : List Order) (n m : ℕ) → 0 < openings os → position_behind os n ≡ position_behind os m
position_same [] n m some = absurd (omega arith)
position_same (Set k addr ∷ os) n m some = refl
position_same (Commit k ∷ os) n m some = position_same os n m (omega arith)
position_same (Interrupt k ∷ os) n m some = refl
position_same (Time k v ∷ os) n m some = refl
position_same (Stop k ∷ os) n m some = refl
position_same (Sync k ∷ os) n m some = refl

pub openings_append : (xs ys : List Order) → openings (xs ++ ys) ≡ openings xs + openings ys
openings_append [] ys = omega arith
openings_append (o ∷ xs) ys = omega (arith, openings_append xs ys)

pub openings_reverse : (xs : List Order) → openings (reverse xs) ≡ openings xs
openings_reverse [] = refl
openings_reverse (o ∷ xs) =
    omega (arith, ap (λ (l : List Order). openings l) (reverse-cons o xs), openings_append (reverse xs) (o ∷ []), openings_reverse xs)

abbrev pub hand_list : Option Order → List Order
hand_list None = []
hand_list (Some o) = o ∷ []

openings_hand : (h : Option Order) (os : List Order) → openings (with_order h os) ≡ openings (hand_list h) + openings os
openings_hand None os = omega arith
openings_hand (Some o) os = omega arith

pub openings_told : (h : Option Order) (listed obeyed : List Order) → openings (with_order h (reverse listed ++ obeyed)) ≡ openings (listed ++ hand_list h) + openings obeyed
openings_told h listed obeyed =
    omega (arith, openings_hand h (reverse listed ++ obeyed), openings_append (reverse listed) obeyed, openings_reverse listed, openings_append listed (hand_list h))

abbrev pub entry_list : Option Entry → List Entry
entry_list None = []
entry_list (Some e) = e ∷ []

-- Entries, of which those of an epoch have the numbers from `n` on up to `m`, and the others are of earlier epochs.
abbrev pub Lead : ℕ → ℕ → List Entry → ℕ → Type 0
Lead epoch n [] m = n ≡ m
Lead epoch n (e ∷ es) m = ((e.epoch ≡ epoch) × (e.number ≡ n) × Lead epoch (suc n) es m) ⊎ ((e.epoch < epoch) × Lead epoch n es m)

abbrev pub EpochsAtMost : ℕ → List Entry → Type 0
EpochsAtMost k [] = Unit {0}
EpochsAtMost k (e ∷ es) = (e.epoch ≤ k) × EpochsAtMost k es

pub lead_last : (epoch n m : ℕ) (es : List Entry) (e : Entry) → e.epoch ≡ epoch → e.number ≡ m → Lead epoch n es m → Lead epoch n (es ++ e ∷ []) (suc m)
lead_last epoch n m [] e at is lead = inl (at, is ∙ sym lead, ap suc lead)
lead_last epoch n m (a ∷ es) e at is lead =
    ⊎_elim (λ here. inl (here.0, here.1, lead_last epoch (suc n) m es e at is here.2)) (λ gone. inr (gone.0, lead_last epoch n m es e at is gone.1)) lead

pub lead_stale : (epoch n m : ℕ) (es : List Entry) (e : Entry) → e.epoch < epoch → Lead epoch n es m → Lead epoch n (es ++ e ∷ []) m
lead_stale epoch n m [] e less lead = inr (less, lead)
lead_stale epoch n m (a ∷ es) e less lead =
    ⊎_elim (λ here. inl (here.0, here.1, lead_stale epoch (suc n) m es e less here.2)) (λ gone. inr (gone.0, lead_stale epoch n m es e less gone.1)) lead

pub lead_without : (epoch n m : ℕ) (es : List Entry) (e : Entry) → e.epoch < epoch → Lead epoch n (es ++ e ∷ []) m → Lead epoch n es m
lead_without epoch n m [] e less lead = ⊎_elim (λ here. absurd (omega (arith, here.0))) (λ gone. gone.1) lead
lead_without epoch n m (a ∷ es) e less lead =
    ⊎_elim (λ here. inl (here.0, here.1, lead_without epoch (suc n) m es e less here.2)) (λ gone. inr (gone.0, lead_without epoch n m es e less gone.1)) lead

pub lead_none : (epoch n k : ℕ) (es : List Entry) → k < epoch → EpochsAtMost k es → Lead epoch n es n
lead_none epoch n k [] less most = refl
lead_none epoch n k (e ∷ es) less most = inr (omega (arith, most.0), lead_none epoch n k es less most.1)

pub lead_most : (epoch n m : ℕ) (es : List Entry) → Lead epoch n es m → n ≤ m
lead_most epoch n m [] lead = omega arith
lead_most epoch n m (e ∷ es) lead = ⊎_elim (λ here. omega (arith, lead_most epoch (suc n) m es here.2)) (λ gone. lead_most epoch n m es gone.1) lead

pub lead_front : (epoch n m : ℕ) (e : Entry) (es : List Entry) → e.epoch ≡ epoch → Lead epoch n (e ∷ es) m → (e.number ≡ n) × Lead epoch (suc n) es m
lead_front epoch n m e es at lead = ⊎_elim (λ here. (here.1, here.2)) (λ gone. absurd (omega (arith, gone.0))) lead

pub lead_rest : (epoch n m : ℕ) (e : Entry) (es : List Entry) → (e.epoch ≡ epoch → ⊥) → Lead epoch n (e ∷ es) m → Lead epoch n es m
lead_rest epoch n m e es other lead = ⊎_elim (λ here. absurd (other here.0)) (λ gone. gone.1) lead

pub most_append : (k : ℕ) (xs ys : List Entry) → EpochsAtMost k xs → EpochsAtMost k ys → EpochsAtMost k (xs ++ ys)
most_append k [] ys first second = second
most_append k (e ∷ xs) ys first second = (first.0, most_append k xs ys first.1 second)

pub most_front : (k : ℕ) (xs ys : List Entry) → EpochsAtMost k (xs ++ ys) → EpochsAtMost k xs
most_front k [] ys most = tt
most_front k (e ∷ xs) ys most = (most.0, most_front k xs ys most.1)

pub most_behind : (k : ℕ) (xs ys : List Entry) → EpochsAtMost k (xs ++ ys) → EpochsAtMost k ys
most_behind k [] ys most = most
most_behind k (e ∷ xs) ys most = most_behind k xs ys most.1

pub most_further : (k l : ℕ) (es : List Entry) → k ≤ l → EpochsAtMost k es → EpochsAtMost l es
most_further k l [] less most = tt
most_further k l (e ∷ es) less most = (omega (arith, most.0), most_further k l es less most.1)

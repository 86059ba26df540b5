-- The phase of completion, slot by slot.
use Rattle.std.proofs.Common.{◌≡◌, ℕ, zero, suc, ◌+◌, ◌-◌, ◌<◌, ◌≤◌, if◌then◌else◌, Bool, true, false, Some, None, List, [], ◌∷◌, length, take, slice_get, slice_set, refl, ap, sym, ◌∙◌, inl, inr, arith, eq-eqb}
use Rattle.std.proofs.lemmas.Option.{slice_get_cases}
use Rattle.reorder_buffer.specs.declared.slot.Slot.{Slot}
use Rattle.reorder_buffer.specs.declared.slot.SlotState.{SlotState}
use Rattle.reorder_buffer.specs.declared.slot.SlotState.TheVariants.{Waiting, Until, Done}
use Rattle.in_flight.specs.Flight.{is_executing_state, executes, executes_at}
use Rattle.timing_side.specs.Complete.{is_finishing, is_mispredicted, finished, in_front, complete_next, completes}
use Rattle.timing_side.proofs.Next.{completes-cons}
use Rattle.timing_core.specs.Finishing.{completed_from}

-- a slot whose latency isn't over stays as it is
pub passes : (cycle place : ℕ) (slots : List Slot) (slot : Slot) → slice_get slots place ≡ Some slot → is_finishing cycle slot.state ≡ false →
    completed_from cycle place slots ≡ completed_from cycle (suc place) slots
passes cycle place [] slot is later = absurd (cc)
passes cycle zero (x ∷ rest) slot is later =
    let same : x ≡ slot = cc in
    completes-cons cycle x rest ∙ ap (λ (b : Bool). complete_next x b (completes cycle rest)) (ap (λ (y : Slot). is_finishing cycle y.state) same ∙ later)
passes cycle (suc place) (x ∷ rest) slot is later = ap (in_front x) (passes cycle place rest slot is later)

-- behind the last slot
pub completed_all : (cycle place : ℕ) (slots : List Slot) → length slots ≤ place → completed_from cycle place slots ≡ record { slots = slots; redirect = None }
unfolding completes
completed_all cycle zero [] over = refl
completed_all cycle (suc place) [] over = refl
completed_all cycle zero (x ∷ rest) over = absurd (omega arith)
completed_all cycle (suc place) (x ∷ rest) over = ap (in_front x) (completed_all cycle place rest (omega arith))

-- slots that don't execute stay as they are
not_due : (cycle : ℕ) (state : SlotState) → is_executing_state state ≡ false → is_finishing cycle state ≡ false
not_due cycle Waiting rests = refl
not_due cycle (Until e) rests = absurd cc
not_due cycle Done rests = refl

rests_at : (slots : List Slot) (place : ℕ) (slot : Slot) → slice_get slots place ≡ Some slot → executes_at slots place ≡ false → is_executing_state slot.state ≡ false
rests_at slots place slot here rests = sym (ap executes here) ∙ rests

passes_one : (cycle place : ℕ) (slots : List Slot) → executes_at slots place ≡ false → completed_from cycle place slots ≡ completed_from cycle (suc place) slots
passes_one cycle place slots rests = elim (slice_get_cases slots place).1 [
  | inl there ↦ passes cycle place slots there.0 there.2 (not_due cycle there.0.state (rests_at slots place there.0 there.2 rests))
  | inr over ↦ completed_all cycle place slots over.0 ∙ sym (completed_all cycle (suc place) slots (omega (arith, over.0)))
]

pub passes_some : (cycle count place : ℕ) (slots : List Slot) → ((k : ℕ) → place ≤ k → k < place + count → executes_at slots k ≡ false) →
    completed_from cycle place slots ≡ completed_from cycle (place + count) slots
passes_some cycle zero place slots rest = ap (λ n. completed_from cycle n slots) (let e : place ≡ place + 0 = omega arith in e)
passes_some cycle (suc count) place slots rest =
    passes_one cycle place slots (rest place (omega arith) (omega arith))
    ∙ passes_some cycle count (suc place) slots (λ k above below. rest k (omega arith) (omega arith))
    ∙ ap (λ n. completed_from cycle n slots) (let e : suc place + count ≡ place + suc count = omega arith in e)

pub passes_to : (cycle from place : ℕ) (slots : List Slot) → from ≤ place → ((k : ℕ) → from ≤ k → k < place → executes_at slots k ≡ false) →
    completed_from cycle from slots ≡ completed_from cycle place slots
passes_to cycle from place slots before rest =
    let e : from + (place - from) ≡ place = omega arith in
    passes_some cycle (place - from) from slots (λ k above below. rest k above (omega (arith, below, before))) ∙ ap (λ n. completed_from cycle n slots) e

-- behind the last slot that executes nothing is done
pub rests_all : (cycle from : ℕ) (slots : List Slot) → ((k : ℕ) → from ≤ k → executes_at slots k ≡ false) → completed_from cycle from slots ≡ record { slots = slots; redirect = None }
rests_all cycle from slots rest =
    passes_some cycle (length slots) from slots (λ k above below. rest k above) ∙ completed_all cycle (from + length slots) slots (omega arith)

-- where one executes there is a slot
pub executes_there : (slots : List Slot) (place : ℕ) → executes_at slots place ≡ true → place < length slots
executes_there slots place there = elim (slice_get_cases slots place).1 [
  | inl found ↦ found.1
  | inr over ↦ let none = ap executes over.1 in let e : executes_at slots place ≡ false = none in cc
]

pub first_there : (slots : List Slot) (place : ℕ) (slot : Slot) → slice_get slots place ≡ Some slot → place < length slots
first_there [] place slot there = absurd (cc)
first_there (x ∷ rest) zero slot there = omega arith
first_there (x ∷ rest) (suc place) slot there = omega (arith, first_there rest place slot there)

-- one that executes until a cycle is done in that
due_at : (cycle : ℕ) (state : SlotState) → state ≡ Until cycle → is_finishing cycle state ≡ true
due_at cycle state is = ap (is_finishing cycle) is ∙ eq-eqb cycle cycle refl

pub due_there : (cycle : ℕ) (slot : Slot) → slot.state ≡ Until cycle → is_finishing cycle slot.state ≡ true
due_there cycle slot is = due_at cycle slot.state is

-- one whose latency is over is done
pub finishes : (cycle place : ℕ) (slots : List Slot) (slot : Slot) → slice_get slots place ≡ Some slot → is_finishing cycle slot.state ≡ true → is_mispredicted slot ≡ false →
    completed_from cycle place slots ≡ completed_from cycle (suc place) (slice_set slots place (finished slot))
finishes cycle place [] slot is due right = absurd (cc)
finishes cycle zero (x ∷ rest) slot is due right =
    let same : x ≡ slot = cc in
    completes-cons cycle x rest
    ∙ ap (λ (y : Slot). complete_next y (is_finishing cycle y.state) (completes cycle rest)) same
    ∙ ap (λ (b : Bool). complete_next slot b (completes cycle rest)) due
    ∙ ap (λ (b : Bool). if b then record { slots = finished slot ∷ []; redirect = Some slot.next } else in_front (finished slot) (completes cycle rest)) right
finishes cycle (suc place) (x ∷ rest) slot is due right = ap (in_front x) (finishes cycle place rest slot is due right)

-- the first mispredicted slot is the last that stays
pub redirects : (cycle place : ℕ) (slots : List Slot) (slot : Slot) → slice_get slots place ≡ Some slot → is_finishing cycle slot.state ≡ true → is_mispredicted slot ≡ true →
    completed_from cycle place slots ≡ record { slots = take (suc place) (slice_set slots place (finished slot)); redirect = Some slot.next }
redirects cycle place [] slot is due wrong = absurd (cc)
redirects cycle zero (x ∷ rest) slot is due wrong =
    let same : x ≡ slot = cc in
    completes-cons cycle x rest
    ∙ ap (λ (y : Slot). complete_next y (is_finishing cycle y.state) (completes cycle rest)) same
    ∙ ap (λ (b : Bool). complete_next slot b (completes cycle rest)) due
    ∙ ap (λ (b : Bool). if b then record { slots = finished slot ∷ []; redirect = Some slot.next } else in_front (finished slot) (completes cycle rest)) wrong
redirects cycle (suc place) (x ∷ rest) slot is due wrong = ap (in_front x) (redirects cycle place rest slot is due wrong)

-- where no latency is over nothing is done
none_due_from : (cycle count place : ℕ) (slots : List Slot) → ((k : ℕ) (slot : Slot) → slice_get slots k ≡ Some slot → is_finishing cycle slot.state ≡ false) →
    completed_from cycle place slots ≡ completed_from cycle (place + count) slots
none_due_from cycle zero place slots later = ap (λ n. completed_from cycle n slots) (let e : place ≡ place + 0 = omega arith in e)
none_due_from cycle (suc count) place slots later =
    (elim (slice_get_cases slots place).1 [
      | inl there ↦ passes cycle place slots there.0 there.2 (later place there.0 there.2)
      | inr over ↦ completed_all cycle place slots over.0 ∙ sym (completed_all cycle (suc place) slots (omega (arith, over.0)))
    ])
    ∙ none_due_from cycle count (suc place) slots later
    ∙ ap (λ n. completed_from cycle n slots) (let e : suc place + count ≡ place + suc count = omega arith in e)

pub none_due : (cycle : ℕ) (slots : List Slot) → ((k : ℕ) (slot : Slot) → slice_get slots k ≡ Some slot → is_finishing cycle slot.state ≡ false) →
    completes cycle slots ≡ record { slots = slots; redirect = None }
none_due cycle slots later = none_due_from cycle (length slots) 0 slots later ∙ completed_all cycle (0 + length slots) slots (omega arith)

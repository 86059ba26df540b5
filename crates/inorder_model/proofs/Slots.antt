-- What the slots in the stages come to: the one in Execute, how many are done, and whether Execute is empty.
use Rattle.std.proofs.Common.{◌≡◌, ℕ, zero, suc, ◌+◌, ◌<◌, ◌≤◌, ◌&&◌, not, Bool, true, false, if◌then◌else◌, is_none, is_some, IfSome, IfNone, IsTrue, Option, Some, None, List, [], ◌∷◌, ◌++◌, length, take, drop, reverse, refl, ap, sym, ◌∙◌, arith}
use Rattle.std.specs.Prelude.{slice_get, nat_lt}
use Rattle.std.proofs.lemmas.Bool.{lt-ltb}
use Rattle.std.proofs.Math.Bool.{and_comm}
use Rattle.std.proofs.lemmas.List.{reverse-append}
use Rattle.reorder_buffer.specs.declared.slot.Slot.{Slot}
use Rattle.reorder_buffer.specs.declared.slot.SlotState.{SlotState}
use Rattle.reorder_buffer.specs.declared.slot.SlotState.TheVariants.{Waiting, Until, Done}
use Rattle.timing_side.specs.Slots.{is_waiting_state, is_done_state}
use Rattle.in_flight.specs.Flight.{older_at, is_executing_state, executes_at}
use Rattle.inorder_side.specs.Timing.{Executing, execute_by, in_execute, done_count}
use Rattle.inorder_model.proofs.Bool.{and_true, and_assoc}
use Rattle.inorder_model.proofs.Lists.{drop_there, ends_there}

-- how many are done from a place on, by whether the slot there is
pub done_next : (slots : List Slot) (place : ℕ) (slot : Slot) (b : Bool) → slice_get slots place ≡ Some slot → is_done_state slot.state ≡ b →
    done_count (drop place slots) ≡ (if b then 1 else 0) + done_count (drop (place + 1) slots)
done_next slots place slot b there is =
    let next : suc place ≡ place + 1 = omega arith in
    ap done_count (drop_there slots place slot there)
    ∙ ap (λ (b : Bool). (if b then 1 else 0) + done_count (drop (suc place) slots)) is
    ∙ ap (λ (k : ℕ). (if b then 1 else 0) + done_count (drop k slots)) next

-- one is done where the oldest is
pub one_done : (slots : List Slot) (slot : Slot) → slice_get slots 0 ≡ Some slot → is_done_state slot.state ≡ true → true ≡ nat_lt 0 (done_count slots)
one_done slots slot there is =
    let one = done_next slots 0 slot true there is in
    sym (lt-ltb 0 (done_count slots) (omega (arith, one)))

-- the slot in Execute is the first that executes
passed_over : (slot : Slot) (state : SlotState) (other : Option Executing) → is_executing_state state ≡ false → execute_by slot state other ≡ other
passed_over slot Waiting other is = refl
passed_over slot (Until e) other is = cc
passed_over slot Done other is = refl

pub first_executing : (slots : List Slot) (place : ℕ) (slot : Slot) (from : ℕ) → slice_get slots place ≡ Some slot → slot.state ≡ Until from →
    ((k : ℕ) → k < place → executes_at slots k ≡ false) → in_execute slots ≡ Some (record { slot = slot; from = from })
first_executing [] place slot from there is before = cc
first_executing (x ∷ rest) zero slot from there is before =
    let same : x ≡ slot = cc in
    ap (λ (y : Slot). execute_by y y.state (in_execute rest)) same ∙ ap (λ (state : SlotState). execute_by slot state (in_execute rest)) is
first_executing (x ∷ rest) (suc place) slot from there is before =
    passed_over x x.state (in_execute rest) (before 0 (omega arith))
    ∙ first_executing rest place slot from there is (λ k under. before (suc k) (omega arith))

-- the first place from 0 on is the first of all
pub first_of_all : (slots : List Slot) (r : Option ℕ) → IfSome r (λ place. (k : ℕ) → 0 ≤ k → k < place → executes_at slots k ≡ false) →
    IfSome r (λ place. (k : ℕ) → k < place → executes_at slots k ≡ false)
first_of_all slots None first = tt
first_of_all slots (Some place) first = λ k under. first k (omega arith) under

pub none_of_all : (slots : List Slot) (r : Option ℕ) → IfNone r ((k : ℕ) → 0 ≤ k → executes_at slots k ≡ false) → IfNone r ((k : ℕ) → executes_at slots k ≡ false)
none_of_all slots None none = λ k. none k (omega arith)
none_of_all slots (Some place) none = tt

pub none_executing : (slots : List Slot) → ((k : ℕ) → executes_at slots k ≡ false) → in_execute slots ≡ None
none_executing [] none = refl
none_executing (x ∷ rest) none = passed_over x x.state (in_execute rest) (none 0) ∙ none_executing rest (λ k. none (suc k))

-- Execute is empty
abbrev pub is_idle : List Slot → Bool
is_idle slots = is_none (in_execute slots)

idle_by : (slot : Slot) (state : SlotState) (other : Option Executing) → is_none (execute_by slot state other) ≡ (not (is_executing_state state) && is_none other)
idle_by slot Waiting other = refl
idle_by slot (Until e) other = refl
idle_by slot Done other = refl

idle_cons : (slot : Slot) (rest : List Slot) → is_idle (slot ∷ rest) ≡ (not (is_executing_state slot.state) && is_idle rest)
idle_cons slot rest = idle_by slot slot.state (in_execute rest)

idle_append : (xs ys : List Slot) → is_idle (xs ++ ys) ≡ (is_idle xs && is_idle ys)
idle_append [] ys = refl
idle_append (x ∷ xs) ys =
    idle_cons x (xs ++ ys)
    ∙ ap (λ (b : Bool). not (is_executing_state x.state) && b) (idle_append xs ys)
    ∙ sym (and_assoc (not (is_executing_state x.state)) (is_idle xs) (is_idle ys))
    ∙ ap (λ (b : Bool). b && is_idle ys) (sym (idle_cons x xs))

idle_reverse : (xs : List Slot) → is_idle (reverse xs) ≡ is_idle xs
idle_reverse [] = refl
idle_reverse (x ∷ xs) =
    ap (λ (l : List Slot). is_idle l) (reverse-append (x ∷ []) xs)
    ∙ idle_append (reverse xs) (x ∷ [])
    ∙ and_comm (is_idle (reverse xs)) (is_idle (x ∷ []))
    ∙ ap (λ (b : Bool). is_idle (x ∷ []) && b) (idle_reverse xs)
    ∙ sym (idle_append (x ∷ []) xs)

not_waiting : (state : SlotState) → is_waiting_state state ≡ true → is_executing_state state ≡ false
not_waiting Waiting is = refl
not_waiting (Until e) is = cc
not_waiting Done is = cc

-- before the youngest, which waits
pub idle_older : (slots : List Slot) (place : ℕ) (slot : Slot) → slice_get slots place ≡ Some slot → length slots ≡ place + 1 → is_waiting_state slot.state ≡ true →
    is_idle slots ≡ is_idle (older_at slots place)
idle_older slots place slot there last waits =
    ap is_idle (ends_there slots place slot there last)
    ∙ idle_append (take place slots) (slot ∷ [])
    ∙ ap (λ (b : Bool). is_idle (take place slots) && b) (idle_cons slot [] ∙ ap (λ (b : Bool). not b && true) (not_waiting slot.state waits))
    ∙ and_true (is_idle (take place slots))
    ∙ sym (idle_reverse (take place slots))

pub busy_there : (slots : List Slot) (place : ℕ) → executes_at slots place ≡ true → is_idle slots ≡ false
busy_there [] place is = cc
busy_there (x ∷ rest) zero is = idle_cons x rest ∙ ap (λ (b : Bool). not b && is_idle rest) is
busy_there (x ∷ rest) (suc place) is = idle_cons x rest ∙ ap (λ (b : Bool). not (is_executing_state x.state) && b) (busy_there rest place is) ∙ and_comm (not (is_executing_state x.state)) false

pub idle_none : (slots : List Slot) → ((k : ℕ) → executes_at slots k ≡ false) → is_idle slots ≡ true
idle_none slots none = ap (λ (x : Option Executing). is_none x) (none_executing slots none)

pub idle_is : (slots : List Slot) (r : Option ℕ) → IfSome r (λ place. IsTrue (executes_at slots place)) → IfNone r ((k : ℕ) → executes_at slots k ≡ false) →
    is_none r ≡ is_idle slots
idle_is slots None found none = sym (idle_none slots none)
idle_is slots (Some place) found none = sym (busy_there slots place found)

pub none_by : {A : Type 0} (r : Option A) (b : Bool) → is_some r ≡ not b → b ≡ is_none r
none_by None true is = refl
none_by None false is = cc
none_by (Some x) true is = cc
none_by (Some x) false is = refl

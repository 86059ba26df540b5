-- The slots in front of a place, the slot there, and those behind it.
use Rattle.std.proofs.Common.{◌≡◌, ℕ, suc, ◌+◌, Some, List, [], ◌∷◌, ◌++◌, length, take, drop, reverse, ap, sym, ◌∙◌, append_assoc, arith}
use Rattle.std.specs.Prelude.{slice_get, slice_set}
use Rattle.std.proofs.Math.Seq.{take-suc, take-suc-set, drop-cons}
use Rattle.std.proofs.lemmas.List.{reverse-append, take_all, length-set}
use Rattle.std.proofs.lemmas.Option.{slice_get_within, get_or_from_slice_get}
use Rattle.reorder_buffer.specs.declared.slot.Slot.{Slot}
use Rattle.in_flight.specs.Flight.{older_at}

pub drop_there : (slots : List Slot) (place : ℕ) (slot : Slot) → slice_get slots place ≡ Some slot → drop place slots ≡ slot ∷ drop (suc place) slots
drop_there slots place slot there =
    drop-cons slots place slot (slice_get_within slots place slot there)
    ∙ ap (λ (x : Slot). x ∷ drop (suc place) slots) (get_or_from_slice_get slots place slot slot there)

pub take_there : (slots : List Slot) (place : ℕ) (slot : Slot) → slice_get slots place ≡ Some slot → take (suc place) slots ≡ take place slots ++ slot ∷ []
take_there slots place slot there =
    take-suc slots place slot (slice_get_within slots place slot there)
    ∙ ap (λ (x : Slot). take place slots ++ x ∷ []) (get_or_from_slice_get slots place slot slot there)

-- the youngest of the older slots
pub older_there : (slots : List Slot) (place : ℕ) (slot : Slot) → slice_get slots place ≡ Some slot → older_at slots (suc place) ≡ slot ∷ older_at slots place
older_there slots place slot there = ap reverse (take_there slots place slot there) ∙ reverse-append (take place slots) (slot ∷ [])

-- where the slot is the last
pub ends_there : (slots : List Slot) (place : ℕ) (slot : Slot) → slice_get slots place ≡ Some slot → length slots ≡ place + 1 → slots ≡ take place slots ++ slot ∷ []
ends_there slots place slot there last = sym (take_all (suc place) slots (omega (arith, last))) ∙ take_there slots place slot there

pub set_last : (slots : List Slot) (place : ℕ) (slot : Slot) → length slots ≡ place + 1 → slice_set slots place slot ≡ take place slots ++ slot ∷ []
set_last slots place slot last =
    sym (take_all (suc place) (slice_set slots place slot) (omega (arith, last, length-set slots place slot)))
    ∙ take-suc-set slots place slot (omega (arith, last))

pub reverse_more : (x : Slot) (xs ys : List Slot) → reverse (x ∷ xs) ++ ys ≡ reverse xs ++ x ∷ ys
reverse_more x xs ys = ap (λ (l : List Slot). l ++ ys) (reverse-append (x ∷ []) xs) ∙ append_assoc (reverse xs) (x ∷ []) ys

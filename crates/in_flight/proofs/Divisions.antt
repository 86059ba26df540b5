-- The count of the divisions that execute.
use Rattle.std.proofs.Common.{◌≡◌, ℕ, zero, suc, ◌+◌, ◌≤◌, if◌then◌else◌, Bool, true, false, Some, List, [], ◌∷◌, ◌++◌, length, take, refl, ap, arith}
use Rattle.std.specs.Prelude.{slice_get, slice_set}
use Rattle.fsim_base.specs.declared.instruction.Class.{Class}
use Rattle.fsim_base.specs.declared.instruction.Class.TheVariants as class
use Rattle.reorder_buffer.specs.declared.slot.Slot.{Slot}
use Rattle.reorder_buffer.specs.declared.slot.SlotState.TheVariants.{Waiting, Done}
use Rattle.timing_side.specs.Issue.{is_busy_division, busy_divisions}

-- how many divisions a slot counts as
abbrev pub division : Slot → ℕ
division slot = if is_busy_division slot.class slot.state then 1 else 0

-- what waits or is done is no division that executes
pub waits_undivided : (kind : Class) → is_busy_division kind Waiting ≡ false
waits_undivided class.Alu = refl
waits_undivided class.Mul = refl
waits_undivided class.Div = refl
waits_undivided class.Load = refl
waits_undivided class.Store = refl
waits_undivided class.Serial = refl

pub done_undivided : (kind : Class) → is_busy_division kind Done ≡ false
done_undivided class.Alu = refl
done_undivided class.Mul = refl
done_undivided class.Div = refl
done_undivided class.Load = refl
done_undivided class.Store = refl
done_undivided class.Serial = refl

pub divisions-append : (slots others : List Slot) → busy_divisions (slots ++ others) ≡ busy_divisions slots + busy_divisions others
divisions-append [] others = omega arith
divisions-append (slot ∷ slots) others = omega (arith, divisions-append slots others)

-- no more than there are slots
one_at_most : (b : Bool) → (if b then 1 else 0) ≤ 1
one_at_most true = omega arith
one_at_most false = omega arith

pub divisions_within : (slots : List Slot) → busy_divisions slots ≤ length slots
divisions_within [] = omega arith
divisions_within (slot ∷ slots) = omega (arith, divisions_within slots, one_at_most (is_busy_division slot.class slot.state))

-- one slot goes on
pub divisions-set : (slots : List Slot) (place : ℕ) (slot new : Slot) → slice_get slots place ≡ Some slot →
    busy_divisions (slice_set slots place new) + division slot ≡ busy_divisions slots + division new
divisions-set [] place slot new here = absurd cc
divisions-set (first ∷ slots) zero slot new here =
    let same : division first ≡ division slot = ap division (let e : first ≡ slot = grind arith in e) in
    omega (arith, same)
divisions-set (first ∷ slots) (suc place) slot new here = omega (arith, divisions-set slots place slot new here)

pub division_counts : (slots : List Slot) (place : ℕ) (slot : Slot) → slice_get slots place ≡ Some slot → division slot ≤ busy_divisions slots
division_counts [] place slot here = absurd cc
division_counts (first ∷ slots) zero slot here =
    let same : division first ≡ division slot = ap division (let e : first ≡ slot = grind arith in e) in
    omega (arith, same)
division_counts (first ∷ slots) (suc place) slot here = omega (arith, division_counts slots place slot here)

-- those in front of a place and the one at it
pub divisions-more : (slots : List Slot) (place : ℕ) (slot : Slot) → slice_get slots place ≡ Some slot →
    busy_divisions (take (suc place) slots) ≡ busy_divisions (take place slots) + division slot
divisions-more [] place slot here = absurd cc
divisions-more (first ∷ slots) zero slot here =
    let same : division first ≡ division slot = ap division (let e : first ≡ slot = grind arith in e) in
    omega (arith, same)
divisions-more (first ∷ slots) (suc place) slot here = omega (arith, divisions-more slots place slot here)

-- no more in front of a place than there are
pub divisions_front : (slots : List Slot) (place : ℕ) → busy_divisions (take place slots) ≤ busy_divisions slots
divisions_front [] zero = omega arith
divisions_front [] (suc place) = omega arith
divisions_front (slot ∷ slots) zero = omega arith
divisions_front (slot ∷ slots) (suc place) = omega (arith, divisions_front slots place)

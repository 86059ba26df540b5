-- Whether the youngest slot goes on to Execute, by what the instructions in flight tell of it.
use Rattle.std.proofs.Common.{◌≡◌, ℕ, suc, ◌+◌, ◌-◌, ◌<◌, ◌&&◌, not, Bool, true, false, if◌then◌else◌, is_some, IfSome, Option, Some, None, List, [], ◌∷◌, ◌++◌, length, take, reverse, refl, ap, sym, ◌∙◌, subst, append-nil, arith}
use Rattle.std.specs.Prelude.{slice_get, slice_set}
use Rattle.fsim_base.specs.declared.access.Access.{Access}
use Rattle.fsim_base.specs.declared.access.Access.TheVariants as access
use Rattle.fsim_base.specs.declared.access.Spot.TheVariants.{Ram, Device, Nowhere}
use Rattle.fsim_base.specs.declared.cause.Cause.{Cause}
use Rattle.fsim_base.specs.declared.instruction.Class.{Class}
use Rattle.fsim_base.specs.declared.instruction.Class.TheVariants as class
use Rattle.reorder_buffer.specs.declared.slot.Slot.{Slot}
use Rattle.reorder_buffer.specs.declared.slot.SlotState.{SlotState}
use Rattle.reorder_buffer.specs.declared.slot.SlotState.TheVariants.{Waiting, Until, Done}
use Rattle.mono_model.specs.declared.setup.Setup.{Setup}
use Rattle.mono_model.specs.Found.{first_source, second_source, destination_in}
use Rattle.mono_model.specs.Window.{is_register, is_store_class}
use Rattle.timing_side.specs.Slots.{found_in, is_waiting_state, is_done_state}
use Rattle.timing_side.specs.Issue.{gives_value, is_available, has_value, has_operands, are_stores_done, is_oldest, load_allows, class_allows}
use Rattle.in_flight.specs.Flight.{older_at, may_start, is_written, reads_from}
use Rattle.inorder_machine.specs.Issue.{is_load_class}
use Rattle.inorder_side.specs.Timing.{InorderTiming}
use Rattle.inorder_side.specs.Issue.{valueless, found_in_order, issue_of, issue_from}
use Rattle.inorder_model.specs.Stages.{reads_load, waits_for_load}
use Rattle.inorder_model.proofs.Bool.{and_true, and_false, both_without}
use Rattle.inorder_model.proofs.Lists.{older_there, ends_there, set_last, reverse_more}

-- a state without a value gives none
gives_none : (e : ℕ) (state : SlotState) (cause : Option Cause) → gives_value (valueless e state) cause ≡ false
gives_none e Waiting cause = refl
gives_none e (Until from) cause = refl
gives_none e Done cause = refl

module _ (e : ℕ) (load : Slot) (older : List Slot) where
  value_found : (source : Option ℕ) → has_value (record load { state = valueless e load.state } ∷ older) source
      ≡ (has_value (load ∷ older) source && not (is_written source (destination_in (found_in load))))
  value_found None = refl
  value_found (Some register) = by_register (is_register register (destination_in (found_in load)))
    where
      by_register : (b : Bool) → (if b then gives_value (valueless e load.state) load.cause else is_available older register)
          ≡ ((if b then gives_value load.state load.cause else is_available older register) && not b)
      by_register true = gives_none e load.state load.cause ∙ sym (and_false (gives_value load.state load.cause))
      by_register false = sym (and_true (is_available older register))

  operands_found : (slot : Slot) → has_operands (record load { state = valueless e load.state } ∷ older) slot
      ≡ (has_operands (load ∷ older) slot && not (reads_from (found_in slot) (destination_in (found_in load))))
  operands_found slot =
      let first = first_source (found_in slot) in
      let second = second_source (found_in slot) in
      let written = destination_in (found_in load) in
      (λ i. value_found first i && value_found second i)
      ∙ both_without (has_value (load ∷ older) first) (has_value (load ∷ older) second) (is_written first written) (is_written second written)

-- the operands, where a load in Memory has no value yet
pub operands_in_order : (memory : Option ℕ) (older : List Slot) (slot : Slot) →
    has_operands (found_in_order memory older) slot ≡ (has_operands older slot && not (waits_for_load memory older slot))
operands_in_order None older slot = sym (and_true (has_operands older slot))
operands_in_order (Some e) [] slot = sym (and_true (has_operands [] slot))
operands_in_order (Some e) (youngest ∷ older) slot = by_load (is_load_class youngest.class)
  where
    by_load : (b : Bool) → has_operands ((if b then record youngest { state = valueless e youngest.state } else youngest) ∷ older) slot
        ≡ (has_operands (youngest ∷ older) slot && not (b && reads_from (found_in slot) (destination_in (found_in youngest))))
    by_load true = operands_found e youngest older slot
    by_load false = sym (and_true (has_operands (youngest ∷ older) slot))

-- what a class allows doesn't depend on it
no_store : (c : Class) (b : Bool) → is_load_class c ≡ true → (if is_store_class c then b else false) ≡ false
no_store class.Alu b is = refl
no_store class.Mul b is = refl
no_store class.Div b is = refl
no_store class.Load b is = refl
no_store class.Store b is = cc
no_store class.Serial b is = refl

stores_found : (e : ℕ) (youngest : Slot) (older : List Slot) (b : Bool) → is_load_class youngest.class ≡ b →
    are_stores_done ((if b then record youngest { state = valueless e youngest.state } else youngest) ∷ older) ≡ are_stores_done (youngest ∷ older)
stores_found e youngest older true is =
    ap (λ (b : Bool). if b then false else are_stores_done older)
    (no_store youngest.class (if is_done_state (valueless e youngest.state) then false else true) is
    ∙ sym (no_store youngest.class (if is_done_state youngest.state then false else true) is))
stores_found e youngest older false is = refl

stores_in_order : (memory : Option ℕ) (older : List Slot) → are_stores_done (found_in_order memory older) ≡ are_stores_done older
stores_in_order None older = refl
stores_in_order (Some e) [] = refl
stores_in_order (Some e) (youngest ∷ older) = stores_found e youngest older (is_load_class youngest.class) refl

oldest_in_order : (memory : Option ℕ) (older : List Slot) → is_oldest (found_in_order memory older) ≡ is_oldest older
oldest_in_order None older = refl
oldest_in_order (Some e) [] = refl
oldest_in_order (Some e) (youngest ∷ older) = refl

load_in_order : (memory : Option ℕ) (older : List Slot) (made : Access) → load_allows made (found_in_order memory older) ≡ load_allows made older
load_in_order memory older access.Nothing = stores_in_order memory older
load_in_order memory older (access.Load addr width Ram) = stores_in_order memory older
load_in_order memory older (access.Load addr width Device) = oldest_in_order memory older
load_in_order memory older (access.Load addr width Nowhere) = stores_in_order memory older
load_in_order memory older (access.Store addr width spot) = stores_in_order memory older

pub allows_in_order : (memory : Option ℕ) (older : List Slot) (c : Class) (made : Access) → class_allows c made (found_in_order memory older) ≡ class_allows c made older
allows_in_order memory older class.Alu made = refl
allows_in_order memory older class.Mul made = refl
allows_in_order memory older class.Div made = refl
allows_in_order memory older class.Load made = load_in_order memory older made
allows_in_order memory older class.Store made = refl
allows_in_order memory older class.Serial made = oldest_in_order memory older

-- the youngest takes its turn
module _ (s : Setup) (l : InorderTiming) where
  issue_last : (front older : List Slot) (slot : Slot) → issue_from s l older (front ++ slot ∷ []) ≡ front ++ issue_of s l (reverse front ++ older) slot ∷ []
  unfolding issue_from
  issue_last [] older slot = refl
  issue_last (x ∷ []) older slot = refl
  issue_last (x ∷ y ∷ front) older slot =
      ap (λ (rest : List Slot). x ∷ rest) (issue_last (y ∷ front) (x ∷ older) slot)
      ∙ ap (λ (olds : List Slot). x ∷ y ∷ front ++ issue_of s l olds slot ∷ []) (sym (reverse_more x (y ∷ front) older))

  pub issue_youngest : (slots : List Slot) (place : ℕ) (slot : Slot) → slice_get slots place ≡ Some slot → length slots ≡ place + 1 →
      issue_from s l [] slots ≡ slice_set slots place (issue_of s l (older_at slots place) slot)
  issue_youngest slots place slot there last =
      let front = take place slots in
      ap (λ (all : List Slot). issue_from s l [] all) (ends_there slots place slot there last)
      ∙ issue_last front [] slot
      ∙ ap (λ (olds : List Slot). front ++ issue_of s l olds slot ∷ []) (append-nil (reverse front))
      ∙ sym (set_last slots place (issue_of s l (older_at slots place) slot) last)

  pub issue_none : issue_from s l [] [] ≡ []
  unfolding issue_from
  issue_none = refl

-- whether a slot waits for a load in Memory, which is the youngest of the older ones
pub load_read : (memory : Option ℕ) (slots : List Slot) (place : ℕ) (slot writer : Slot) → is_some memory ≡ true → 0 < place → slice_get slots (place - 1) ≡ Some writer →
    waits_for_load memory (older_at slots place) slot ≡ (is_load_class writer.class && reads_from (found_in slot) (destination_in (found_in writer)))
load_read None slots place slot writer some front there = cc
load_read (Some e) slots place slot writer some front there =
    let same : place ≡ suc (place - 1) = omega (arith, front) in
    ap (λ (k : ℕ). reads_load (older_at slots k) slot) same ∙ ap (λ (older : List Slot). reads_load older slot) (older_there slots (place - 1) writer there)

pub both_there : (P : Slot → Slot → Type 0) (a b : Option Slot) (x y : Slot) → a ≡ Some x → b ≡ Some y → IfSome a (λ s. IfSome b (λ w. P s w)) → P x y
both_there P a b x y first second both =
    subst (λ (o : Option Slot). IfSome o (λ w. P x w)) second (subst (λ (o : Option Slot). IfSome o (λ s. IfSome b (λ w. P s w))) first both)

-- the operands of a slot that waits
pub operands_by : (older : List Slot) (slot : Slot) (b : Bool) → is_waiting_state slot.state ≡ true → may_start older (Some slot) ≡ b → has_operands older slot ≡ b
operands_by older slot b waits is = (λ i. sym waits i && has_operands older slot) ∙ is

pub waiting_is : (state : SlotState) → is_waiting_state state ≡ true → state ≡ Waiting
waiting_is Waiting is = refl
waiting_is (Until e) is = cc
waiting_is Done is = cc

-- Snapshots of the places of a phase, as the phase goes on.
use Rattle.std.proofs.Common.{◌≡◌, ℕ, zero, suc, ◌+◌, ◌<◌, ◌≤◌, ◌&&◌, if◌then◌else◌, Bool, true, false, Option, Some, None, List, [], ◌∷◌, map, reverse, take, IsTrue, IfSome, refl, ap, sym, ◌∙◌, arith}
use Rattle.std.specs.Prelude.{slice_get, slice_set}
use Rattle.std.proofs.Math.Seq.{map-set_same}
use Rattle.std.proofs.lemmas.Bool.{false_from_ne_true}
use Rattle.std.proofs.lemmas.List.{take-map}
use Rattle.std.proofs.lemmas.Option.{get_or_from_slice_get}
use Rattle.reorder_buffer.specs.declared.slot.Slot.{Slot}
use Rattle.reorder_buffer.specs.declared.slot.SlotState.{SlotState}
use Rattle.reorder_buffer.specs.declared.slot.SlotState.TheVariants.{Waiting, Until, Done}
use Rattle.reservation_stations.specs.declared.place_set.PlaceSet.{PlaceSet}
use Rattle.reservation_stations.specs.PlaceSet.{has}
use Rattle.mono_model.specs.Found.{first_source, second_source, destination_in}
use Rattle.mono_model.specs.Window.{is_register}
use Rattle.timing_side.specs.Slots.{found_in, is_waiting_state}
use Rattle.timing_side.specs.Issue.{gives_value, is_available, has_value, has_operands}
use Rattle.in_flight.specs.Flight.{older_at, may_start, may_start_at, executes, executes_at}
use Rattle.in_flight.specs.Snapshot.{IsSnapshot}
use Rattle.in_flight.proofs.Operands.{reverse-map}

-- the set of all of the first 64 places
pub whole : (test other : ℕ → Bool) (set : PlaceSet) → other ≡ test →
    ((place : ℕ) → 0 ≤ place → place < 64 → has set place ≡ other place) →
    ((place : ℕ) → IsTrue (has set place) → (0 ≤ place) × (place < 64)) → IsSnapshot test 0 set
whole test other set same each within = record {
  each = λ place behind before. each place behind before ∙ (λ i. same i place);
  passed = λ place before. absurd (omega (arith, before));
  first = λ place past. false_from_ne_true (has set place) (λ is. let inside = within place is in omega (arith, past, inside.1));
}

-- behind the first 64 places an empty set stays as it is
pub left_behind : (test : ℕ → Bool) (set new : PlaceSet) (bound : ℕ) (found : Option ℕ) → 64 ≤ bound → ((k : ℕ) → has set k ≡ false) → new ≡ set →
    IfSome found (λ place. bound ≤ place) → IfSome found (λ place. IsSnapshot test (place + 1) new)
left_behind test set new bound None past none kept behind = tt
left_behind test set new bound (Some place) past none kept behind =
    let empty : (k : ℕ) → has new k ≡ false = λ k. ap (λ (s : PlaceSet). has s k) kept ∙ none k in
    record {
      each = λ k above below. absurd (omega (arith, past, behind, above, below));
      passed = λ k before. empty k;
      first = λ k over. empty k;
    }

-- what is said of the places from one on is said of another test that agrees there
pub still : (test other : ℕ → Bool) (from : ℕ) (set : PlaceSet) → ((k : ℕ) → from ≤ k → other k ≡ test k) → IsSnapshot test from set → IsSnapshot other from set
still test other from set same s = record {
  each = λ place behind before. s.each place behind before ∙ sym (same place behind);
  passed = s.passed;
  first = s.first;
}

-- another element at one place is none at the others
other_place : {A : Type 0} (xs : List A) (place k : ℕ) (new : A) → place < k → slice_get (slice_set xs place new) k ≡ slice_get xs k
other_place [] place k new behind = refl
other_place (x ∷ xs) place zero new behind = absurd (omega (arith, behind))
other_place (x ∷ xs) zero (suc k) new behind = refl
other_place (x ∷ xs) (suc place) (suc k) new behind = other_place xs place k new (omega (arith, behind))

-- what a younger instruction asks of an older one: the register that it writes, and whether it gives a value
abbrev gives : Slot → Option ℕ × Bool
gives slot = (destination_in (found_in slot), gives_value slot.state slot.cause)

abbrev available_by : List (Option ℕ × Bool) → ℕ → Bool
available_by [] register = true
available_by (older ∷ rest) register = if is_register register older.0 then older.1 else available_by rest register

available : (older : List Slot) (register : ℕ) → is_available older register ≡ available_by (map gives older) register
available [] register = refl
available (slot ∷ older) register = λ i.
    if is_register register (destination_in (found_in slot)) then gives_value slot.state slot.cause else available older register i

value : (older other : List Slot) → map gives older ≡ map gives other → (source : Option ℕ) → has_value older source ≡ has_value other source
value older other same None = refl
value older other same (Some register) = available older register ∙ ap (λ those. available_by those register) same ∙ sym (available other register)

operands_by : (older other : List Slot) → map gives older ≡ map gives other → (at : Option Slot) → may_start older at ≡ may_start other at
operands_by older other same None = refl
operands_by older other same (Some slot) = λ i.
    is_waiting_state slot.state
    && (value older other same (first_source (found_in slot)) i && value older other same (second_source (found_in slot)) i)

older_gives : (slots : List Slot) (k : ℕ) → map gives (older_at slots k) ≡ reverse (take k (map gives slots))
older_gives slots k = sym (reverse-map gives (take k slots)) ∙ ap reverse (sym (take-map gives k slots))

-- an instruction that gives a value as before lets the younger ones start as before
pub starts_behind : (slots : List Slot) (place : ℕ) (slot new : Slot) → slice_get slots place ≡ Some slot → gives new ≡ gives slot → (k : ℕ) → place < k →
    may_start_at (slice_set slots place new) k ≡ may_start_at slots k
starts_behind slots place slot new at same k behind =
    let given = map-set_same gives slots place new slot (same ∙ ap gives (sym (get_or_from_slice_get slots place slot slot at))) in
    operands_by (older_at (slice_set slots place new) k) (older_at slots k)
    (older_gives (slice_set slots place new) k ∙ ap (λ those. reverse (take k those)) given ∙ sym (older_gives slots k))
    (slice_get (slice_set slots place new) k)
    ∙ ap (may_start (older_at slots k)) (other_place slots place k new behind)

-- one that begins gives no value, as one that waits
pub begun_behind : (slots : List Slot) (place until : ℕ) (slot : Slot) → slice_get slots place ≡ Some slot → slot.state ≡ Waiting → (k : ℕ) → place < k →
    may_start_at (slice_set slots place (record slot { state = Until until })) k ≡ may_start_at slots k
begun_behind slots place until slot at waits k behind =
    starts_behind slots place slot (record slot { state = Until until }) at
    (ap (λ (state : SlotState). (destination_in (found_in slot), gives_value state slot.cause)) (sym waits)) k behind

-- those behind one whose state changes execute as before
pub executes_behind : (slots : List Slot) (place : ℕ) (new : Slot) (k : ℕ) → place < k → executes_at (slice_set slots place new) k ≡ executes_at slots k
executes_behind slots place new k behind = ap executes (other_place slots place k new behind)

-- one that may start waits
waiting : (state : SlotState) (rest : Bool) → (is_waiting_state state && rest) ≡ true → state ≡ Waiting
waiting Waiting rest is = refl
waiting (Until cycle) rest is = absurd cc
waiting Done rest is = absurd cc

pub waits_there : (slots : List Slot) (place : ℕ) (slot : Slot) → may_start_at slots place ≡ true → slice_get slots place ≡ Some slot → slot.state ≡ Waiting
waits_there slots place slot can at = waiting slot.state (has_operands (older_at slots place) slot) (sym (ap (may_start (older_at slots place)) at) ∙ can)

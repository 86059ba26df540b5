-- The stations of slots, as these change.
use Rattle.std.proofs.Common.{◌≡◌, ◌≢◌, ℕ, zero, suc, ◌==◌, false, Some, List, [], ◌∷◌, refl, ap, sym, ◌∙◌, arith, subst, IsNone, All}
use Rattle.std.specs.Prelude.{slice_get, slice_set}
use Rattle.std.proofs.lemmas.Bool.{ne_eqb, eq-eqb}
use Rattle.std.proofs.lemmas.List.Elements.{All-head, All-tail}
use Rattle.std.proofs.lemmas.Option.{slice_get_within, get_or_from_slice_get}
use Rattle.reorder_buffer.specs.declared.slot.Slot.{Slot}
use Rattle.reorder_buffer.specs.Window.{HasOwnPositions, position_of}
use Rattle.reservation_stations.specs.declared.station.Mark.{Mark}
use Rattle.reservation_stations.specs.Readiness.{station_of, mark_of, marked, marked_if}
use Rattle.in_flight.specs.Step.{mark_in, station_in, stations_in}

-- no station holds an index that no slot has
pub none_holds : (room index : ℕ) (slots : List Slot) → All (λ slot. position_of room slot.number ≢ index) slots → IsNone (station_of index (stations_in room slots))
none_holds room index [] free = refl
none_holds room index (slot ∷ slots) free =
    let other = ne_eqb (position_of room slot.number) index (All-head (λ (s : Slot). position_of room s.number ≢ index) slot slots free) in
    rw other (none_holds room index slots (All-tail (λ (s : Slot). position_of room s.number ≢ index) slot slots free))

-- the first of slots with indices of their own has another index than the later ones, and these have their own
first_apart : (room : ℕ) (slot : Slot) (slots : List Slot) → HasOwnPositions room (slot ∷ slots) → All (λ other. position_of room other.number ≢ position_of room slot.number) slots
first_apart room slot slots apart = λ k d within same. apart zero (suc k) d (omega arith) (omega arith) (sym same)

rest_apart : (room : ℕ) (slot : Slot) (slots : List Slot) → HasOwnPositions room (slot ∷ slots) → HasOwnPositions room slots
rest_apart room slot slots apart = λ i j d before within. apart (suc i) (suc j) d (omega arith) (omega arith)

-- the slot at a place among them
other_index : (room : ℕ) (first : Slot) (slots : List Slot) (place : ℕ) (slot : Slot) → HasOwnPositions room (first ∷ slots) → slice_get slots place ≡ Some slot
    → (position_of room first.number == position_of room slot.number) ≡ false
other_index room first slots place slot apart here =
    let within = slice_get_within slots place slot here in
    let read = get_or_from_slice_get slots place slot slot here in
    ne_eqb (position_of room first.number) (position_of room slot.number)
    (λ same. first_apart room first slots apart place slot within (ap (λ (s : Slot). position_of room s.number) read ∙ sym same))

same_first : {X : Type 0} (x y : X) → Some x ≡ Some y → x ≡ y
same_first x y e = cc

-- its station is the one that holds its index
pub mark_at : (room : ℕ) (slots : List Slot) (place : ℕ) (slot : Slot) → HasOwnPositions room slots → slice_get slots place ≡ Some slot
    → mark_of (position_of room slot.number) (stations_in room slots) ≡ Some (mark_in slot.state slot.cause)
mark_at room [] place slot apart here = absurd cc
mark_at room (first ∷ slots) zero slot apart here =
    let same = same_first first slot here in
    rw (← same, eq-eqb (position_of room first.number) (position_of room first.number) refl) refl
mark_at room (first ∷ slots) (suc place) slot apart here =
    rw (other_index room first slots place slot apart here) (mark_at room slots place slot (rest_apart room first slots apart) here)

-- none is marked where none has the index
none_marked : (room index : ℕ) (mark : Mark) (slots : List Slot) → All (λ slot. position_of room slot.number ≢ index) slots → marked index mark (stations_in room slots) ≡ stations_in room slots
none_marked room index mark [] free = refl
none_marked room index mark (slot ∷ slots) free =
    let other = ne_eqb (position_of room slot.number) index (All-head (λ (s : Slot). position_of room s.number ≢ index) slot slots free) in
    rw other (ap (λ rest. station_in room slot ∷ rest) (none_marked room index mark slots (All-tail (λ (s : Slot). position_of room s.number ≢ index) slot slots free)))

-- the station at its place is the one that is marked
marks_first : (room : ℕ) (mark : Mark) (slots : List Slot) (slot new : Slot) → HasOwnPositions room (slot ∷ slots) → station_in room new ≡ record (station_in room slot) { mark = mark }
    → marked (position_of room slot.number) mark (stations_in room (slot ∷ slots)) ≡ stations_in room (new ∷ slots)
marks_first room mark slots slot new apart is =
    let here : marked_if (position_of room slot.number) mark (station_in room slot) ≡ record (station_in room slot) { mark = mark } =
    rw (eq-eqb (position_of room slot.number) (position_of room slot.number) refl) refl
    in
    let rest = none_marked room (position_of room slot.number) mark slots (first_apart room slot slots apart) in
    λ i. (here ∙ sym is) i ∷ rest i

pub marks_at : (room : ℕ) (mark : Mark) (slots : List Slot) (place : ℕ) (slot new : Slot) → HasOwnPositions room slots → slice_get slots place ≡ Some slot
    → station_in room new ≡ record (station_in room slot) { mark = mark }
    → marked (position_of room slot.number) mark (stations_in room slots) ≡ stations_in room (slice_set slots place new)
marks_at room mark [] place slot new apart here is = absurd cc
marks_at room mark (first ∷ slots) zero slot new apart here is =
    let same = same_first first slot here in
    let own : HasOwnPositions room (slot ∷ slots) = subst (λ (s : Slot). HasOwnPositions room (s ∷ slots)) same apart in
    subst (λ (s : Slot). marked (position_of room slot.number) mark (stations_in room (s ∷ slots)) ≡ stations_in room (new ∷ slots)) (sym same)
    (marks_first room mark slots slot new own is)
marks_at room mark (first ∷ slots) (suc place) slot new apart here is =
    rw (other_index room first slots place slot apart here)
    (ap (λ rest. station_in room first ∷ rest) (marks_at room mark slots place slot new (rest_apart room first slots apart) here is))

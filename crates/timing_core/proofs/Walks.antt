-- The walk over the slots, gone as far as a place: a turn goes one place on, and slots that can't start are passed over.
use Rattle.std.proofs.Common.{◌≡◌, ℕ, zero, suc, ◌+◌, ◌<◌, ◌≤◌, ◌&&◌, nat_le, Bool, true, false, if◌then◌else◌, Some, List, [], ◌∷◌, ◌++◌, length, take, drop, reverse, refl, ap, sym, ◌∙◌, inl, inr, append_assoc, add-zero, arith}
use Rattle.std.specs.Prelude.{slice_get, slice_set}
use Rattle.std.proofs.Math.Seq.{take-suc-set, drop-cons}
use Rattle.std.proofs.lemmas.List.{set-get_or, drop-set-lt, reverse-append, take_all, append-nil}
use Rattle.std.proofs.Math.ListN.{drop_of_length-le}
use Rattle.std.proofs.lemmas.Option.{slice_get_cases, slice_get_within, get_or_from_slice_get}
use Rattle.reorder_buffer.specs.declared.slot.Slot.{Slot}
use Rattle.cache_timing.specs.Caches.{CachesState}
use Rattle.mono_model.specs.declared.setup.Setup.{Setup}
use Rattle.mono_model.specs.Issue.{Used, has_unit, cached}
use Rattle.timing_side.specs.Slots.{is_waiting_state}
use Rattle.timing_side.specs.Issue.{has_operands, class_allows, may_begin, Turned, unchanged, begun, turn_of, Walked, walk}
use Rattle.timing_side.proofs.Next.{walk-cons}
use Rattle.in_flight.specs.Flight.{older_at, may_start_at}

-- a turn by its test
turned_by : Bool → Setup → ℕ → Slot → Used → CachesState → Turned
turned_by b s cycle slot used caches =
    if b then begun s cycle slot used (cached s slot.cause slot.access caches) else unchanged slot used caches

pub turn_begins : (s : Setup) (cycle busy : ℕ) (older : List Slot) (slot : Slot) (used : Used) (caches : CachesState) →
    may_begin s.params cycle busy older slot used ≡ true →
    turn_of s cycle busy older slot used caches ≡ begun s cycle slot used (cached s slot.cause slot.access caches)
unfolding turn_of turned_by
turn_begins s cycle busy older slot used caches is = ap (λ (b : Bool). turned_by b s cycle slot used caches) is

pub turn_rests : (s : Setup) (cycle busy : ℕ) (older : List Slot) (slot : Slot) (used : Used) (caches : CachesState) →
    may_begin s.params cycle busy older slot used ≡ false →
    turn_of s cycle busy older slot used caches ≡ unchanged slot used caches
unfolding turn_of turned_by
turn_rests s cycle busy older slot used caches is = ap (λ (b : Bool). turned_by b s cycle slot used caches) is

-- a slot that doesn't wait, or has no operands, doesn't begin
never : (waits passed operands allows free : Bool) → (waits && operands) ≡ false → (waits && passed && operands && allows && free) ≡ false
never true true true allows free is = cc
never true true false allows free is = refl
never true false operands allows free is = refl
never false passed operands allows free is = refl

-- nor does one that has not passed the front
early : (waits passed operands allows free : Bool) → passed ≡ false → (waits && passed && operands && allows && free) ≡ false
early true true operands allows free is = cc
early true false operands allows free is = refl
early false passed operands allows free is = refl

-- what lies in front of a walk
abbrev pub fronted : List Slot → Walked → Walked
fronted front w = record w { slots = front ++ w.slots }

walk-nil : (s : Setup) (cycle busy : ℕ) (older : List Slot) (used : Used) (caches : CachesState) →
    walk s cycle busy [] older used caches ≡ record { slots = []; caches = caches }
unfolding walk
walk-nil s cycle busy older used caches = refl

module _ (s : Setup) (cycle busy : ℕ) where
  -- the slots in front of a place, and the walk over the others
  pub walk_from : List Slot → ℕ → Used → CachesState → Walked
  walk_from slots place used caches = fronted (take place slots) (walk s cycle busy (drop place slots) (older_at slots place) used caches)

  pub walk_starts : (slots : List Slot) (used : Used) (caches : CachesState) → walk s cycle busy slots [] used caches ≡ walk_from slots 0 used caches
  unfolding walk_from
  walk_starts slots used caches = refl

  pub walk_ends : (slots : List Slot) (place : ℕ) (used : Used) (caches : CachesState) → length slots ≤ place →
      walk_from slots place used caches ≡ record { slots = slots; caches = caches }
  unfolding walk_from
  walk_ends slots place used caches over =
      ap (λ (rest : List Slot). fronted (take place slots) (walk s cycle busy rest (older_at slots place) used caches)) (drop_of_length-le slots over)
      ∙ ap (fronted (take place slots)) (walk-nil s cycle busy (older_at slots place) used caches)
      ∙ ap (λ (all : List Slot). record { slots = all; caches = caches }) (append-nil (take place slots) ∙ take_all place slots over)

  -- a turn between those in front and the rest
  turn_between : (front : List Slot) (slot : Slot) (rest : List Slot) (used : Used) (caches : CachesState) →
      let t = turn_of s cycle busy (reverse front) slot used caches in
      fronted front (walk s cycle busy (slot ∷ rest) (reverse front) used caches)
      ≡ fronted (front ++ t.turned ∷ []) (walk s cycle busy rest (reverse (front ++ t.turned ∷ [])) t.used t.caches)
  turn_between front slot rest used caches =
      let t = turn_of s cycle busy (reverse front) slot used caches in
      let behind = walk s cycle busy rest (t.turned ∷ reverse front) t.used t.caches in
      ap (fronted front) (walk-cons s cycle busy slot rest (reverse front) used caches)
      ∙ ap (λ (all : List Slot). record { slots = all; caches = behind.caches }) (sym (append_assoc front (t.turned ∷ []) behind.slots))
      ∙ ap (λ (older : List Slot). fronted (front ++ t.turned ∷ []) (walk s cycle busy rest older t.used t.caches)) (sym (reverse-append front (t.turned ∷ [])))

  -- the slot at a place takes its turn
  pub walk_turns : (slots : List Slot) (place : ℕ) (slot : Slot) (used : Used) (caches : CachesState) → slice_get slots place ≡ Some slot →
      let t = turn_of s cycle busy (older_at slots place) slot used caches in
      walk_from slots place used caches ≡ walk_from (slice_set slots place t.turned) (suc place) t.used t.caches
  unfolding walk_from
  walk_turns slots place slot used caches at =
      let t = turn_of s cycle busy (older_at slots place) slot used caches in
      let within : place < length slots = slice_get_within slots place slot at in
      let rest : drop place slots ≡ slot ∷ drop (suc place) slots =
      drop-cons slots place slot within ∙ ap (λ (x : Slot). x ∷ drop (suc place) slots) (get_or_from_slice_get slots place slot slot at) in
      let front = take-suc-set slots place t.turned within in
      let behind : drop (suc place) (slice_set slots place t.turned) ≡ drop (suc place) slots = drop-set-lt (suc place) slots place t.turned (omega arith) in
      ap (λ (xs : List Slot). fronted (take place slots) (walk s cycle busy xs (older_at slots place) used caches)) rest
      ∙ turn_between (take place slots) slot (drop (suc place) slots) used caches
      ∙ ap (λ (xs : List Slot). fronted xs (walk s cycle busy (drop (suc place) slots) (reverse xs) t.used t.caches)) (sym front)
      ∙ ap (λ (xs : List Slot). fronted (take (suc place) (slice_set slots place t.turned)) (walk s cycle busy xs (reverse (take (suc place) (slice_set slots place t.turned))) t.used t.caches)) (sym behind)

  -- a slot that rests stays as it is
  pub same_slot : (slots : List Slot) (place : ℕ) (slot : Slot) → slice_get slots place ≡ Some slot → slice_set slots place slot ≡ slots
  same_slot slots place slot at =
      ap (λ (x : Slot). slice_set slots place x) (sym (get_or_from_slice_get slots place slot slot at)) ∙ set-get_or slots place slot

  -- past a place whose slot rests
  passes_rest : (slots : List Slot) (place : ℕ) (slot : Slot) (used : Used) (caches : CachesState) → slice_get slots place ≡ Some slot →
      may_begin s.params cycle busy (older_at slots place) slot used ≡ false → walk_from slots place used caches ≡ walk_from slots (suc place) used caches
  passes_rest slots place slot used caches there not =
      walk_turns slots place slot used caches there
      ∙ ap (λ (t : Turned). walk_from (slice_set slots place t.turned) (suc place) t.used t.caches) (turn_rests s cycle busy (older_at slots place) slot used caches not)
      ∙ ap (λ (xs : List Slot). walk_from xs (suc place) used caches) (same_slot slots place slot there)

  -- past a place whose slot can't start, or isn't there
  passes_slot : (slots : List Slot) (place : ℕ) (slot : Slot) (used : Used) (caches : CachesState) → slice_get slots place ≡ Some slot →
      may_start_at slots place ≡ false → walk_from slots place used caches ≡ walk_from slots (suc place) used caches
  passes_slot slots place slot used caches there not =
      let older = older_at slots place in
      let idle : (is_waiting_state slot.state && has_operands older slot) ≡ false = rw there at not in
      passes_rest slots place slot used caches there
      (never (is_waiting_state slot.state) _ (has_operands older slot) (class_allows slot.class slot.access older) (has_unit s.params (busy + used.div) used slot.class) idle)

  passes : (slots : List Slot) (place : ℕ) (used : Used) (caches : CachesState) → may_start_at slots place ≡ false →
      walk_from slots place used caches ≡ walk_from slots (suc place) used caches
  passes slots place used caches not = elim (slice_get_cases slots place).1 [
    | inl there ↦ passes_slot slots place there.0 used caches there.2 not
    | inr over ↦ walk_ends slots place used caches over.0 ∙ sym (walk_ends slots (suc place) used caches (omega arith))
  ]

  -- past some places
  pub passes_all : (count : ℕ) (slots : List Slot) (place : ℕ) (used : Used) (caches : CachesState) →
      ((k : ℕ) → place ≤ k → k < place + count → may_start_at slots k ≡ false) →
      walk_from slots place used caches ≡ walk_from slots (place + count) used caches
  passes_all zero slots place used caches not = ap (λ (k : ℕ). walk_from slots k used caches) (sym (add-zero place))
  passes_all (suc count) slots place used caches not =
      let e : suc place + count ≡ place + suc count = omega arith in
      passes slots place used caches (not place (omega arith) (omega arith))
      ∙ passes_all count slots (suc place) used caches (λ k above below. not k (omega arith) (omega arith))
      ∙ ap (λ (k : ℕ). walk_from slots k used caches) e

  -- past places whose slots have not passed the front
  rests_early : (slots : List Slot) (place : ℕ) (used : Used) (caches : CachesState) →
      ((slot : Slot) → slice_get slots place ≡ Some slot → cycle < slot.fetched + s.params.core_front) →
      walk_from slots place used caches ≡ walk_from slots (suc place) used caches
  rests_early slots place used caches late = elim (slice_get_cases slots place).1 [
    | inl there ↦
        let slot = there.0 in let older = older_at slots place in
        let after : cycle < slot.fetched + s.params.core_front = late slot there.2 in
        let behind : nat_le (slot.fetched + s.params.core_front) cycle ≡ false = grind arith in
        passes_rest slots place slot used caches there.2
        (early (is_waiting_state slot.state) _ (has_operands older slot) (class_allows slot.class slot.access older) (has_unit s.params (busy + used.div) used slot.class) behind)
    | inr over ↦ walk_ends slots place used caches over.0 ∙ sym (walk_ends slots (suc place) used caches (omega arith))
  ]

  pub rests_all : (count : ℕ) (slots : List Slot) (place : ℕ) (used : Used) (caches : CachesState) →
      ((k : ℕ) (slot : Slot) → place ≤ k → slice_get slots k ≡ Some slot → cycle < slot.fetched + s.params.core_front) →
      walk_from slots place used caches ≡ walk_from slots (place + count) used caches
  rests_all zero slots place used caches late = ap (λ (k : ℕ). walk_from slots k used caches) (sym (add-zero place))
  rests_all (suc count) slots place used caches late =
      let e : suc place + count ≡ place + suc count = omega arith in
      rests_early slots place used caches (λ slot there. late place slot (omega arith) there)
      ∙ rests_all count slots (suc place) used caches (λ k slot above there. late k slot (omega arith) there)
      ∙ ap (λ (k : ℕ). walk_from slots k used caches) e

  -- past places whose slots don't begin
  rests_here : (slots : List Slot) (place : ℕ) (used : Used) (caches : CachesState) →
      ((slot : Slot) → slice_get slots place ≡ Some slot → may_begin s.params cycle busy (older_at slots place) slot used ≡ false) →
      walk_from slots place used caches ≡ walk_from slots (suc place) used caches
  rests_here slots place used caches not = elim (slice_get_cases slots place).1 [
    | inl there ↦ passes_rest slots place there.0 used caches there.2 (not there.0 there.2)
    | inr over ↦ walk_ends slots place used caches over.0 ∙ sym (walk_ends slots (suc place) used caches (omega arith))
  ]

  pub rests_some : (count : ℕ) (slots : List Slot) (place : ℕ) (used : Used) (caches : CachesState) →
      ((k : ℕ) (slot : Slot) → place ≤ k → slice_get slots k ≡ Some slot → may_begin s.params cycle busy (older_at slots k) slot used ≡ false) →
      walk_from slots place used caches ≡ walk_from slots (place + count) used caches
  rests_some zero slots place used caches not = ap (λ (k : ℕ). walk_from slots k used caches) (sym (add-zero place))
  rests_some (suc count) slots place used caches not =
      let e : suc place + count ≡ place + suc count = omega arith in
      rests_here slots place used caches (λ slot there. not place slot (omega arith) there)
      ∙ rests_some count slots (suc place) used caches (λ k slot above there. not k slot (omega arith) there)
      ∙ ap (λ (k : ℕ). walk_from slots k used caches) e

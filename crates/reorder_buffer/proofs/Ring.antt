-- The slots of a ring: how many they are, which item each is, and what they are after a write, without the oldest, and without the youngest.
use Rattle.std.proofs.Common.{◌≡◌, ℕ, ◌+◌, ◌-◌, ◌%◌, ◌<◌, ◌≤◌, ◌⊎◌, List, [], ◌∷◌, ◌++◌, length, get_or, take, drop, set, refl, ap, sym, Some, IfSome, slice_get, ◌∙◌, inl, inr, mod-eq_of_lt, arith, length-append, length-drop, length-set, length-take, get_or-drop, get_or-take}
use Rattle.std.proofs.Math.Nat.{mod-eq-sub-mod, mod-add-mod}
use Rattle.std.proofs.Math.ListN.{get_or-map}
use Rattle.std.proofs.lemmas.List.{same_lists, take-take, get_or_append_left, get_or-append_right, length-map, map-set}
use Rattle.std.proofs.lemmas.Bool.{cases_lt}
use Rattle.std.proofs.lemmas.Grind.{common_steps}
use Rattle.std.proofs.lemmas.Option.{slice_get_read}
use Rattle.reorder_buffer.specs.declared.slot.Slot.{Slot}
use Rattle.reorder_buffer.specs.declared.held.Held.{Held}
use Rattle.reorder_buffer.specs.declared.window.Window.TheInside.{Inside}
use Rattle.reorder_buffer.specs.Held.{slot_in, slots_in}
use Rattle.reorder_buffer.specs.Window.{IsFirst, IsWindow, HasOwnPositions, youngest, room_of, position_of, ring_slots}
use Rattle.reorder_buffer.proofs.Positions.{the_room}
use Rattle.reorder_buffer.proofs.Consecutive.{IsFirstWith, next_position, second_position, rest_of, first_with, place_position, own_indices, one_more, first_of, part_of, first_still, consecutive_still}

-- at most one wrap-around
wraps : (n i : ℕ) → i < n + n → ((i < n) × (i % n ≡ i)) ⊎ ((n ≤ i) × (i % n ≡ i - n))
wraps n i below = elim (cases_lt i n) [
  | inl low ↦ inl (low, mod-eq_of_lt low)
  | inr high ↦ inr (high, mod-eq-sub-mod high ∙ mod-eq_of_lt (omega arith))
]

module _ (items : List Slot) (n first count : ℕ) (long : n ≡ length items) (within : count ≤ n) (inside : 0 < n → first < n) where
  pub length-ring : length (ring_slots items first count) ≡ count
  unfolding ring_slots
  length-ring = simp (length-take, length-append, length-drop, length-take) (omega arith)

  -- the slot at a place is the item at its position
  pub get_or-ring : (place : ℕ) (d : Slot) → place < count → get_or (ring_slots items first count) place d ≡ get_or items (position_of n (first + place)) d
  unfolding ring_slots
  get_or-ring place d held =
      let tail = length-drop first items in
      get_or-take count _ place d held ∙ elim (wraps n (first + place) (omega arith)) [
        | inl before ↦ get_or_append_left _ _ d place (omega arith) ∙ get_or-drop first items place d ∙ ap (λ k. get_or items k d) (omega arith)
        | inr behind ↦ get_or-append_right _ _ (n - first) place d (omega arith) (omega arith) ∙ get_or-take first items _ d (omega arith) ∙ ap (λ k. get_or items k d) (omega arith)
      ]

module _ (items : List Slot) (n first count : ℕ) (long : n ≡ length items) (within : count ≤ n) (inside : 0 < n → first < n) where
  -- a write at the position behind the youngest
  pub ring-append : (s : Slot) → count < n → ring_slots (set items (position_of n (first + count)) s) first (count + 1) ≡ ring_slots items first count ++ s ∷ []
  ring-append s room =
      let written = set items (position_of n (first + count)) s in
      let long_written : n ≡ length written = long ∙ sym (length-set items (position_of n (first + count)) s) in
      let before = length-ring items n first count long within inside in
      let after = length-ring written n first (count + 1) long_written (omega arith) inside in
      let end = wraps n (first + count) (omega arith) in
      same_lists _ _ (grind (arith, common_steps)) (λ place d held. grind (
        arith,
        common_steps,
        end,
        wraps n (first + place) (omega arith),
        get_or-ring items n first count long within inside place d,
        get_or-ring written n first (count + 1) long_written (omega arith) inside place d,
      ))

  -- a write at the position of a place
  pub ring-set : (place : ℕ) (s : Slot) → place < count → ring_slots (set items (position_of n (first + place)) s) first count ≡ set (ring_slots items first count) place s
  ring-set place s held =
      let written = set items (position_of n (first + place)) s in
      let long_written : n ≡ length written = long ∙ sym (length-set items (position_of n (first + place)) s) in
      let before = length-ring items n first count long within inside in
      let after = length-ring written n first count long_written within inside in
      let here = wraps n (first + place) (omega arith) in
      same_lists _ _ (grind (arith, common_steps)) (λ other d below. grind (
        arith,
        common_steps,
        here,
        wraps n (first + other) (omega arith),
        get_or-ring items n first count long within inside other d,
        get_or-ring written n first count long_written within inside other d,
      ))

  -- without the oldest
  pub ring-pop : 0 < count → ring_slots items (position_of n (first + 1)) (count - 1) ≡ drop 1 (ring_slots items first count)
  ring-pop some =
      let next : 0 < n → position_of n (first + 1) < n = λ positive. grind (arith, wraps n (first + 1) (omega arith)) in
      let before = length-ring items n first count long within inside in
      let after = length-ring items n (position_of n (first + 1)) (count - 1) long (omega arith) next in
      same_lists _ _ (simp length-drop (omega arith)) (λ place d held. grind (
        arith,
        get_or-drop 1 (ring_slots items first count) place d,
        mod-add-mod (first + 1) n place,
        get_or-ring items n first count long within inside (1 + place) d,
        get_or-ring items n (position_of n (first + 1)) (count - 1) long (omega arith) next place d,
      ))

-- the oldest alone
pub ring-cut : (items : List Slot) (first count kept : ℕ) → kept ≤ count → ring_slots items first kept ≡ take kept (ring_slots items first count)
unfolding ring_slots
ring-cut items first count kept less = sym (take-take kept count _ less)

-- at no count nothing is read
same_first : (items : List Slot) (first now count : ℕ) → (count ≡ 0) ⊎ (now ≡ first) → ring_slots items now count ≡ ring_slots items first count
unfolding ring_slots
same_first items first now count (inl none) = rw none refl
same_first items first now count (inr same) = rw same refl

pub ring_nothing : (items : List Slot) (first : ℕ) → ring_slots items first 0 ≡ []
unfolding ring_slots
ring_nothing items first = refl

-- the slots of all positions of a window with these fields, and those that it holds
abbrev pub items_of : Inside → List Slot
items_of w = slots_in w.held.items

abbrev pub slots_of : Inside → List Slot
slots_of w = ring_slots (items_of w) w.first w.count

-- there is one for each position
long_items : (w : Inside) → w.held.len ≡ length (items_of w)
long_items w = w.held.ok.0 ∙ sym (length-map w.held.items slot_in)

-- what holds of a window with these fields
abbrev pub IsKept : Inside → Type 0
IsKept w = IsWindow w.held.len w.capacity w.mask w.first w.count (slots_of w)

-- its positions are as many as its capacity asks for, and each slot has its own
pub room_is : (w : Inside) → IsKept w → w.held.len ≡ room_of w.capacity
room_is w kept = the_room w.capacity w.held.len (kept.positions.power, kept.positions.enough, kept.positions.least)

pub own_positions : (w : Inside) → IsKept w → HasOwnPositions w.held.len (slots_of w)
own_positions w kept = own_indices w.held.len (slots_of w) kept.ring.consecutive (omega (arith, kept.ring.held, kept.ring.within))

-- What a window reads, and what it is after each change, where `position` is so many places behind the oldest slot's.
module _ (w : Inside) (kept : IsKept w) (position : ℕ) where
  pub slot_at : (place : ℕ) (h : Held) → place < w.count → position ≡ position_of w.held.len (w.first + place) → h ≡ get_or w.held.items position h → slice_get (slots_of w) place ≡ Some (slot_in h)
  slot_at place h held is read =
      let item : slot_in h ≡ get_or (items_of w) position (slot_in h) = ap slot_in read ∙ sym (get_or-map slot_in w.held.items position h) in
      slice_get_read (slots_of w) w.count place (slot_in h) (sym kept.ring.held) held
      (item ∙ ap (λ k. get_or (items_of w) k (slot_in h)) is
      ∙ sym (get_or-ring (items_of w) w.held.len w.first w.count (long_items w) kept.ring.within kept.ring.inside place (slot_in h) held))

  pub position_at : (place : ℕ) → position ≡ position_of w.held.len (w.first + place) → IfSome (slice_get (slots_of w) place) (λ slot. position ≡ position_of w.held.len slot.number)
  position_at place is = rw is (place_position (slots_of w) w.held.len w.first place kept.ring.consecutive kept.ring.first_is)

  pub popped : 0 < w.count → position ≡ position_of w.held.len (w.first + 1) → ring_slots (items_of w) position (w.count - 1) ≡ drop 1 (slots_of w)
  popped some is = rw is (ring-pop (items_of w) w.held.len w.first w.count (long_items w) kept.ring.within kept.ring.inside some)

  pub still_popped : 0 < w.count → position ≡ position_of w.held.len (w.first + 1) → position < w.held.len → IsKept (record w { first = position; count = w.count - 1 })
  still_popped some is below =
      let shorter = length-drop 1 (slots_of w) in
      let first_is : IsFirst (drop 1 (slots_of w)) w.held.len position = rw is (second_position w.held.len w.first (slots_of w) kept.ring.consecutive kept.ring.first_is) in
      rw (popped some is) record {
        positions = kept.positions;
        within = omega (arith, kept.within);
        ring = record {
          within = omega (arith, kept.ring.within);
          held = omega (arith, kept.ring.held, shorter);
          inside = λ positive. below;
          first_is = first_is;
          consecutive = rest_of (slots_of w) kept.ring.consecutive;
        };
      }

  pub marked : (place : ℕ) (now : Held) → place < w.count → position ≡ position_of w.held.len (w.first + place)
      → ring_slots (slots_in (set w.held.items position now)) w.first w.count ≡ set (slots_of w) place (slot_in now)
  marked place now held is =
      ap (λ (items : List Slot). ring_slots items w.first w.count) (map-set slot_in w.held.items position now)
      ∙ rw is (ring-set (items_of w) w.held.len w.first w.count (long_items w) kept.ring.within kept.ring.inside place (slot_in now) held)

  pub still_marked : (place : ℕ) (s : Slot) (now : Held) → place < w.count → position ≡ position_of w.held.len (w.first + place) → slice_get (slots_of w) place ≡ Some s
      → now.entry.number ≡ s.number
      → IsWindow w.held.len w.capacity w.mask w.first w.count (ring_slots (slots_in (set w.held.items position now)) w.first w.count)
  still_marked place s now held is there same =
      rw (marked place now held is) record {
        positions = kept.positions;
        within = kept.within;
        ring = record {
          within = kept.ring.within;
          held = length-set (slots_of w) place (slot_in now) ∙ kept.ring.held;
          inside = kept.ring.inside;
          first_is = first_still (slots_of w) place s (slot_in now) w.held.len w.first there same kept.ring.first_is;
          consecutive = consecutive_still (slots_of w) place s (slot_in now) there same kept.ring.consecutive;
        };
      }

  -- where the next slot stands, once `now` is the position of the oldest
  behind_youngest : (now number : ℕ) → IsFirstWith (slots_of w) w.held.len w.first number now → IfSome (youngest (slots_of w)) (λ last. number ≡ last.number + 1)
      → position ≡ position_of w.held.len number → position ≡ position_of w.held.len (now + w.count)
  behind_youngest now number with next is =
      is
      ∙ sym (next_position w.held.len w.first (slots_of w) number now kept.ring.consecutive kept.ring.first_is next with)
      ∙ ap (λ k. position_of w.held.len (now + k)) kept.ring.held

  pub appended : (now : ℕ) (h : Held) → w.count < w.held.len → now < w.held.len → IsFirstWith (slots_of w) w.held.len w.first h.entry.number now
      → IfSome (youngest (slots_of w)) (λ last. h.entry.number ≡ last.number + 1) → position ≡ position_of w.held.len h.entry.number
      → ring_slots (slots_in (set w.held.items position h)) now (w.count + 1) ≡ slots_of w ++ slot_in h ∷ []
  appended now h room below with next is =
      let none_or_same : (w.count ≡ 0) ⊎ (now ≡ w.first) = elim with [ inl empty ↦ inl (omega (arith, empty, kept.ring.held)) | inr some ↦ inr some.1 ] in
      let same = same_first (items_of w) w.first now w.count none_or_same in
      ap (λ (items : List Slot). ring_slots items now (w.count + 1)) (map-set slot_in w.held.items position h)
      ∙ rw (behind_youngest now h.entry.number with next is)
      (ring-append (items_of w) w.held.len now w.count (long_items w) kept.ring.within (λ positive. below) (slot_in h) room ∙ ap (λ xs. xs ++ slot_in h ∷ []) same)

  pub still_appended : (now : ℕ) (h : Held) → w.count < w.capacity → now < w.held.len → IsFirstWith (slots_of w) w.held.len w.first h.entry.number now
      → IfSome (youngest (slots_of w)) (λ last. h.entry.number ≡ last.number + 1) → position ≡ position_of w.held.len h.entry.number
      → IsWindow w.held.len w.capacity w.mask now (w.count + 1) (ring_slots (slots_in (set w.held.items position h)) now (w.count + 1))
  still_appended now h room below with next is =
      let longer = length-append (slots_of w) (slot_in h ∷ []) in
      let more : w.count < w.held.len = omega (arith, room, kept.positions.enough) in
      rw (appended now h more below with next is) record {
        positions = kept.positions;
        within = omega (arith, room);
        ring = record {
          within = omega (arith, more);
          held = omega (arith, kept.ring.held, longer);
          inside = λ positive. below;
          first_is = first_with (slots_of w) (slot_in h) w.held.len w.first now kept.ring.first_is with;
          consecutive = one_more (slots_of w) (slot_in h) kept.ring.consecutive next;
        };
      }

pub still_cut : (w : Inside) (left : ℕ) → IsKept w → left ≤ w.count → IsKept (record w { count = left })
still_cut w left kept less =
    let shorter = length-take left (slots_of w) in
    rw (ring-cut (items_of w) w.first w.count left less) record {
      positions = kept.positions;
      within = omega (arith, kept.within, less);
      ring = record {
        within = omega (arith, kept.ring.within, less);
        held = omega (arith, kept.ring.held, shorter, less);
        inside = kept.ring.inside;
        first_is = first_of (slots_of w) left w.held.len w.first kept.ring.first_is;
        consecutive = part_of (slots_of w) left kept.ring.consecutive;
      };
    }

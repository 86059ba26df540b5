-- What is seen of the slots under way.
use Rattle.std.proofs.Common.{◌≡◌, ◌∙◌, ℕ, zero, suc, ◌+◌, ◌==◌, ◌&&◌, ◌<◌, nat_lt, Bool, true, false, if◌then◌else◌, Option, Some, None, List, [], ◌∷◌, drop, length, map, option_map, refl, sym, ap, arith}
use Rattle.std.specs.Prelude.{slice_get}
use Rattle.std.proofs.lemmas.Bool.{lt-ltb, ne_eqb}
use Rattle.std.proofs.lemmas.List.Sums.{sum_by-cons}
use Rattle.reorder_buffer.specs.declared.slot.Slot.{Slot}
use Rattle.reorder_buffer.specs.declared.slot.SlotState.{SlotState}
use Rattle.reorder_buffer.specs.declared.slot.SlotState.TheVariants.{Waiting, Until, Done}
use Rattle.timing_side.specs.Slots.{is_done_state, is_waiting_state, waiting_count}
use Rattle.inorder_side.specs.Timing.{done_count}
use Rattle.insight_model.specs.Sight.{Outcome, Progress, Shown, accessing, is_waiting_at}
use Rattle.insight_model.specs.Stack.{waiting_in}
use Rattle.cycle_watch.specs.declared.shown.Progress.{Progress as ProgressInCode}
use Rattle.cycle_watch.specs.declared.shown.Progress.TheVariants as progress
use Rattle.cycle_watch.specs.Shown.{place_of, progress_in}
use Rattle.cycle_watch.specs.SeenIn.{inorder_slot_progress, inorder_slots_shown, slot_as, slot_outcome, slot_progress, slot_shown}
use Rattle.cycle_watch.proofs.Finding.{drop_get}

-- how far one has come, from what is seen of it
pub place_is : (q : ProgressInCode) (o : Outcome) → place_of (progress_in q o) ≡ q
place_is progress.Waiting o = refl
place_is (progress.Executing e) o = refl
place_is (progress.Accessing e) o = refl
place_is progress.Done o = refl

-- as many wait as are seen to wait
waits : (state : SlotState) (o : Outcome) → is_waiting_at (slot_progress state o) ≡ is_waiting_state state
waits Waiting o = refl
waits (Until e) o = refl
waits Done o = refl

waits_in_order : (memory : Option ℕ) (younger : ℕ) (state : SlotState) (o : Outcome) → is_waiting_at (inorder_slot_progress memory younger state o) ≡ is_waiting_state state
waits_in_order None younger state o = waits state o
waits_in_order (Some e) zero Waiting o = refl
waits_in_order (Some e) zero (Until u) o = refl
waits_in_order (Some e) zero Done o = refl
waits_in_order (Some e) (suc younger) state o = waits state o

one_more : (x : Shown) (rest : List Shown) (b : Bool) (n : ℕ) → is_waiting_at x.progress ≡ b → waiting_in rest ≡ n → waiting_in (x ∷ rest) ≡ (if b then 1 else 0) + n
one_more x rest b n own others = sum_by-cons (λ (y : Shown). if is_waiting_at y.progress then 1 else 0) x rest ∙ (λ i. (if own i then 1 else 0) + others i)

pub waiting_shown : (slots : List Slot) → waiting_in (map slot_shown slots) ≡ waiting_count slots
waiting_shown [] = refl
waiting_shown (slot ∷ rest) =
    one_more (slot_shown slot) (map slot_shown rest) (is_waiting_state slot.state) (waiting_count rest) (waits slot.state (slot_outcome slot)) (waiting_shown rest)

pub waiting_in_order : (memory : Option ℕ) (slots : List Slot) → waiting_in (inorder_slots_shown memory slots) ≡ waiting_count slots
waiting_in_order memory [] = refl
waiting_in_order memory (slot ∷ rest) =
    one_more (slot_as slot (inorder_slot_progress memory (done_count rest) slot.state (slot_outcome slot))) (inorder_slots_shown memory rest) (is_waiting_state slot.state) (waiting_count rest)
    (waits_in_order memory (done_count rest) slot.state (slot_outcome slot)) (waiting_in_order memory rest)

-- all are seen
pub all_in_order : (memory : Option ℕ) (slots : List Slot) → length (inorder_slots_shown memory slots) ≡ length slots
all_in_order memory [] = refl
all_in_order memory (slot ∷ rest) = ap suc (all_in_order memory rest)

-- and each at its place
abbrev pub shown_in_order : Option ℕ → ℕ → Slot → Shown
shown_in_order memory younger slot = slot_as slot (inorder_slot_progress memory younger slot.state (slot_outcome slot))

pub seen_in_order : (memory : Option ℕ) (slots : List Slot) (place : ℕ) (slot : Slot) → slice_get slots place ≡ Some slot →
    slice_get (inorder_slots_shown memory slots) place ≡ Some (shown_in_order memory (done_count (drop (place + 1) slots)) slot)
seen_in_order memory [] place slot is = cc
seen_in_order memory (x ∷ rest) zero slot is =
    let same : x ≡ slot = cc in ap (λ (y : Slot). Some (shown_in_order memory (done_count rest) y)) same
seen_in_order memory (x ∷ rest) (suc place) slot is =
    let next : suc (place + 1) ≡ suc place + 1 = omega arith in
    seen_in_order memory rest place slot is
    ∙ ap (λ (n : ℕ). Some (shown_in_order memory (done_count (drop n (x ∷ rest))) slot)) next

-- In Memory is the youngest that is done.
pub in_memory : (e younger : ℕ) (state : SlotState) (o : Outcome) → (is_done_state state && younger == 0) ≡ true → accessing e o ≡ inorder_slot_progress (Some e) younger state o
in_memory e zero Waiting o is = cc
in_memory e zero (Until u) o is = cc
in_memory e zero Done o is = refl
in_memory e (suc younger) Waiting o is = cc
in_memory e (suc younger) (Until u) o is = cc
in_memory e (suc younger) Done o is =
    let none : (suc younger == 0) ≡ false = ne_eqb (suc younger) 0 (λ z. omega (arith, z)) in
    let wrong : false ≡ true = sym none ∙ is in
    cc

pub not_in_memory : (e younger : ℕ) (state : SlotState) (o : Outcome) → (is_done_state state && younger == 0) ≡ false → slot_progress state o ≡ inorder_slot_progress (Some e) younger state o
not_in_memory e zero Waiting o is = refl
not_in_memory e zero (Until u) o is = refl
not_in_memory e zero Done o is = cc
not_in_memory e (suc younger) state o is = refl

-- how many are done from a place on
pub done_here : (slots : List Slot) (place : ℕ) (slot : Slot) → slice_get slots place ≡ Some slot → is_done_state slot.state ≡ true → nat_lt 0 (done_count (drop place slots)) ≡ true
done_here slots place slot is done =
    let others = done_count (drop (suc place) slots) in
    ap (λ (l : List Slot). nat_lt 0 (done_count l)) (drop_get slots place slot is)
    ∙ ap (λ (b : Bool). nat_lt 0 ((if b then 1 else 0) + others)) done
    ∙ lt-ltb 0 (1 + others) (omega arith)

pub done_later : (slots : List Slot) (place : ℕ) (slot : Slot) → slice_get slots place ≡ Some slot → is_done_state slot.state ≡ false → done_count (drop place slots) ≡ done_count (drop (place + 1) slots)
done_later slots place slot is done =
    let next : suc place ≡ place + 1 = omega arith in
    let others = done_count (drop (suc place) slots) in
    let none : 0 + others ≡ others = omega arith in
    ap done_count (drop_get slots place slot is)
    ∙ ap (λ (b : Bool). (if b then 1 else 0) + others) done
    ∙ none
    ∙ ap (λ (n : ℕ). done_count (drop n slots)) next

-- there is one at each place
pub there_is : (slots : List Slot) (place : ℕ) → place < length slots → (slot : Slot) × (slice_get slots place ≡ Some slot)
there_is [] place within = absurd (omega (arith, within))
there_is (slot ∷ rest) zero within = (slot, refl)
there_is (slot ∷ rest) (suc place) within = there_is rest place (omega (arith, within))

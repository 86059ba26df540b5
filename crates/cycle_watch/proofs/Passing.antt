-- A cycle that the observer may pass: where those that stayed stand, and what is seen after it.
use Rattle.std.proofs.Common.{◌≡◌, ◌∙◌, ℕ, zero, suc, ◌+◌, ◌-◌, ◌≤◌, ◌<◌, ◌^◌, Option, Some, None, List, [], ◌∷◌, drop, length, length-drop, length-take, map, option_map, take, refl, sym, ap, subst, arith}
use Rattle.std.specs.Prelude.{slice_get, vec_capacity}
use Rattle.std.proofs.lemmas.List.{length-map}
use Rattle.std.proofs.lemmas.Option.{slice_get-map}
use Rattle.circular_buffer.specs.Buffer.{Buffer, keep_last}
use Rattle.insight_model.specs.Sight.{Shown, Sight}
use Rattle.insight_model.specs.Facts.{Facts, facts as cycle_facts, kept_count, left_count}
use Rattle.cycle_watch.specs.declared.facts.Facts.{Facts as FactsInCode}
use Rattle.cycle_watch.specs.declared.last.LastSight.{LastSight}
use Rattle.cycle_watch.specs.declared.mark.Mark.{Mark}
use Rattle.cycle_watch.specs.Shown.{shown_in}
use Rattle.cycle_watch.specs.Facts.{Follows, IsStill, IsTold, Keeps, MayPassTo, Notes, access_in, at_cycle, window_in}
use Rattle.cycle_watch.specs.Known.{HasAdvanced, HasPassed}
use Rattle.cycle_watch.proofs.Passed.{PassedSoFar, passed_next}
use Rattle.cycle_watch.proofs.Windows.{get_dropped, get_taken}

pub got : {A : Type 0} (xs : List A) (i : ℕ) → i < length xs → (x : A) × (slice_get xs i ≡ Some x)
got [] i below = absurd (omega arith)
got (x ∷ xs) zero below = (x, refl)
got (x ∷ xs) (suc i) below = got xs i (omega arith)

pub told_cycle : (before after : Sight) (f : FactsInCode) → IsTold before after f → f.cycle ≡ before.cycle
unfolding cycle_facts
told_cycle before after f told = ap (λ (x : Facts). x.cycle) told.facts

pub window_length : (s : Sight) (last : LastSight) → Keeps s last → length last.marks.items ≡ length s.window
window_length s last keeps = sym (length-map last.marks.items (λ (m : Mark). shown_in m.shown)) ∙ ap (length {A = Shown}) keeps.window

-- those that stayed were there, and are there
pub kept_were : (last : LastSight) (after : Sight) (f : FactsInCode) → MayPassTo last after f → f.left + f.kept ≤ length last.marks.items
kept_were last after f may = omega (arith, may.told.left, may.told.kept, may.follows.kept, window_length may.before last may.keeps)

pub kept_are : (last : LastSight) (after : Sight) (f : FactsInCode) → MayPassTo last after f → f.kept ≤ length after.window
kept_are last after f may = omega (arith, may.told.kept)

pub kept_last : {A : Type 0} (xs : List A) (left others : ℕ) → left ≤ length xs → others ≡ length xs - left → keep_last others xs ≡ drop left xs
kept_last xs left others fit is = let n : length xs - others ≡ left = omega (arith, fit, is) in ap (λ (k : ℕ). drop k xs) n

pub none_passed : (w : List Shown) (cycle : ℕ) (was : LastSight) → was.loads.items ≡ [] → PassedSoFar w cycle 0 was was
none_passed w cycle was none = record {
  rest = refl;
  size = refl;
  capacity = refl;
  later = λ k above. refl;
  window = refl;
  misses = refl;
  origins = refl;
  loads = ap (map access_in) none;
  few = omega (arith, ap length none);
  room = omega arith;
}

module _ (old was : LastSight) (after : Sight) (f : FactsInCode) (may : MayPassTo old after f) (cut : was.marks.items ≡ take f.kept (drop f.left old.marks.items))
    (room : 256 ≤ vec_capacity was.loads) (i : ℕ) (now : LastSight) (s : PassedSoFar after.window f.cycle i was now) (below : i < f.kept) where
  size_is : length was.marks.items ≡ f.kept
  size_is =
      omega (arith, ap (length {A = Mark}) cut, length-take f.kept (drop f.left old.marks.items), length-drop f.left old.marks.items, kept_were old after f may)

  pub was_there : i < length now.marks.items
  was_there = omega (arith, below, size_is, s.size)

  pub is_there : i < length after.window
  is_there = omega (arith, below, kept_are old after f may)

  pub load_room : length now.loads.items < vec_capacity now.loads
  load_room = omega (arith, s.few, s.room, room, is_there, may.follows.within)

  stood : (mark : Mark) → slice_get now.marks.items i ≡ Some mark → slice_get may.before.window (left_count may.before after + i) ≡ Some (shown_in mark.shown)
  stood mark here =
      let place : left_count may.before after + i ≡ f.left + i = omega (arith, may.told.left) in
      ap (λ (n : ℕ). slice_get may.before.window n) place
      ∙ ap (λ (w : List Shown). slice_get w (f.left + i)) (sym may.keeps.window)
      ∙ slice_get-map (λ (m : Mark). shown_in m.shown) old.marks.items (f.left + i)
      ∙ ap (option_map (λ (m : Mark). shown_in m.shown))
      (sym (get_dropped old.marks.items f.left i) ∙ sym (get_taken (drop f.left old.marks.items) f.kept i below)
      ∙ ap (λ (ms : List Mark). slice_get ms i) (sym cut) ∙ sym (s.later i (omega arith)) ∙ here)

  pub is_still : (mark : Mark) (is : Shown) → slice_get now.marks.items i ≡ Some mark → slice_get after.window i ≡ Some is → IsStill (shown_in mark.shown) is
  is_still mark is here there =
      let fit : i < kept_count may.before after = omega (arith, below, may.told.kept) in
      may.follows.still i (shown_in mark.shown) is fit (stood mark here) there

  pub one_passed : (next : LastSight) →
      ((mark : Mark) (is : Shown) → slice_get now.marks.items i ≡ Some mark → slice_get after.window i ≡ Some is → HasAdvanced now f.cycle i mark is next) →
      PassedSoFar after.window f.cycle (i + 1) was next
  one_passed next advanced =
      let m = got now.marks.items i was_there in
      let w = got after.window i is_there in
      let P : ℕ → Type 0 = λ n. PassedSoFar after.window f.cycle n was next in
      let n : suc i ≡ i + 1 = omega arith in
      subst P n (passed_next after.window f.cycle i was now s m.0 w.0 next m.1 w.1 (advanced m.0 w.0 m.1 w.1))

-- all have passed, and what is seen is noted
pub has_passed : (before after : Sight) (was now noted : LastSight) (f : FactsInCode) → IsTold before after f → PassedSoFar after.window f.cycle f.kept was now →
    window_in now.marks.items ≡ take f.kept after.window → was.marks.capacity ≡ 256 → 256 ≤ vec_capacity was.loads →
    Notes after noted → noted.marks ≡ now.marks → noted.loads ≡ now.loads → HasPassed before (at_cycle (before.cycle + 1) after) (record noted { cycle = f.cycle + 1 })
has_passed before after was now noted f told s window capacity room notes marks loads = record {
  cycle = ap (λ (n : ℕ). n + 1) (told_cycle before after f told);
  noted = record { retired = notes.retired; counts = notes.counts; resume = notes.resume; missing = notes.missing; waiting = notes.waiting };
  window = ap (λ (b : Buffer Mark). window_in b.items) marks ∙ window ∙ ap (λ (n : ℕ). take n after.window) told.kept;
  room = record {
    marks = ap (λ (b : Buffer Mark). b.capacity) marks ∙ s.capacity ∙ capacity;
    loads = let e : vec_capacity noted.loads ≡ vec_capacity now.loads = λ i. vec_capacity (loads i) in omega (arith, e, s.room, room);
  };
}

-- The instructions that stayed, one after another, as a cycle is passed.
use Rattle.std.proofs.Common.{◌≡◌, ◌∙◌, ℕ, zero, suc, ◌+◌, ◌≤◌, ◌<◌, List, [], ◌∷◌, ◌++◌, Option, Some, None, length, take, map, refl, ap, sym, arith, length-take}
use Rattle.std.specs.Prelude.{filter_map, option_to_list, slice_get, slice_set, vec_capacity}
use Rattle.std.specs.List.{cons_option}
use Rattle.std.proofs.lemmas.List.{length-append, length-map, length-set, map_push, take_more_set}
use Rattle.std.proofs.lemmas.List.Elements.{filter_map-append}
use Rattle.std.proofs.lemmas.Option.{slice_get_within}
use Rattle.circular_buffer.specs.Buffer.{Buffer}
use Rattle.insight_model.specs.Sight.{Shown}
use Rattle.insight_model.specs.Facts.{Kept, pairs}
use Rattle.insight_model.specs.Accesses.{CacheAccess, kept_misses, load_access, miss_after}
use Rattle.cycle_watch.specs.declared.last.LastSight.{LastSight}
use Rattle.cycle_watch.specs.declared.mark.Mark.{Mark}
use Rattle.cycle_watch.specs.Shown.{shown_in}
use Rattle.cycle_watch.specs.Facts.{access_in, charge_in, window_in}
use Rattle.cycle_watch.specs.Known.{HasAdvanced, kept_of, misses_in, origins_in}
use Rattle.cycle_watch.proofs.Windows.{misses_push, pairs_length, pairs_push, take_push}

-- the pairs of the first of them
abbrev pub pairs_so_far : List Shown → ℕ → List Mark → List Kept
pairs_so_far w i marks = pairs (window_in (take i marks)) (take i w)

-- the first of them have advanced
pub record PassedSoFar (w : List Shown) (cycle i : ℕ) (was now : LastSight) : Type 0 where
  pub rest : now ≡ record was { marks = now.marks; loads = now.loads }
  pub size : length now.marks.items ≡ length was.marks.items
  pub capacity : now.marks.capacity ≡ was.marks.capacity
  pub later : (k : ℕ) → i ≤ k → slice_get now.marks.items k ≡ slice_get was.marks.items k
  pub window : window_in (take i now.marks.items) ≡ take i w
  pub misses : misses_in (take i now.marks.items)
      ≡ kept_misses was.pipeline was.params cycle (pairs_so_far w i was.marks.items) (misses_in (take i was.marks.items))
  pub origins : origins_in (take i now.marks.items) ≡ origins_in (take i was.marks.items)
  pub loads : map access_in now.loads.items ≡ filter_map (load_access was.pipeline) (pairs_so_far w i was.marks.items)
  pub few : length now.loads.items ≤ i
  pub room : vec_capacity was.loads ≤ vec_capacity now.loads

get_set_other : {A : Type 0} (xs : List A) (i k : ℕ) (y : A) → i < k → slice_get (slice_set xs i y) k ≡ slice_get xs k
get_set_other [] i k y apart = refl
get_set_other (x ∷ xs) zero zero y apart = absurd (omega (arith, apart))
get_set_other (x ∷ xs) zero (suc k) y apart = refl
get_set_other (x ∷ xs) (suc i) zero y apart = refl
get_set_other (x ∷ xs) (suc i) (suc k) y apart = get_set_other xs i k y (omega (arith, apart))

take_set_push : {A : Type 0} (xs : List A) (i : ℕ) (y : A) → i < length xs → take (suc i) (slice_set xs i y) ≡ take i xs ++ y ∷ []
take_set_push xs i y fit = let n : suc i ≡ i + 1 = omega arith in ap (λ (k : ℕ). take k (slice_set xs i y)) n ∙ take_more_set xs i y fit

filtered_one : {A B : Type 0} (f : A → Option B) (x : A) → filter_map f (x ∷ []) ≡ option_to_list (f x)
filtered_one {B = B} f x = by (f x)
  where
    by : (o : Option B) → cons_option o [] ≡ option_to_list o
    by None = refl
    by (Some y) = refl

one_at_most : {A : Type 0} (o : Option A) → length (option_to_list o) ≤ 1
one_at_most None = omega arith
one_at_most (Some x) = omega arith

module _ (w : List Shown) (cycle i : ℕ) (was now : LastSight) (s : PassedSoFar w cycle i was now) (mark : Mark) (is : Shown) (next : LastSight)
    (here : slice_get now.marks.items i ≡ Some mark) (there : slice_get w i ≡ Some is) (a : HasAdvanced now cycle i mark is next) where
  items : next.marks.items ≡ slice_set now.marks.items i a.now
  items = ap (λ (b : Buffer Mark). b.items) a.marks

  here_was : slice_get was.marks.items i ≡ Some mark
  here_was = sym (s.later i (omega arith)) ∙ here

  within : i < length now.marks.items
  within = slice_get_within now.marks.items i mark here

  within_w : i < length w
  within_w = slice_get_within w i is there

  taken : take (suc i) next.marks.items ≡ take i now.marks.items ++ a.now ∷ []
  taken = ap (take (suc i)) items ∙ take_set_push now.marks.items i a.now within

  taken_was : take (suc i) was.marks.items ≡ take i was.marks.items ++ mark ∷ []
  taken_was = take_push was.marks.items i mark here_was

  taken_w : take (suc i) w ≡ take i w ++ is ∷ []
  taken_w = take_push w i is there

  same_pipeline : now.pipeline ≡ was.pipeline
  same_pipeline = ap (λ (n : LastSight). n.pipeline) s.rest

  same_params : now.params ≡ was.params
  same_params = ap (λ (n : LastSight). n.params) s.rest

  level : length (window_in (take i was.marks.items)) ≡ length (take i w)
  level = length-map (take i was.marks.items) (λ (m : Mark). shown_in m.shown) ∙ omega (arith, length-take i was.marks.items, length-take i w, within, within_w, s.size)

  pairs_next : pairs_so_far w (suc i) was.marks.items ≡ pairs_so_far w i was.marks.items ++ kept_of mark is ∷ []
  pairs_next =
      (λ j. pairs (window_in (taken_was j)) (taken_w j))
      ∙ ap (λ (ms : List Shown). pairs ms (take i w ++ is ∷ [])) (map_push (λ (m : Mark). shown_in m.shown) (take i was.marks.items) mark)
      ∙ pairs_push (window_in (take i was.marks.items)) (take i w) (shown_in mark.shown) is level

  same_origin : charge_in a.now.origin ≡ charge_in mark.origin
  same_origin = ap (λ (m : Mark). charge_in m.origin) a.same

  misses_level : length (pairs_so_far w i was.marks.items) ≡ length (misses_in (take i was.marks.items))
  misses_level =
      pairs_length (window_in (take i was.marks.items)) (take i w) (omega (arith, level)) ∙ sym level
      ∙ length-map (take i was.marks.items) (λ (m : Mark). shown_in m.shown) ∙ sym (length-map (take i was.marks.items) (λ (m : Mark). m.miss))

  miss_now : a.now.miss ≡ miss_after was.pipeline was.params cycle (kept_of mark is) mark.miss
  miss_now = a.miss ∙ (λ j. miss_after (same_pipeline j) (same_params j) cycle (kept_of mark is) mark.miss)

  loads_next : map access_in next.loads.items ≡ filter_map (load_access was.pipeline) (pairs_so_far w (suc i) was.marks.items)
  loads_next =
      a.loads
      ∙ (λ j. s.loads j ++ option_to_list (load_access (same_pipeline j) (kept_of mark is)))
      ∙ ap (λ (more : List CacheAccess). filter_map (load_access was.pipeline) (pairs_so_far w i was.marks.items) ++ more) (sym (filtered_one (load_access was.pipeline) (kept_of mark is)))
      ∙ sym (filter_map-append (load_access was.pipeline) (pairs_so_far w i was.marks.items) (kept_of mark is ∷ []))
      ∙ ap (filter_map (load_access was.pipeline)) (sym pairs_next)

  pub passed_next : PassedSoFar w cycle (suc i) was next
  passed_next = record {
    rest = a.rest ∙ ap (λ (n : LastSight). record n { marks = next.marks; loads = next.loads }) s.rest;
    size = ap length items ∙ length-set now.marks.items i a.now ∙ s.size;
    capacity = ap (λ (b : Buffer Mark). b.capacity) a.marks ∙ s.capacity;
    later = λ k beyond.
        ap (λ (ms : List Mark). slice_get ms k) items ∙ get_set_other now.marks.items i k a.now (omega (arith, beyond)) ∙ s.later k (omega (arith, beyond));
    window =
        ap window_in taken ∙ map_push (λ (m : Mark). shown_in m.shown) (take i now.marks.items) a.now
        ∙ (λ j. s.window j ++ a.seen j ∷ []) ∙ sym taken_w;
    misses =
        ap misses_in taken ∙ map_push (λ (m : Mark). m.miss) (take i now.marks.items) a.now
        ∙ (λ j. s.misses j ++ miss_now j ∷ [])
        ∙ sym (misses_push was.pipeline was.params cycle (pairs_so_far w i was.marks.items) (kept_of mark is) (misses_in (take i was.marks.items)) mark.miss misses_level)
        ∙ (λ j. kept_misses was.pipeline was.params cycle (sym pairs_next j) (sym (map_push (λ (m : Mark). m.miss) (take i was.marks.items) mark) j))
        ∙ ap (λ (ms : List Mark). kept_misses was.pipeline was.params cycle (pairs_so_far w (suc i) was.marks.items) (misses_in ms)) (sym taken_was);
    origins =
        ap origins_in taken ∙ map_push (λ (m : Mark). charge_in m.origin) (take i now.marks.items) a.now
        ∙ (λ j. s.origins j ++ same_origin j ∷ [])
        ∙ sym (map_push (λ (m : Mark). charge_in m.origin) (take i was.marks.items) mark)
        ∙ ap origins_in (sym taken_was);
    loads = loads_next;
    few =
        omega (
          arith,
          s.few,
          length-map next.loads.items access_in,
          length-map now.loads.items access_in,
          simp length-append at (ap (length {A = CacheAccess}) a.loads),
          one_at_most (load_access now.pipeline (kept_of mark is)),
        );
    room = omega (arith, a.room, s.room);
  }

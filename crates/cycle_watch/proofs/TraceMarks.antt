-- The marks of the instructions under way, one after another.
use Rattle.std.proofs.Common.{◌≡◌, ◌∙◌, ℕ, zero, suc, ◌+◌, ◌-◌, ◌==◌, ◌≤◌, ◌<◌, ◌&&◌, Bool, true, false, if◌then◌else◌, Option, Some, None, List, [], ◌∷◌, ◌++◌, append_assoc, length, length-drop, length-take, take, drop, map, refl, ap, sym, subst, arith}
use Rattle.std.specs.Prelude.{option_map, slice_get, slice_set, reverse, zip}
use Rattle.std.proofs.lemmas.List.{append-nil, drop_all, length-append, length-map, map_push, reverse-append, take_all}
use Rattle.std.proofs.lemmas.Option.{same_Some, slice_get-map, slice_get_within}
use Rattle.mono_model.specs.declared.params.Params.{Params}
use Rattle.insight_model.specs.declared.pipeline.Pipeline.{Pipeline}
use Rattle.insight_model.specs.Sight.{Shown, gives_value, writes_shown}
use Rattle.insight_model.specs.Facts.{Facts, Kept}
use Rattle.insight_model.specs.Accesses.{miss_after}
use Rattle.insight_model.specs.Cell.{cell}
use Rattle.cycle_watch.specs.Cells.{cell_in}
use Rattle.insight_model.specs.Trace.{Mark, appended_lines, appended_marks, kept_marks, marked_after, producer}
use Rattle.cycle_watch.specs.declared.last.LastSight.{LastSight}
use Rattle.cycle_watch.specs.declared.mark.Mark.{Mark as MarkInCode}
use Rattle.cycle_watch.specs.declared.trace.Tracing.{Tracing}
use Rattle.cycle_watch.specs.declared.trace_mark.TraceMark.{TraceMark}
use Rattle.cycle_watch.specs.Traced.{AreMarked, HasIntroduced, HasTakenIn, appended_text, dest_shown, introduced_mark, mark_in, marks_in, older_in}
use Rattle.cycle_watch.specs.Facts.{window_in}
use Rattle.cycle_watch.specs.Shown.{shown_in}
use Rattle.cycle_watch.proofs.Appending.{window_step}
use Rattle.cycle_watch.proofs.TraceSteps.{appended_step, drop_here, marks_step, paid_later}
use Rattle.cycle_watch.proofs.Windows.{get_dropped, take_push}

pub as_many_marks : (w : List Shown) (marks : List TraceMark) → AreMarked w marks → length marks ≡ length w
as_many_marks w marks are =
    sym (length-map marks (λ (m : TraceMark). m.writes)) ∙ ap (length {A = Option ℕ}) are ∙ length-map w dest_shown

-- some of the instructions were introduced, and these are left
pub record Introducing (was : Tracing) (cycle : ℕ) (whole rest : List Shown) (now : Tracing) : Type 0 where
  pub marks : marks_in now.told.marks.items ++ appended_marks was.last.pipeline was.last.params cycle now.introduced rest
      ≡ marks_in was.told.marks.items ++ appended_marks was.last.pipeline was.last.params cycle was.introduced whole
  pub writes : map (λ (m : TraceMark). m.writes) now.told.marks.items ++ map dest_shown rest ≡ map (λ (m : TraceMark). m.writes) was.told.marks.items ++ map dest_shown whole
  pub room : now.told.marks.capacity ≡ was.told.marks.capacity
  pub introduced : now.introduced + length rest ≡ was.introduced + length whole

pub introducing_none : (was : Tracing) (cycle : ℕ) (whole rest : List Shown) → rest ≡ whole → Introducing was cycle whole rest was
introducing_none was cycle whole rest all =
    let S : List Shown → Type 0 = λ xs. Introducing was cycle whole xs was in
    subst S (sym all) (record { marks = refl; writes = refl; room = refl; introduced = refl })

pub introduced_one : (now next : Tracing) (cycle : ℕ) (x : Shown) (mark : TraceMark) → mark_in mark ≡ introduced_mark now.last.pipeline now.last.params cycle now.introduced x → mark.writes ≡ dest_shown x →
    next.told.marks.items ≡ now.told.marks.items ++ mark ∷ [] → next.told.marks.capacity ≡ now.told.marks.capacity → next.introduced ≡ now.introduced + 1 → HasIntroduced now cycle (x ∷ []) next
introduced_one now next cycle x mark is writes items room count = record {
  marks = ap marks_in items ∙ map_push mark_in now.told.marks.items mark ∙ ap (λ (m : Mark). marks_in now.told.marks.items ++ m ∷ []) is;
  writes =
      ap (map (λ (m : TraceMark). m.writes)) items ∙ map_push (λ (m : TraceMark). m.writes) now.told.marks.items mark
      ∙ ap (λ (r : Option ℕ). map (λ (m : TraceMark). m.writes) now.told.marks.items ++ r ∷ []) writes;
  room = room;
  introduced = count;
}

pub introducing_step : (was now next : Tracing) (cycle : ℕ) (whole rest left : List Shown) (x : Shown) → Introducing was cycle whole rest now → rest ≡ x ∷ left →
    now.last.pipeline ≡ was.last.pipeline → now.last.params ≡ was.last.params → HasIntroduced now cycle (x ∷ []) next → Introducing was cycle whole left next
introducing_step was now next cycle whole rest left x so_far is pipeline params one =
    let m : Mark = introduced_mark was.last.pipeline was.last.params cycle now.introduced x in
    let same : introduced_mark now.last.pipeline now.last.params cycle now.introduced x ≡ m = (λ i. introduced_mark (pipeline i) (params i) cycle now.introduced x) in
    let later : next.introduced ≡ now.introduced + 1 = one.introduced in
    record {
      marks =
          (λ i. (one.marks ∙ ap (λ (k : Mark). marks_in now.told.marks.items ++ k ∷ []) same) i ++ appended_marks was.last.pipeline was.last.params cycle (later i) left)
          ∙ append_assoc (marks_in now.told.marks.items) (m ∷ []) (appended_marks was.last.pipeline was.last.params cycle (now.introduced + 1) left)
          ∙ ap (λ (xs : List Shown). marks_in now.told.marks.items ++ appended_marks was.last.pipeline was.last.params cycle now.introduced xs) (sym is)
          ∙ so_far.marks;
      writes =
          ap (λ (l : List (Option ℕ)). l ++ map dest_shown left) one.writes
          ∙ append_assoc (map (λ (k : TraceMark). k.writes) now.told.marks.items) (dest_shown x ∷ []) (map dest_shown left)
          ∙ ap (λ (xs : List Shown). map (λ (k : TraceMark). k.writes) now.told.marks.items ++ map dest_shown xs) (sym is)
          ∙ so_far.writes;
      room = one.room ∙ so_far.room;
      introduced = omega (arith, later, so_far.introduced, ap (length {A = Shown}) is);
    }

pub introducing_all : (was now : Tracing) (cycle : ℕ) (whole rest : List Shown) → Introducing was cycle whole rest now → rest ≡ [] → HasIntroduced was cycle whole now
introducing_all was now cycle whole rest so_far none = record {
  marks =
      sym (append-nil (marks_in now.told.marks.items))
      ∙ ap (λ (xs : List Shown). marks_in now.told.marks.items ++ appended_marks was.last.pipeline was.last.params cycle now.introduced xs) (sym none) ∙ so_far.marks;
  writes =
      sym (append-nil (map (λ (m : TraceMark). m.writes) now.told.marks.items))
      ∙ ap (λ (xs : List Shown). map (λ (m : TraceMark). m.writes) now.told.marks.items ++ map dest_shown xs) (sym none) ∙ so_far.writes;
  room = so_far.room;
  introduced = omega (arith, so_far.introduced, ap (length {A = Shown}) none);
}

-- a mark in the place of another
set_taken : {A B : Type 0} (g : A → B) (xs : List A) (i : ℕ) (y : A) → i < length xs → take (suc i) (map g (slice_set xs i y)) ≡ take i (map g xs) ++ g y ∷ []
set_taken g [] i y fit = absurd (omega (arith, fit))
set_taken g (x ∷ xs) zero y fit = refl
set_taken {B = B} g (x ∷ xs) (suc i) y fit = ap (λ (l : List B). g x ∷ l) (set_taken g xs i y (omega (arith, fit)))

set_dropped : {A : Type 0} (xs : List A) (i : ℕ) (y : A) → drop (suc i) (slice_set xs i y) ≡ drop (suc i) xs
set_dropped [] i y = refl
set_dropped (x ∷ xs) zero y = refl
set_dropped (x ∷ xs) (suc i) y = set_dropped xs i y

set_same_map : {A B : Type 0} (g : A → B) (xs : List A) (i : ℕ) (x y : A) → slice_get xs i ≡ Some x → g y ≡ g x → map g (slice_set xs i y) ≡ map g xs
set_same_map g [] i x y here same = refl
set_same_map {A = A} {B = B} g (a ∷ xs) zero x y here same = let e : a ≡ x = cc in ap (λ (b : B). b ∷ map g xs) (same ∙ ap g (sym e))
set_same_map {B = B} g (a ∷ xs) (suc i) x y here same = ap (λ (l : List B). g a ∷ l) (set_same_map g xs i x y here same)

-- the first of those that stayed have their marks
pub record StayedTo (pipeline : Pipeline) (p : Params) (f : Facts) (ks : List Kept) (place : ℕ) (was now : List TraceMark) : Type 0 where
  pub marks : take place (marks_in now) ++ kept_marks pipeline p f (drop place ks) (drop place (marks_in was)) ≡ kept_marks pipeline p f ks (marks_in was)
  pub later : drop place now ≡ drop place was
  pub writes : map (λ (m : TraceMark). m.writes) now ≡ map (λ (m : TraceMark). m.writes) was

pub stayed_none : (pipeline : Pipeline) (p : Params) (f : Facts) (ks : List Kept) (was : List TraceMark) → StayedTo pipeline p f ks 0 was was
stayed_none pipeline p f ks was = record { marks = refl; later = refl; writes = refl }

pub same_size : (was now : List TraceMark) → map (λ (m : TraceMark). m.writes) now ≡ map (λ (m : TraceMark). m.writes) was → length now ≡ length was
same_size was now same =
    sym (length-map now (λ (m : TraceMark). m.writes)) ∙ ap (length {A = Option ℕ}) same ∙ length-map was (λ (m : TraceMark). m.writes)

module _ (pipeline : Pipeline) (p : Params) (f : Facts) (ks : List Kept) (place : ℕ) (was now : List TraceMark) (s : StayedTo pipeline p f ks place was now) where
  pub was_marked : (mark : TraceMark) → slice_get now place ≡ Some mark → slice_get was place ≡ Some mark
  was_marked mark here =
      let n : place + 0 ≡ place = omega arith in
      ap (slice_get was) (sym n) ∙ sym (get_dropped was place 0) ∙ ap (λ (l : List TraceMark). slice_get l 0) (sym s.later) ∙ get_dropped now place 0 ∙ ap (slice_get now) n ∙ here

  pub was_mark_in : (mark : TraceMark) → slice_get now place ≡ Some mark → slice_get (marks_in was) place ≡ Some (mark_in mark)
  was_mark_in mark here = by was place (was_marked mark here)
    where
      by : (ms : List TraceMark) (i : ℕ) → slice_get ms i ≡ Some mark → slice_get (marks_in ms) i ≡ Some (mark_in mark)
      by [] i is = cc
      by (m ∷ ms) zero is = let e : m ≡ mark = cc in ap (λ (k : TraceMark). Some (mark_in k)) e
      by (m ∷ ms) (suc i) is = by ms i is

  pub stayed_step : (k : Kept) (mark is : TraceMark) (next : List TraceMark) → slice_get ks place ≡ Some k → slice_get now place ≡ Some mark → mark_in is ≡ marked_after pipeline p f k (mark_in mark) →
      is.writes ≡ mark.writes → next ≡ slice_set now place is → StayedTo pipeline p f ks (place + 1) was next
  stayed_step k mark is next at here marked writes put =
      let n : suc place ≡ place + 1 = omega arith in
      let within : place < length now = slice_get_within now place mark here in
      let S : List TraceMark → Type 0 = λ l. StayedTo pipeline p f ks (place + 1) was l in
      subst S (sym put) (record {
        marks =
            ap (λ (l : List Mark). l ++ kept_marks pipeline p f (drop (place + 1) ks) (drop (place + 1) (marks_in was)))
            (ap (λ (k : ℕ). take k (marks_in (slice_set now place is))) (sym n) ∙ set_taken mark_in now place is within)
            ∙ append_assoc (take place (marks_in now)) (mark_in is ∷ []) (kept_marks pipeline p f (drop (place + 1) ks) (drop (place + 1) (marks_in was)))
            ∙ ap (λ (l : List Mark). take place (marks_in now) ++ l) (sym (marks_step pipeline p f place ks (marks_in was) k (mark_in mark) (mark_in is) at (was_mark_in mark here) marked))
            ∙ s.marks;
        later =
            ap (λ (k : ℕ). drop k (slice_set now place is)) (sym n) ∙ set_dropped now place is ∙ rest_same now was place s.later ∙ ap (λ (k : ℕ). drop k was) n;
        writes = set_same_map (λ (m : TraceMark). m.writes) now place mark is here writes ∙ s.writes;
      })
    where
      rest_same : (xs ys : List TraceMark) (i : ℕ) → drop i xs ≡ drop i ys → drop (suc i) xs ≡ drop (suc i) ys
      rest_same xs ys i same = one xs i ∙ ap (drop 1) same ∙ sym (one ys i)
        where
          one : (zs : List TraceMark) (j : ℕ) → drop (suc j) zs ≡ drop 1 (drop j zs)
          one [] zero = refl
          one [] (suc j) = refl
          one (z ∷ zs) zero = refl
          one (z ∷ zs) (suc j) = one zs j

  pub stayed_all : length ks ≤ place → length was ≤ place → marks_in now ≡ kept_marks pipeline p f ks (marks_in was)
  stayed_all all few =
      let whole : length (marks_in now) ≤ place = omega (arith, length-map now mark_in, same_size was now s.writes, few) in
      sym (take_all place (marks_in now) whole) ∙ sym (append-nil (take place (marks_in now)))
      ∙ ap (λ (l : List Kept). take place (marks_in now) ++ kept_marks pipeline p f l (drop place (marks_in was))) (sym (drop_all place ks all)) ∙ s.marks

-- the instructions by their numbers, the youngest first
zip_push : {A B : Type 0} (xs : List A) (ys : List B) (x : A) (y : B) → length xs ≡ length ys → zip (xs ++ x ∷ []) (ys ++ y ∷ []) ≡ zip xs ys ++ (x, y) ∷ []
zip_push [] [] x y level = refl
zip_push [] (b ∷ ys) x y level = absurd (omega (arith, level))
zip_push (a ∷ xs) [] x y level = absurd (omega (arith, level))
zip_push {A = A} {B = B} (a ∷ xs) (b ∷ ys) x y level = ap (λ (l : List (A × B)). (a, b) ∷ l) (zip_push xs ys x y (omega (arith, level)))

pub older_push : (ms : List Mark) (w : List Shown) (m : Mark) (x : Shown) → length ms ≡ length w → older_in (ms ++ m ∷ []) (w ++ x ∷ []) ≡ (m.number, x) ∷ older_in ms w
older_push ms w m x level =
    let numbers = map (λ (k : Mark). k.number) ms in
    let fit : length numbers ≡ length w = length-map ms (λ (k : Mark). k.number) ∙ level in
    ap (λ (ns : List ℕ). reverse (zip ns (w ++ x ∷ []))) (map_push (λ (k : Mark). k.number) ms m)
    ∙ ap (reverse {A = ℕ × Shown}) (zip_push numbers w m.number x fit)
    ∙ reverse-append (zip numbers w) ((m.number, x) ∷ [])

-- the search for the youngest that writes a register
abbrev pub SearchedTo : ℕ → ℕ → List Mark → List Shown → Type 0
SearchedTo register count ms w = producer (older_in (take count ms) (take count w)) register ≡ producer (older_in ms w) register

found_by : (register : ℕ) (x : Shown) (number : ℕ) (older : List (ℕ × Shown)) (b : Bool) → writes_shown register x ≡ b →
    producer ((number, x) ∷ older) register ≡ (if b then (if gives_value x then None else Some number) else producer older register)
found_by register x number older b is = ap (λ (c : Bool). if c then (if gives_value x then None else Some number) else producer older register) is

older_at : (place count : ℕ) (ms : List Mark) (w : List Shown) (m : Mark) (x : Shown) → count ≡ place + 1 → slice_get ms place ≡ Some m → slice_get w place ≡ Some x → length ms ≡ length w →
    older_in (take count ms) (take count w) ≡ (m.number, x) ∷ older_in (take place ms) (take place w)
older_at place count ms w m x is here there level =
    let n : count ≡ suc place = omega (arith, is) in
    (λ i. older_in (take (n i) ms) (take (n i) w))
    ∙ (λ i. older_in (take_push ms place m here i) (take_push w place x there i))
    ∙ older_push (take place ms) (take place w) m x (by ms w place level)
  where
    by : (ks : List Mark) (xs : List Shown) (i : ℕ) → length ks ≡ length xs → length (take i ks) ≡ length (take i xs)
    by ks xs zero same = refl
    by [] [] (suc i) same = refl
    by [] (x ∷ xs) (suc i) same = absurd (omega (arith, same))
    by (k ∷ ks) [] (suc i) same = absurd (omega (arith, same))
    by (k ∷ ks) (x ∷ xs) (suc i) same = ap suc (by ks xs i (omega (arith, same)))

module _ (register place count : ℕ) (ms : List Mark) (w : List Shown) (m : Mark) (x : Shown) (is : count ≡ place + 1) (here : slice_get ms place ≡ Some m) (there : slice_get w place ≡ Some x)
    (level : length ms ≡ length w) (so_far : SearchedTo register count ms w) where
  pub searched_found : writes_shown register x ≡ true → producer (older_in ms w) register ≡ (if gives_value x then None else Some m.number)
  searched_found writes =
      sym so_far ∙ ap (λ (l : List (ℕ × Shown)). producer l register) (older_at place count ms w m x is here there level)
      ∙ found_by register x m.number (older_in (take place ms) (take place w)) true writes

  pub searched_more : writes_shown register x ≡ false → SearchedTo register place ms w
  searched_more other =
      sym (ap (λ (l : List (ℕ × Shown)). producer l register) (older_at place count ms w m x is here there level)
      ∙ found_by register x m.number (older_in (take place ms) (take place w)) false other)
      ∙ so_far

pub searched_start : (register count : ℕ) (ms : List Mark) (w : List Shown) → length ms ≤ count → length w ≤ count → SearchedTo register count ms w
searched_start register count ms w all every = (λ i. producer (older_in (take_all count ms all i) (take_all count w every i)) register)

pub searched_none : (register : ℕ) (ms : List Mark) (w : List Shown) → SearchedTo register 0 ms w → producer (older_in ms w) register ≡ None
searched_none register ms w all = sym all

-- Some of those that were appended were taken in, up to a place in the window after the cycle.
pub record TakingIn (was : Tracing) (cycle kept : ℕ) (w : List Shown) (place : ℕ) (now : Tracing) : Type 0 where
  pub order : kept ≤ place
  pub introduced : Introducing was cycle (drop kept w) (drop place w) now
  pub window : window_in now.last.marks.items ≡ window_in was.last.marks.items ++ take (place - kept) (drop kept w)
  pub rest : now.last ≡ record was.last { marks = record was.last.marks { items = now.last.marks.items } }
  pub marked : AreMarked (window_in now.last.marks.items) now.told.marks.items

pub taking_none : (was : Tracing) (cycle kept : ℕ) (w : List Shown) → AreMarked (window_in was.last.marks.items) was.told.marks.items → TakingIn was cycle kept w kept was
taking_none was cycle kept w marked =
    let none : kept - kept ≡ 0 = omega arith in
    record {
      order = omega arith;
      introduced = introducing_none was cycle (drop kept w) (drop kept w) refl;
      window =
          sym (append-nil (window_in was.last.marks.items))
          ∙ ap (λ (n : ℕ). window_in was.last.marks.items ++ take n (drop kept w)) (sym none);
      rest = refl;
      marked = marked;
    }

module _ (was : Tracing) (cycle kept : ℕ) (w : List Shown) (place : ℕ) (now : Tracing) (taking : TakingIn was cycle kept w place now) where
  pub taking_pipeline : now.last.pipeline ≡ was.last.pipeline
  taking_pipeline = ap (λ (l : LastSight). l.pipeline) taking.rest

  pub taking_params : now.last.params ≡ was.last.params
  taking_params = ap (λ (l : LastSight). l.params) taking.rest

  pub taking_size : length was.last.marks.items ≡ kept → place ≤ length w → length now.last.marks.items ≡ place
  taking_size size within =
      let now_size = length-map now.last.marks.items (λ (m : MarkInCode). shown_in m.shown) in
      let was_size = length-map was.last.marks.items (λ (m : MarkInCode). shown_in m.shown) in
      omega (
        arith,
        now_size,
        was_size,
        ap (length {A = Shown}) taking.window,
        length-append (window_in was.last.marks.items) (take (place - kept) (drop kept w)),
        length-take (place - kept) (drop kept w),
        length-drop kept w,
        size,
        within,
        taking.order,
      )

  pub taking_step : (x : Shown) (next : Tracing) → slice_get w place ≡ Some x → HasTakenIn now cycle (x ∷ []) next → TakingIn was cycle kept w (place + 1) next
  taking_step x next here one = record {
    order = omega (arith, taking.order);
    introduced =
        introducing_step was now next cycle (drop kept w) (drop place w) (drop (place + 1) w) x taking.introduced (drop_here w place x here)
        taking_pipeline taking_params one.introduced;
    window =
        one.window ∙ ap (λ (l : List Shown). l ++ x ∷ []) taking.window
        ∙ append_assoc (window_in was.last.marks.items) (take (place - kept) (drop kept w)) (x ∷ [])
        ∙ ap (λ (l : List Shown). window_in was.last.marks.items ++ l) (sym (window_step w kept place x taking.order here));
    rest = one.rest ∙ ap (λ (l : LastSight). record l { marks = record l.marks { items = next.last.marks.items } }) taking.rest;
    marked =
        one.introduced.writes ∙ ap (λ (l : List (Option ℕ)). l ++ dest_shown x ∷ []) taking.marked
        ∙ sym (map_push dest_shown (window_in now.last.marks.items) x) ∙ ap (map dest_shown) (sym one.window);
  }

  pub taking_all : length w ≤ place → HasTakenIn was cycle (drop kept w) now
  taking_all all = record {
    introduced = introducing_all was now cycle (drop kept w) (drop place w) taking.introduced (drop_all place w all);
    window = taking.window ∙ ap (λ (l : List Shown). window_in was.last.marks.items ++ l) (take_all (place - kept) (drop kept w) (omega (arith, all, length-drop kept w)));
    rest = taking.rest;
  }

pub marked_at : (w : List Shown) (marks : List TraceMark) (i : ℕ) (m : TraceMark) (x : Shown) → AreMarked w marks → slice_get marks i ≡ Some m → slice_get w i ≡ Some x → m.writes ≡ dest_shown x
marked_at w marks i m x are here there =
    same_Some m.writes (dest_shown x)
    (sym (slice_get-map (λ (k : TraceMark). k.writes) marks i ∙ ap (option_map (λ (k : TraceMark). k.writes)) here)
    ∙ ap (λ (l : List (Option ℕ)). slice_get l i) are
    ∙ slice_get-map dest_shown w i ∙ ap (option_map dest_shown) there)

-- the mark after a cycle of one that stayed
pub stayed_mark : (pipeline : Pipeline) (p : Params) (f : Facts) (k : Kept) (old new : TraceMark) → new.number ≡ old.number → new.miss ≡ miss_after pipeline p f.cycle k old.miss →
    cell_in new.cell ≡ cell pipeline p f.cycle new.miss k.after → mark_in new ≡ marked_after pipeline p f k (mark_in old)
stayed_mark pipeline p f k old new number miss shown =
    λ i. record { number = number i; added = miss i; shown = (shown ∙ ap (λ (n : ℕ). cell pipeline p f.cycle n k.after) miss) i }

-- one more that was appended, with its lines
pub appended_next : (was now next : Tracing) (cycle kept : ℕ) (w : List Shown) (place : ℕ) (x : Shown) (paid b : Bool) (first : ℕ) → TakingIn was cycle kept w place now → slice_get w place ≡ Some x →
    HasTakenIn now cycle (x ∷ []) next → b ≡ (paid && (place == kept)) →
    appended_lines was.last.pipeline was.last.params cycle (paid && (place == kept)) now.introduced (first + place) (older_in (marks_in now.told.marks.items) (window_in now.last.marks.items)) (drop place w)
    ≡ appended_text now.last.pipeline now.last.params cycle b now.introduced (first + place) (older_in (marks_in now.told.marks.items) (window_in now.last.marks.items)) x
    ++ appended_lines was.last.pipeline was.last.params cycle (paid && (place + 1 == kept)) next.introduced (first + (place + 1)) (older_in (marks_in next.told.marks.items) (window_in next.last.marks.items)) (drop (place + 1) w)
appended_next was now next cycle kept w place x paid b first taking here one is =
    let n = now.introduced in
    let ms = marks_in now.told.marks.items in
    let window = window_in now.last.marks.items in
    let older = older_in ms window in
    let level : length ms ≡ length window = length-map now.told.marks.items mark_in ∙ as_many_marks window now.told.marks.items taking.marked in
    let older_next : older_in (marks_in next.told.marks.items) (window_in next.last.marks.items) ≡ (n, x) ∷ older =
    (λ i. older_in (one.introduced.marks i) (one.window i)) ∙ older_push ms window (introduced_mark now.last.pipeline now.last.params cycle n x) x level in
    let later : (paid && (place + 1 == kept)) ≡ false = paid_later paid place kept taking.order in
    let nth : first + (place + 1) ≡ first + place + 1 = omega arith in
    let pipeline = taking_pipeline was cycle kept w place now taking in
    let params = taking_params was cycle kept w place now taking in
    ap (λ (c : Bool). appended_lines was.last.pipeline was.last.params cycle c n (first + place) older (drop place w)) (sym is)
    ∙ appended_step was.last.pipeline was.last.params cycle b n (first + place) place older w x here
    ∙ (λ i. appended_text (sym pipeline i) (sym params i) cycle b n (first + place) older x
    ++ appended_lines was.last.pipeline was.last.params cycle (sym later i) (sym one.introduced.introduced i) (sym nth i) (sym older_next i) (drop (place + 1) w))

-- how many marks there are, if there were none
pub introducing_count : (was now : Tracing) (cycle : ℕ) (whole rest : List Shown) (place : ℕ) → Introducing was cycle whole rest now → length whole ≡ place + length rest → length was.told.marks.items ≡ 0 → length now.told.marks.items ≡ place
introducing_count was now cycle whole rest place so_far size none =
    let writes = λ (l : List TraceMark). map (λ (m : TraceMark). m.writes) l in
    omega (
      arith,
      ap (length {A = Option ℕ}) so_far.writes,
      length-append (writes now.told.marks.items) (map dest_shown rest),
      length-append (writes was.told.marks.items) (map dest_shown whole),
      length-map now.told.marks.items (λ (m : TraceMark). m.writes),
      length-map was.told.marks.items (λ (m : TraceMark). m.writes),
      length-map rest dest_shown,
      length-map whole dest_shown,
      size,
      none,
    )

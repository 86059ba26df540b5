-- A cycle that was told: its lines, and what is told after it.
use Rattle.std.proofs.Common.{◌≡◌, ◌∙◌, ℕ, suc, ◌+◌, ◌^◌, ◌≤◌, ◌<◌, Option, Some, Result, Ok, Err, List, [], ◌∷◌, ◌++◌, length, length-drop, length-take, take, drop, map, refl, ap, sym, subst, arith}
use Rattle.std.specs.Prelude.{OnOk, option_and_then, slice_get, reverse, vec_capacity, zip}
use Rattle.std.proofs.lemmas.List.{drop-map, length-map, map-append, length-take-le, take-append-drop, take-map}
use Rattle.std.proofs.lemmas.Option.{slice_get_within}
use Rattle.timing_core.specs.Counts.{counts_in}
use Rattle.mono_model.specs.declared.params.Params.{Params}
use Rattle.mono_model.specs.Report.{Text, joined}
use Rattle.rv_decode.specs.Class.{dest_of}
use Rattle.rv_decode.specs.Decode.{decode_of}
use Rattle.insight_model.specs.declared.pipeline.Pipeline.{Pipeline}
use Rattle.insight_model.specs.Sight.{Shown, Sight}
use Rattle.insight_model.specs.Facts.{Facts, Kept, facts as cycle_facts, left_count, pairs}
use Rattle.insight_model.specs.Trace.{Mark, Tracing, appended_lines, appended_marks, dated, kept_lines, kept_marks, left_lines, lines_by, lines_in, newest_time, older_kept, squashed_lines, tracing_after}
use Rattle.cycle_watch.specs.declared.facts.Facts.{Facts as FactsInCode}
use Rattle.cycle_watch.specs.declared.last.LastSight.{LastSight}
use Rattle.cycle_watch.specs.declared.mark.Mark.{Mark as MarkInCode}
use Rattle.cycle_watch.specs.declared.trace.Tracing.{Tracing as TracingInCode}
use Rattle.cycle_watch.specs.declared.trace_mark.TraceMark.{TraceMark}
use Rattle.cycle_watch.specs.Facts.{Follows, IsTold, at_cycle, facts_in, window_in}
use Rattle.cycle_watch.specs.Known.{HasPassed}
use Rattle.cycle_watch.specs.Shown.{shown_in}
use Rattle.cycle_watch.specs.Traced.{AreMarked, HasTakenIn, HasTraceRoom, TracesAt, dest_shown, mark_in, marks_in, older_in}
use Rattle.cycle_watch.specs.Writing.{HasBroken, HasTold, IsReady, Stand, Tells}
use Rattle.cycle_watch.proofs.Writing.{broken_as, tells_as, tells_both, tells_broken, told_as, told_both, told_then_broken}
use Rattle.cycle_watch.proofs.Passing.{told_cycle}
use Rattle.cycle_watch.proofs.TraceSteps.{lines_cut, marks_cut, numbers_stay}
use Rattle.cycle_watch.proofs.Windows.{get_dropped, get_taken, pairs_after, pairs_length}

-- instructions that write the same
same_dests : (xs ys : List Shown) → length xs ≡ length ys → ((i : ℕ) (x y : Shown) → slice_get xs i ≡ Some x → slice_get ys i ≡ Some y → dest_shown x ≡ dest_shown y) → map dest_shown xs ≡ map dest_shown ys
same_dests [] [] level each = refl
same_dests [] (y ∷ ys) level each = absurd (omega (arith, level))
same_dests (x ∷ xs) [] level each = absurd (omega (arith, level))
same_dests (x ∷ xs) (y ∷ ys) level each = λ i. each 0 x y refl refl i ∷ same_dests xs ys (omega (arith, level)) (λ j a b here there. each (suc j) a b here there) i

module _ (kind : Pipeline) (p : Params) (before after : Sight) (t : Tracing) (old : TracingInCode) (f : FactsInCode) (tr : TracesAt kind p before t old) (follows : Follows before after) (told : IsTold before after f) where
  abbrev pub w : List Shown
  w = window_in old.last.marks.items

  abbrev pub seen : Facts
  seen = facts_in w after.window f

  abbrev pub ms : List Mark
  ms = marks_in old.told.marks.items

  abbrev pub kept_marked : List TraceMark
  kept_marked = take f.kept (drop f.left old.told.marks.items)

  pub is_seen : seen ≡ cycle_facts before after
  is_seen = (λ i. facts_in (tr.keeps.window i) after.window f) ∙ told.facts

  fit : f.left + f.kept ≤ length w
  fit = omega (arith, told.left, told.kept, follows.kept, ap (length {A = Shown}) tr.keeps.window)

  room_after : f.kept ≤ length after.window
  room_after = omega (arith, told.kept)

  pub pair_count : length (pairs (drop f.left w) (take f.kept after.window)) ≡ f.kept
  pair_count = pairs_length (drop f.left w) (take f.kept after.window) (omega (arith, length-take f.kept after.window, length-drop f.left w, fit)) ∙ length-take-le f.kept after.window room_after

  left_size : length (take f.left w) ≡ f.left
  left_size = length-take-le f.left w (omega (arith, fit))

  cut_marks : marks_in kept_marked ≡ take f.kept (drop f.left ms)
  cut_marks = sym (take-map mark_in f.kept (drop f.left old.told.marks.items)) ∙ ap (take f.kept) (sym (drop-map mark_in f.left old.told.marks.items))

  pub kept_lines_are : kept_lines old.last.pipeline old.last.params seen 0 seen.kept (marks_in kept_marked) ≡ kept_lines old.last.pipeline old.last.params seen 0 seen.kept (drop f.left ms)
  kept_lines_are = ap (kept_lines old.last.pipeline old.last.params seen 0 seen.kept) cut_marks ∙ lines_cut old.last.pipeline old.last.params seen 0 seen.kept f.kept (drop f.left ms) (omega (arith, pair_count))

  kept_marks_are : kept_marks old.last.pipeline old.last.params seen seen.kept (marks_in kept_marked) ≡ kept_marks old.last.pipeline old.last.params seen seen.kept (drop f.left ms)
  kept_marks_are = ap (kept_marks old.last.pipeline old.last.params seen seen.kept) cut_marks ∙ marks_cut old.last.pipeline old.last.params seen seen.kept f.kept (drop f.left ms) (omega (arith, pair_count))

  stayed_after : map (λ (k : Kept). k.after) seen.kept ≡ take f.kept after.window
  stayed_after = pairs_after (drop f.left w) (take f.kept after.window) (omega (arith, length-take f.kept after.window, length-drop f.left w, fit))

  -- the older ones, as those that were appended find them
  pub older_are : (marks : List TraceMark) (window : List Shown) → marks_in marks ≡ kept_marks old.last.pipeline old.last.params seen seen.kept (marks_in kept_marked) → window ≡ take f.kept after.window →
      older_in (marks_in marks) window ≡ older_kept seen (drop f.left ms)
  older_are marks window is same =
      (λ i. reverse (zip (map (λ (m : Mark). m.number) ((is ∙ kept_marks_are) i)) ((same ∙ sym stayed_after) i)))
      ∙ ap (reverse {A = ℕ × Shown}) (numbers_stay old.last.pipeline old.last.params seen seen.kept (drop f.left ms))

  abbrev pub L1 : List Text
  L1 = left_lines f.trapped f.number (take f.left w) ms

  abbrev pub L2 : List Text
  L2 = squashed_lines seen f.kept (drop f.kept (drop f.left w)) (drop f.kept (drop f.left ms))

  abbrev pub L3 : List Text
  L3 = kept_lines old.last.pipeline old.last.params seen 0 seen.kept (marks_in kept_marked)

  abbrev pub L4 : List Text
  L4 =
      appended_lines old.last.pipeline old.last.params f.cycle f.paid old.introduced (f.number + f.left + f.kept) (older_kept seen (drop f.left ms))
      (drop f.kept after.window)

  -- the lines of the cycle
  pub lines_are : L1 ++ L2 ++ L3 ++ L4 ≡ lines_in kind p (cycle_facts before after) t
  unfolding lines_in
  lines_are =
      (λ i. left_lines f.trapped f.number (take f.left w) ms
      ++ squashed_lines seen (sym pair_count i) (drop f.kept (drop f.left w)) (drop (sym pair_count i) (drop (sym left_size i) ms))
      ++ (kept_lines_are ∙ ap (λ (n : ℕ). kept_lines old.last.pipeline old.last.params seen 0 seen.kept (drop n ms)) (sym left_size)) i
      ++ appended_lines old.last.pipeline old.last.params f.cycle f.paid old.introduced (f.number + sym left_size i + sym pair_count i)
      (older_kept seen (drop (sym left_size i) ms)) (drop f.kept after.window))
      ∙ (λ i. lines_by (tr.watches.pipeline i) (tr.watches.params i) (is_seen i) (tr.introduced i) (tr.marks i) (drop (length (is_seen i).left) (tr.marks i)))

  -- those that stayed write the same
  still_write : map (λ (m : TraceMark). m.writes) kept_marked ≡ map dest_shown (take f.kept after.window)
  still_write =
      sym (take-map (λ (m : TraceMark). m.writes) f.kept (drop f.left old.told.marks.items))
      ∙ ap (take f.kept) (sym (drop-map (λ (m : TraceMark). m.writes) f.left old.told.marks.items))
      ∙ ap (λ (l : List (Option ℕ)). take f.kept (drop f.left l)) tr.writes
      ∙ ap (take f.kept) (drop-map dest_shown f.left before.window)
      ∙ take-map dest_shown f.kept (drop f.left before.window)
      ∙ same_dests (take f.kept (drop f.left before.window)) (take f.kept after.window)
      (omega (arith, length-take f.kept (drop f.left before.window), length-drop f.left before.window, length-take f.kept after.window, told.left, told.kept, follows.kept, room_after))
      each
    where
      each : (i : ℕ) (x y : Shown) → slice_get (take f.kept (drop f.left before.window)) i ≡ Some x → slice_get (take f.kept after.window) i ≡ Some y → dest_shown x ≡ dest_shown y
      each i x y here there =
          let below : i < f.kept = within_take (take f.kept after.window) i y there (omega (arith, length-take f.kept after.window)) in
          let was : slice_get before.window (left_count before after + i) ≡ Some x =
          ap (λ (n : ℕ). slice_get before.window (n + i)) (sym told.left) ∙ sym (get_dropped before.window f.left i) ∙ sym (get_taken (drop f.left before.window) f.kept i below) ∙ here in
          let is : slice_get after.window i ≡ Some y = sym (get_taken after.window f.kept i below) ∙ there in
          let still = follows.still i x y (omega (arith, below, told.kept)) was is in
          ap (λ (word : Option ℕ). option_and_then dest_of (option_and_then decode_of word)) (sym still.word)
        where
          within_take : (xs : List Shown) (n : ℕ) (z : Shown) → slice_get xs n ≡ Some z → length xs ≤ f.kept → n < f.kept
          within_take xs n z at few = omega (arith, slice_get_within xs n z at, few)

  module _ (stayed : List TraceMark) (mid : TracingInCode) (marked : marks_in stayed ≡ kept_marks old.last.pipeline old.last.params seen seen.kept (marks_in kept_marked))
      (wrote : map (λ (m : TraceMark). m.writes) stayed ≡ map (λ (m : TraceMark). m.writes) kept_marked)
      (has : HasPassed before (at_cycle (before.cycle + 1) after) mid.last) (pipeline : mid.last.pipeline ≡ old.last.pipeline) (params : mid.last.params ≡ old.last.params)
      (own : mid.told.marks.items ≡ stayed) (room : mid.told.marks.capacity ≡ old.told.marks.capacity) (introduced : mid.introduced ≡ old.introduced) where
    pub mid_window : window_in mid.last.marks.items ≡ take f.kept after.window
    mid_window = has.window ∙ ap (λ (n : ℕ). take n after.window) (sym told.kept)

    pub mid_marked : AreMarked (window_in mid.last.marks.items) mid.told.marks.items
    mid_marked = ap (map (λ (m : TraceMark). m.writes)) own ∙ wrote ∙ still_write ∙ ap (map dest_shown) (sym mid_window)

    pub mid_stayed : length mid.last.marks.items ≡ f.kept
    mid_stayed =
        sym (length-map mid.last.marks.items (λ (m : MarkInCode). shown_in m.shown)) ∙ ap (length {A = Shown}) mid_window ∙ length-take-le f.kept after.window room_after

    pub mid_room : HasTraceRoom mid
    mid_room = record { last = has.room.marks; told = room ∙ tr.room }

    pub mid_few : before.cycle < 2 ^ 48 → mid.introduced < 2 ^ 60
    mid_few small = omega (arith, introduced, tr.few, small)

    -- what is told after it
    pub traces_next : (new : TracingInCode) → HasTakenIn mid f.cycle (drop f.kept after.window) new → f.cycle ≡ before.cycle → new.text.at ≡ newest_time old.text.at f.cycle (lines_in kind p (cycle_facts before after) t) → IsReady f.cycle new.text →
        TracesAt kind p (at_cycle (before.cycle + 1) after) (tracing_after kind p (cycle_facts before after) (lines_in kind p (cycle_facts before after) t) t) new
    traces_next new taken same_cycle at ready =
        let F = cycle_facts before after in
        let kinds : mid.last.pipeline ≡ kind = pipeline ∙ tr.watches.pipeline in
        let which : mid.last.params ≡ p = params ∙ tr.watches.params in
        let count = ap (length {A = Shown}) (ap (λ (x : Facts). x.appended) is_seen) in
        record {
          watches = record {
            pipeline = ap (λ (l : LastSight). l.pipeline) taken.rest ∙ kinds;
            params = ap (λ (l : LastSight). l.params) taken.rest ∙ which;
          };
          keeps = record {
            cycle = ap (λ (l : LastSight). l.cycle) taken.rest ∙ has.cycle;
            noted = record {
              retired = ap (λ (l : LastSight). l.retired) taken.rest ∙ has.noted.retired;
              counts = ap (λ (l : LastSight). counts_in l.counts) taken.rest ∙ has.noted.counts;
              resume = ap (λ (l : LastSight). l.resume) taken.rest ∙ has.noted.resume;
              missing = ap (λ (l : LastSight). l.missing) taken.rest ∙ has.noted.missing;
              waiting = ap (λ (l : LastSight). l.waiting) taken.rest ∙ has.noted.waiting;
            };
            window = taken.window ∙ ap (λ (l : List Shown). l ++ drop f.kept after.window) mid_window ∙ take-append-drop f.kept after.window;
            room = record {
              marks = ap (λ (l : LastSight). l.marks.capacity) taken.rest ∙ has.room.marks;
              loads = omega (arith, has.room.loads, ap (λ (l : LastSight). vec_capacity l.loads) taken.rest);
            };
          };
          marks =
              taken.introduced.marks
              ∙ (λ i. (ap marks_in own ∙ marked ∙ kept_marks_are ∙ ap (λ (n : ℕ). kept_marks old.last.pipeline old.last.params seen seen.kept (drop n ms)) (sym left_size)) i
              ++ appended_marks (pipeline i) (params i) f.cycle (introduced i) (drop f.kept after.window))
              ∙ (λ i. kept_marks (tr.watches.pipeline i) (tr.watches.params i) (is_seen i) (is_seen i).kept (drop (length (is_seen i).left) (tr.marks i))
              ++ appended_marks (tr.watches.pipeline i) (tr.watches.params i) (is_seen i).cycle (tr.introduced i) (is_seen i).appended);
          writes =
              taken.introduced.writes ∙ ap (λ (l : List (Option ℕ)). l ++ map dest_shown (drop f.kept after.window)) mid_marked
              ∙ ap (λ (l : List Shown). map dest_shown l ++ map dest_shown (drop f.kept after.window)) mid_window
              ∙ sym (map-append dest_shown (take f.kept after.window) (drop f.kept after.window))
              ∙ ap (map dest_shown) (take-append-drop f.kept after.window);
          room = taken.introduced.room ∙ room ∙ tr.room;
          introduced = taken.introduced.introduced ∙ (λ i. (introduced ∙ tr.introduced) i + count i);
          few = omega (arith, taken.introduced.introduced, introduced, tr.few, follows.within, length-drop f.kept after.window);
          at = at ∙ (λ i. newest_time (tr.at i) ((ap (λ (x : Facts). x.cycle) is_seen) i) (lines_in kind p F t));
          ready = record { room = ready.room; few = ready.few; order = omega (arith, ready.order, same_cycle) };
        }

-- its lines in their four parts
pub cycle_told : {E : Type 0} (cycle at : ℕ) (a b c d whole : List Text) (s m n o e : Stand) (r : Result (Unit {0}) E) → cycle ≡ at → a ++ b ++ c ++ d ≡ whole →
    HasTold cycle a s m → HasTold cycle b m n → HasTold cycle c n o → Tells cycle d o e r → Tells at whole s e r
cycle_told {E = E} cycle at a b c d whole s m n o e r same is first second third fourth =
    let C : ℕ → Type 0 = λ k. Tells {E = E} k whole s e r in
    subst C same
    (tells_as cycle (a ++ b ++ c ++ d) whole s e r is
    (tells_both cycle (a ++ b ++ c) d s o e r (told_both cycle (a ++ b) c s n o (told_both cycle a b s m n first second) third) fourth))

module _ (cycle at : ℕ) (a b c d whole : List Text) (same : cycle ≡ at) (is : a ++ b ++ c ++ d ≡ whole) where
  all_broken : (s e : Stand) → HasBroken (joined (dated s.at cycle (a ++ b ++ c ++ d))) s e → HasBroken (joined (dated s.at at whole)) s e
  all_broken s e broken =
      let C : ℕ → Type 0 = λ k. HasBroken (joined (dated s.at k whole)) s e in
      subst C same (broken_as cycle (a ++ b ++ c ++ d) whole s e is broken)

  pub first_broken : (s e : Stand) → HasBroken (joined (dated s.at cycle a)) s e → HasBroken (joined (dated s.at at whole)) s e
  first_broken s e broken = all_broken s e (tells_broken cycle (a ++ b ++ c) d s e (tells_broken cycle (a ++ b) c s e (tells_broken cycle a b s e broken)))

  pub second_broken : (s m e : Stand) → HasTold cycle a s m → HasBroken (joined (dated m.at cycle b)) m e → HasBroken (joined (dated s.at at whole)) s e
  second_broken s m e first broken = all_broken s e (tells_broken cycle (a ++ b ++ c) d s e (tells_broken cycle (a ++ b) c s e (told_then_broken cycle a b s m e first broken)))

  pub third_broken : (s m n e : Stand) → HasTold cycle a s m → HasTold cycle b m n → HasBroken (joined (dated n.at cycle c)) n e → HasBroken (joined (dated s.at at whole)) s e
  third_broken s m n e first second broken =
      all_broken s e (tells_broken cycle (a ++ b ++ c) d s e (told_then_broken cycle (a ++ b) c s n e (told_both cycle a b s m n first second) broken))

pub told_number : (before after : Sight) (f : FactsInCode) → IsTold before after f → f.number ≡ before.retired + before.counts.exceptions
unfolding cycle_facts
told_number before after f told = ap (λ (x : Facts). x.number) told.facts

-- what the last of the calls answered holds of it
pub on_ok : {E : Type 0} (r : Result (Unit {0}) E) (A B : Type 0) → ((A → B)) → OnOk r A → OnOk r B
on_ok (Ok done) A B then has = then has
on_ok (Err fault) A B then has = has

pub tells_time : {E : Type 0} (cycle : ℕ) (lines : List Text) (s e : Stand) (r : Result (Unit {0}) E) → Tells cycle lines s e r → OnOk r (e.at ≡ newest_time s.at cycle lines)
tells_time cycle lines s e (Ok done) told = told.at
tells_time cycle lines s e (Err fault) told = tt

pub on_ok_both : {E : Type 0} (r : Result (Unit {0}) E) (A B C : Type 0) → (A → B → C) → OnOk r A → OnOk r B → OnOk r C
on_ok_both (Ok done) A B C then first second = then first second
on_ok_both (Err fault) A B C then first second = tt

module _ (kind : Pipeline) (p : Params) (before after : Sight) (t : Tracing) (old : TracingInCode) (f : FactsInCode) (tr : TracesAt kind p before t old) (follows : Follows before after) (told : IsTold before after f) where
  abbrev pub lines : List Text
  lines = lines_in kind p (cycle_facts before after) t

  abbrev pub a : List Text
  a = L1 kind p before after t old f tr follows told

  abbrev pub b : List Text
  b = L2 kind p before after t old f tr follows told

  abbrev pub c : List Text
  c = L3 kind p before after t old f tr follows told

  abbrev pub d : List Text
  d = L4 kind p before after t old f tr follows told

  is : a ++ b ++ c ++ d ≡ lines
  is = lines_are kind p before after t old f tr follows told

  same_cycle : f.cycle ≡ before.cycle
  same_cycle = told_cycle before after f told

  abbrev pub seen_window : List Shown
  seen_window = window_in old.last.marks.items

  abbrev pub facts_seen : Facts
  facts_seen = facts_in seen_window after.window f

  abbrev pub kept_seen : List Kept
  kept_seen = pairs (drop f.left seen_window) (take f.kept after.window)

  pub broken_left : (s e : Stand) → HasBroken (joined (dated s.at f.cycle (left_lines f.trapped f.number (take f.left (window_in old.last.marks.items)) (marks_in old.told.marks.items)))) s e →
      HasBroken (joined (dated s.at before.cycle (lines_in kind p (cycle_facts before after) t))) s e
  broken_left s e broken = first_broken f.cycle before.cycle a b c d lines same_cycle is s e broken

  pub broken_squashed : (s m e : Stand) → HasTold f.cycle (left_lines f.trapped f.number (take f.left (window_in old.last.marks.items)) (marks_in old.told.marks.items)) s m →
      HasBroken (joined (dated m.at f.cycle (squashed_lines (facts_in (window_in old.last.marks.items) after.window f) f.kept (drop f.kept (drop f.left (window_in old.last.marks.items))) (drop f.kept (drop f.left (marks_in old.told.marks.items)))))) m e →
      HasBroken (joined (dated s.at before.cycle (lines_in kind p (cycle_facts before after) t))) s e
  broken_squashed s m e first broken = second_broken f.cycle before.cycle a b c d lines same_cycle is s m e first broken

  module _ (cut : List TraceMark) (cut_is : cut ≡ take f.kept (drop f.left old.told.marks.items)) where
    abbrev pub stayed_lines : List TraceMark → List Text
    stayed_lines marks = kept_lines old.last.pipeline old.last.params facts_seen 0 kept_seen (marks_in marks)

    pub broken_stayed : (s m n e : Stand) → HasTold f.cycle (left_lines f.trapped f.number (take f.left (window_in old.last.marks.items)) (marks_in old.told.marks.items)) s m →
        HasTold f.cycle (squashed_lines (facts_in (window_in old.last.marks.items) after.window f) f.kept (drop f.kept (drop f.left (window_in old.last.marks.items))) (drop f.kept (drop f.left (marks_in old.told.marks.items)))) m n →
        HasBroken (joined (dated n.at f.cycle (kept_lines old.last.pipeline old.last.params (facts_in (window_in old.last.marks.items) after.window f) 0
        (pairs (drop f.left (window_in old.last.marks.items)) (take f.kept after.window)) (marks_in cut)))) n e →
        HasBroken (joined (dated s.at before.cycle (lines_in kind p (cycle_facts before after) t))) s e
    broken_stayed s m n e first second broken =
        third_broken f.cycle before.cycle a b c d lines same_cycle is s m n e first second (broken_as f.cycle (stayed_lines cut) c n e (ap stayed_lines cut_is) broken)

    module _ (mid : TracingInCode)
        (marked : marks_in mid.told.marks.items ≡ kept_marks old.last.pipeline old.last.params (facts_in (window_in old.last.marks.items) after.window f)
        (pairs (drop f.left (window_in old.last.marks.items)) (take f.kept after.window)) (marks_in cut))
        (wrote : map (λ (m : TraceMark). m.writes) mid.told.marks.items ≡ map (λ (m : TraceMark). m.writes) cut)
        (has : HasPassed before (at_cycle (before.cycle + 1) after) mid.last) (pipeline : mid.last.pipeline ≡ old.last.pipeline) (params : mid.last.params ≡ old.last.params)
        (room : mid.told.marks.capacity ≡ old.told.marks.capacity) (introduced : mid.introduced ≡ old.introduced) where
      marked_now : marks_in mid.told.marks.items ≡ kept_marks old.last.pipeline old.last.params facts_seen kept_seen (marks_in (take f.kept (drop f.left old.told.marks.items)))
      marked_now = marked ∙ ap (λ (l : List TraceMark). kept_marks old.last.pipeline old.last.params facts_seen kept_seen (marks_in l)) cut_is

      wrote_now : map (λ (m : TraceMark). m.writes) mid.told.marks.items ≡ map (λ (m : TraceMark). m.writes) (take f.kept (drop f.left old.told.marks.items))
      wrote_now = wrote ∙ ap (map (λ (m : TraceMark). m.writes)) cut_is

      pub window_there : window_in mid.last.marks.items ≡ take f.kept after.window
      window_there = mid_window kind p before after t old f tr follows told mid.told.marks.items mid marked_now wrote_now has pipeline params refl room introduced

      pub marked_there : AreMarked (window_in mid.last.marks.items) mid.told.marks.items
      marked_there = mid_marked kind p before after t old f tr follows told mid.told.marks.items mid marked_now wrote_now has pipeline params refl room introduced

      pub stayed_there : length mid.last.marks.items ≡ f.kept
      stayed_there = mid_stayed kind p before after t old f tr follows told mid.told.marks.items mid marked_now wrote_now has pipeline params refl room introduced

      pub few_there : before.cycle < 2 ^ 48 → mid.introduced < 2 ^ 60
      few_there small = mid_few kind p before after t old f tr follows told mid.told.marks.items mid marked_now wrote_now has pipeline params refl room introduced small

      pub room_there : HasTraceRoom mid
      room_there = mid_room kind p before after t old f tr follows told mid.told.marks.items mid marked_now wrote_now has pipeline params refl room introduced

      same_appended : appended_lines mid.last.pipeline mid.last.params f.cycle f.paid mid.introduced (f.number + f.left + f.kept) (older_in (marks_in mid.told.marks.items) (window_in mid.last.marks.items)) (drop f.kept after.window)
          ≡ d
      same_appended = λ i. appended_lines (pipeline i) (params i) f.cycle f.paid (introduced i) (f.number + f.left + f.kept)
          (older_are kind p before after t old f tr follows told mid.told.marks.items (window_in mid.last.marks.items) marked_now window_there i) (drop f.kept after.window)

      pub told_all : {E : Type 0} (s m n o e : Stand) (r : Result (Unit {0}) E) →
          HasTold f.cycle (left_lines f.trapped f.number (take f.left (window_in old.last.marks.items)) (marks_in old.told.marks.items)) s m →
          HasTold f.cycle (squashed_lines (facts_in (window_in old.last.marks.items) after.window f) f.kept (drop f.kept (drop f.left (window_in old.last.marks.items))) (drop f.kept (drop f.left (marks_in old.told.marks.items)))) m n →
          HasTold f.cycle (kept_lines old.last.pipeline old.last.params (facts_in (window_in old.last.marks.items) after.window f) 0
          (pairs (drop f.left (window_in old.last.marks.items)) (take f.kept after.window)) (marks_in cut)) n o →
          Tells f.cycle (appended_lines mid.last.pipeline mid.last.params f.cycle f.paid mid.introduced (f.number + f.left + f.kept) (older_in (marks_in mid.told.marks.items) (window_in mid.last.marks.items)) (drop f.kept after.window)) o e r →
          Tells before.cycle (lines_in kind p (cycle_facts before after) t) s e r
      told_all s m n o e r first second third fourth =
          cycle_told f.cycle before.cycle a b c d lines s m n o e r same_cycle is first second (told_as f.cycle (stayed_lines cut) c n o (ap stayed_lines cut_is) third)
          (tells_as f.cycle _ d o e r same_appended fourth)

      pub stands_next : {E : Type 0} (new : TracingInCode) (s e : Stand) (r : Result (Unit {0}) E) → s.at ≡ old.text.at → e.at ≡ new.text.at → Tells before.cycle (lines_in kind p (cycle_facts before after) t) s e r →
          OnOk r (HasTakenIn mid f.cycle (drop f.kept after.window) new) → IsReady f.cycle new.text →
          OnOk r (TracesAt kind p (at_cycle (before.cycle + 1) after) (tracing_after kind p (cycle_facts before after) (lines_in kind p (cycle_facts before after) t) t) new)
      stands_next {E = E} new s e r start end tells taken ready =
          on_ok_both r (HasTakenIn mid f.cycle (drop f.kept after.window) new) (e.at ≡ newest_time s.at before.cycle lines)
          (TracesAt kind p (at_cycle (before.cycle + 1) after) (tracing_after kind p (cycle_facts before after) lines t) new)
          (λ has_taken time.
          traces_next kind p before after t old f tr follows told mid.told.marks.items mid marked_now wrote_now has pipeline params refl room introduced new has_taken same_cycle
          (sym end ∙ time ∙ (λ i. newest_time (start i) (sym same_cycle i) lines)) ready)
          taken (tells_time before.cycle lines s e r tells)

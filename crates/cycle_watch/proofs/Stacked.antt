-- The counts of a stack after cycles that are alike.
use Rattle.std.proofs.Common.{◌≡◌, ◌∙◌, ℕ, zero, suc, ◌+◌, ◌*◌, ◌≤◌, ◌<◌, ◌==◌, Bool, true, false, if◌then◌else◌, Option, Some, None, List, [], ◌∷◌, ◌++◌, ◌⊎◌, ◌^◌, inl, inr, cond, length, map, refl, subst, sym, ap, arith, rules}
use Rattle.std.specs.Prelude.{All, count_by, replicate, slice_get, slice_index, slice_set, sum_by}
use Rattle.std.proofs.Math.Nat.{add-zero, mul-suc}
use Rattle.std.proofs.lemmas.List.{length-set}
use Rattle.std.proofs.lemmas.List.Elements.{All-append}
use Rattle.std.proofs.lemmas.Bool.{cases_eq, cases_lt, eq-eqb, ne_eqb}
use Rattle.std.proofs.lemmas.List.Sums.{count_by-le-length, sum_by-cons, sum_by-le, sum_by-le-sum_by}
use Rattle.std.proofs.lemmas.Option.{get_or_from_slice_get, slice_get_within}
use Rattle.insight_model.specs.Sight.{Shown, is_waiting_at}
use Rattle.mono_model.specs.declared.params.Params.{Params}
use Rattle.insight_model.specs.declared.pipeline.Pipeline.{Pipeline}
use Rattle.insight_model.specs.declared.cycle_cause.CycleCause.{CycleCause}
use Rattle.insight_model.specs.declared.cycle_cause.CycleCause.TheVariants as cause
use Rattle.insight_model.specs.declared.fetch_end.FetchEnd.{FetchEnd}
use Rattle.insight_model.specs.declared.fetch_end.FetchEnd.TheVariants as end
use Rattle.insight_model.specs.Cause.{cause_place, causes, is_cause}
use Rattle.insight_model.specs.Cycles.{Cycle}
use Rattle.insight_model.specs.Facts.{window_before}
use Rattle.insight_model.specs.Fetch.{fetch_end, fetch_end_place, fetch_ends, is_fetch_end}
use Rattle.insight_model.specs.Stack.{commit_width, fetch_count, head_count, left_cycles, occupied, waited_in_all, waiting_in}
use Rattle.report_text.specs.declared.stack.StackCounts.{StackCounts}
use Rattle.cycle_watch.specs.declared.facts.Facts.{Facts as FactsInCode}
use Rattle.cycle_watch.specs.Counted.{AreBelow, HasCountRoom, IsStackOf, counted, raised}
use Rattle.cycle_watch.proofs.StackCounts.{fetch_more, head_more, left_more, occupied_more, waited_more}

-- a cycle was spent so, and began so
pub record IsSpent (pipeline : Pipeline) (p : Params) (f : FactsInCode) (cause : CycleCause) (why : FetchEnd) (waited : ℕ) (cycle : Cycle) : Type 0 where
  pub head : cycle.head.cause ≡ cause
  pub ends : fetch_end pipeline p cycle.facts ≡ why
  pub left : length cycle.facts.left ≡ f.left
  pub before : length (window_before cycle.facts) ≡ f.before
  pub waiting : waiting_in (window_before cycle.facts) ≡ waited

-- cycles that were spent alike
abbrev pub AreSpent : Pipeline → Params → FactsInCode → CycleCause → FetchEnd → ℕ → List Cycle → Type 0
AreSpent pipeline p f cause why waiting [] = Unit
AreSpent pipeline p f cause why waiting (cycle ∷ rest) = IsSpent pipeline p f cause why waiting cycle × AreSpent pipeline p f cause why waiting rest

-- the count of one cause alone has risen
raised_heads : (g : CycleCause → ℕ) (spent : CycleCause) (n : ℕ) → raised (map g causes) (cause_place spent) n ≡ map (λ c. g c + (if is_cause c spent then n else 0)) causes
raised_heads g cause.Commit n = simp add-zero
raised_heads g cause.Alu n = simp add-zero
raised_heads g cause.Mul n = simp add-zero
raised_heads g cause.Div n = simp add-zero
raised_heads g cause.Load n = simp add-zero
raised_heads g cause.Store n = simp add-zero
raised_heads g cause.Device n = simp add-zero
raised_heads g cause.Serial n = simp add-zero
raised_heads g cause.Operand n = simp add-zero
raised_heads g cause.Dcache n = simp add-zero
raised_heads g cause.Icache n = simp add-zero
raised_heads g cause.Window n = simp add-zero
raised_heads g cause.Stations n = simp add-zero
raised_heads g cause.Mispredict n = simp add-zero
raised_heads g cause.Trap n = simp add-zero
raised_heads g cause.Interrupt n = simp add-zero
raised_heads g cause.Replay n = simp add-zero
raised_heads g cause.Fence n = simp add-zero
raised_heads g cause.Start n = simp add-zero

raised_ends : (g : FetchEnd → ℕ) (why : FetchEnd) (n : ℕ) → raised (map g fetch_ends) (fetch_end_place why) n ≡ map (λ e. g e + (if is_fetch_end e why then n else 0)) fetch_ends
raised_ends g end.Width n = simp add-zero
raised_ends g end.Taken n = simp add-zero
raised_ends g end.Window n = simp add-zero
raised_ends g end.Stations n = simp add-zero
raised_ends g end.Icache n = simp add-zero
raised_ends g end.Ended n = simp add-zero

map_same : {A B : Type 0} (f g : A → B) (xs : List A) → ((x : A) → f x ≡ g x) → map f xs ≡ map g xs
map_same f g [] same = refl
map_same f g (x ∷ xs) same = λ i. same x i ∷ map_same f g xs same i

count_next : {A : Type 0} (t : A → Bool) (x : A) (xs : List A) (b : Bool) (n : ℕ) → t x ≡ b → count_by t xs ≡ (if b then n else 0) → count_by t (x ∷ xs) ≡ (if b then suc n else 0)
count_next {A = A} t x xs true n own rest = sum_by-cons (λ (y : A). cond (t y) 1 0) x xs ∙ (λ i. cond (own i) 1 0 + rest i) ∙ omega arith
count_next {A = A} t x xs false n own rest = sum_by-cons (λ (y : A). cond (t y) 1 0) x xs ∙ (λ i. cond (own i) 1 0 + rest i) ∙ omega arith

sum_next : {A : Type 0} (f : A → ℕ) (x : A) (xs : List A) (m n : ℕ) → f x ≡ m → sum_by f xs ≡ m * n → sum_by f (x ∷ xs) ≡ m * suc n
sum_next f x xs m n own rest = sum_by-cons f x xs ∙ (λ i. own i + rest i) ∙ omega (arith, mul-suc m n)

set_here : (xs : List ℕ) (i v m : ℕ) → slice_get xs i ≡ Some m → slice_get (slice_set xs i v) i ≡ Some v
set_here [] i v m is = cc
set_here (x ∷ xs) zero v m is = refl
set_here (x ∷ xs) (suc i) v m is = set_here xs i v m is

set_apart : (xs : List ℕ) (i k v : ℕ) → (i ≡ k → ⊥) → slice_get (slice_set xs i v) k ≡ slice_get xs k
set_apart [] i k v apart = refl
set_apart (x ∷ xs) zero zero v apart = absurd (apart refl)
set_apart (x ∷ xs) zero (suc k) v apart = refl
set_apart (x ∷ xs) (suc i) zero v apart = refl
set_apart (x ∷ xs) (suc i) (suc k) v apart = set_apart xs i k v (λ e. apart (ap suc e))

raised_at : (xs : List ℕ) (i k n m : ℕ) → slice_get xs k ≡ Some m → slice_get (raised xs i n) k ≡ Some (m + (if i == k then n else 0))
raised_at xs i k n m is = by (cases_eq i k)
  where
    by : (i ≡ k) ⊎ (i ≡ k → ⊥) → slice_get (raised xs i n) k ≡ Some (m + (if i == k then n else 0))
    by (inl same) =
        let here : slice_get xs i ≡ Some m = ap (slice_get xs) same ∙ is in
        let count : slice_index xs i ≡ m = get_or_from_slice_get xs i m 0 here in
        ap (slice_get (raised xs i n)) (sym same)
        ∙ set_here xs i (slice_index xs i + n) m here
        ∙ (λ j. Some (count j + (if sym (eq-eqb i k same) j then n else 0)))
    by (inr apart) =
        set_apart xs i k (slice_index xs i + n) apart ∙ is
        ∙ ap (λ (c : ℕ). Some c) (sym (add-zero m))
        ∙ ap (λ (b : Bool). Some (m + (if b then n else 0))) (sym (ne_eqb i k apart))

count_if : (b : Bool) → ◌≡◌ {A = ℕ} 0 (if b then 0 else 0)
count_if true = refl
count_if false = refl

module _ (pipeline : Pipeline) (p : Params) (f : FactsInCode) (spent : CycleCause) (why : FetchEnd) (waiting : ℕ) where
  heads_of : (c : CycleCause) (more : List Cycle) → AreSpent pipeline p f spent why waiting more → head_count more c ≡ (if is_cause c spent then length more else 0)
  heads_of c [] all = count_if (is_cause c spent)
  heads_of c (cycle ∷ rest) all =
      count_next (λ (x : Cycle). is_cause c x.head.cause) cycle rest (is_cause c spent) (length rest) (ap (is_cause c) all.0.head) (heads_of c rest all.1)

  ends_of : (e : FetchEnd) (more : List Cycle) → AreSpent pipeline p f spent why waiting more → fetch_count pipeline p more e ≡ (if is_fetch_end e why then length more else 0)
  ends_of e [] all = count_if (is_fetch_end e why)
  ends_of e (cycle ∷ rest) all =
      count_next (λ (x : Cycle). is_fetch_end e (fetch_end pipeline p x.facts)) cycle rest (is_fetch_end e why) (length rest) (ap (is_fetch_end e) all.0.ends) (ends_of e rest all.1)

  left_of : (count : ℕ) (more : List Cycle) → AreSpent pipeline p f spent why waiting more → left_cycles more count ≡ (if f.left == count then length more else 0)
  left_of count [] all = count_if (f.left == count)
  left_of count (cycle ∷ rest) all =
      count_next (λ (x : Cycle). length x.facts.left == count) cycle rest (f.left == count) (length rest) (ap (λ (n : ℕ). n == count) all.0.left) (left_of count rest all.1)

  occupied_of : (more : List Cycle) → AreSpent pipeline p f spent why waiting more → occupied more ≡ f.before * length more
  occupied_of [] all = omega arith
  occupied_of (cycle ∷ rest) all =
      sum_next (λ (x : Cycle). length (window_before x.facts)) cycle rest f.before (length rest) all.0.before (occupied_of rest all.1)

  waited_of : (more : List Cycle) → AreSpent pipeline p f spent why waiting more → waited_in_all more ≡ waiting * length more
  waited_of [] all = omega arith
  waited_of (cycle ∷ rest) all =
      sum_next (λ (x : Cycle). waiting_in (window_before x.facts)) cycle rest waiting (length rest) all.0.waiting (waited_of rest all.1)

  few_of : (more : List Cycle) → AreSpent pipeline p f spent why waiting more → f.before ≤ 256 → All (λ cycle. length (window_before cycle.facts) ≤ 256) more
  few_of [] all few = search rules
  few_of (cycle ∷ rest) all few = let own : length (window_before cycle.facts) ≤ 256 = omega (arith, all.0.before, few) in let others = few_of rest all.1 few in search rules

  pub stack_more : (run more : List Cycle) (counts : StackCounts) → f.left ≤ 8 → f.before ≤ 256 → IsStackOf pipeline p run counts → AreSpent pipeline p f spent why waiting more →
      IsStackOf pipeline p (run ++ more) (counted f spent why waiting (length more) counts)
  stack_more run more counts left few is all = record {
    heads =
        ap (λ (ns : List ℕ). raised ns (cause_place spent) (length more)) is.heads
        ∙ raised_heads (head_count run) spent (length more)
        ∙ sym (map_same (head_count (run ++ more)) (λ (c : CycleCause). head_count run c + (if is_cause c spent then length more else 0)) causes
        (λ c. head_more pipeline p run more c ∙ ap (λ (n : ℕ). head_count run c + n) (heads_of c more all)));
    ends =
        ap (λ (ns : List ℕ). raised ns (fetch_end_place why) (length more)) is.ends
        ∙ raised_ends (fetch_count pipeline p run) why (length more)
        ∙ sym (map_same (fetch_count pipeline p (run ++ more)) (λ (e : FetchEnd). fetch_count pipeline p run e + (if is_fetch_end e why then length more else 0)) fetch_ends
        (λ e. fetch_more pipeline p run more e ∙ ap (λ (n : ℕ). fetch_count pipeline p run e + n) (ends_of e more all)));
    left = λ count fit. left_at count (is.left count fit);
    occupied = (λ i. is.occupied i + sym (occupied_of more all) i) ∙ sym (occupied_more pipeline p run more);
    waiting = (λ i. is.waiting i + sym (waited_of more all) i) ∙ sym (waited_more pipeline p run more);
    few = All-append (λ (cycle : Cycle). length (window_before cycle.facts) ≤ 256) run more is.few (few_of more all few);
    every = length-set counts.left f.left (slice_index counts.left f.left + length more) ∙ is.every;
  }
    where
      left_at : (count : ℕ) → slice_get counts.left count ≡ Some (left_cycles run count) → slice_get (raised counts.left f.left (length more)) count ≡ Some (left_cycles (run ++ more) count)
      left_at count was =
          raised_at counts.left f.left count (length more) (left_cycles run count) was
          ∙ ap (λ (n : ℕ). Some n) (ap (λ (n : ℕ). left_cycles run count + n) (sym (left_of count more all)) ∙ sym (left_more pipeline p run more count))

-- Of a run that is short enough, more can be counted.
mapped_below : {A : Type 0} (f : A → ℕ) (bound : ℕ) (xs : List A) → ((x : A) → f x < bound) → AreBelow bound (map f xs)
mapped_below f bound [] small place count is = cc
mapped_below f bound (x ∷ xs) small zero count is = let e : f x ≡ count = cc in omega (arith, e, small x)
mapped_below f bound (x ∷ xs) small (suc place) count is = mapped_below f bound xs small place count is

pub waits_within : (shown : List Shown) → waiting_in shown ≤ length shown
waits_within shown = count_by-le-length (λ (rec : Shown). is_waiting_at rec.progress) shown

pub has_room : (pipeline : Pipeline) (p : Params) (run : List Cycle) (counts : StackCounts) → IsStackOf pipeline p run counts → length run < 2 ^ 50 → HasCountRoom counts
has_room pipeline p run counts is short = record {
  heads = subst (AreBelow (2 ^ 60)) (sym is.heads) (mapped_below (head_count run) (2 ^ 60) causes (λ c. omega (arith, short, count_by-le-length (λ (cycle : Cycle). is_cause c cycle.head.cause) run)));
  ends = subst (AreBelow (2 ^ 60)) (sym is.ends)
      (mapped_below (fetch_count pipeline p run) (2 ^ 60) fetch_ends (λ e. omega (arith, short, count_by-le-length (λ (cycle : Cycle). is_fetch_end e (fetch_end pipeline p cycle.facts)) run)));
  left = λ place count at. by place count at (cases_lt place 9);
  occupied = omega (arith, is.occupied, short, sum_by-le (λ (cycle : Cycle). length (window_before cycle.facts)) 256 run is.few);
  waiting =
      omega (
        arith,
        is.waiting,
        short,
        sum_by-le-sum_by (λ (cycle : Cycle). waiting_in (window_before cycle.facts)) (λ (cycle : Cycle). length (window_before cycle.facts)) run (λ cycle. waits_within (window_before cycle.facts)),
        sum_by-le (λ (cycle : Cycle). length (window_before cycle.facts)) 256 run is.few,
      );
}
  where
    by : (place count : ℕ) → slice_get counts.left place ≡ Some count → (place < 9) ⊎ (9 ≤ place) → count < 2 ^ 60
    by place count at (inl within) =
        let there = is.left place (omega (arith, within)) in
        let e : count ≡ left_cycles run place = cc in
        omega (arith, e, short, count_by-le-length (λ (cycle : Cycle). length cycle.facts.left == place) run)
    by place count at (inr beyond) = absurd (omega (arith, beyond, is.every, slice_get_within counts.left place count at))

-- where each is counted, and that there is room
pub cause_below : (c : CycleCause) → cause_place c < 19
cause_below cause.Commit = omega arith
cause_below cause.Alu = omega arith
cause_below cause.Mul = omega arith
cause_below cause.Div = omega arith
cause_below cause.Load = omega arith
cause_below cause.Store = omega arith
cause_below cause.Device = omega arith
cause_below cause.Serial = omega arith
cause_below cause.Operand = omega arith
cause_below cause.Dcache = omega arith
cause_below cause.Icache = omega arith
cause_below cause.Window = omega arith
cause_below cause.Stations = omega arith
cause_below cause.Mispredict = omega arith
cause_below cause.Trap = omega arith
cause_below cause.Interrupt = omega arith
cause_below cause.Replay = omega arith
cause_below cause.Fence = omega arith
cause_below cause.Start = omega arith

pub end_below : (e : FetchEnd) → fetch_end_place e < 6
end_below end.Width = omega arith
end_below end.Taken = omega arith
end_below end.Window = omega arith
end_below end.Stations = omega arith
end_below end.Icache = omega arith
end_below end.Ended = omega arith

pub index_below : (bound : ℕ) (xs : List ℕ) (place : ℕ) → AreBelow bound xs → place < length xs → slice_index xs place < bound
index_below bound [] place below within = absurd (omega (arith, within))
index_below bound (x ∷ xs) zero below within = below 0 x refl
index_below bound (x ∷ xs) (suc place) below within = index_below bound xs place (λ k count is. below (suc k) count is) (omega (arith, within))

-- before the first cycle
zeros_at : (n k : ℕ) → k < n → slice_get {X = ℕ} (replicate n 0) k ≡ Some 0
zeros_at zero k below = absurd (omega (arith, below))
zeros_at (suc n) zero below = refl
zeros_at (suc n) (suc k) below = zeros_at n k (omega (arith, below))

pub no_stack : (pipeline : Pipeline) (p : Params) (counts : StackCounts) → counts.heads ≡ replicate 19 0 → counts.ends ≡ replicate 6 0 → counts.left ≡ replicate 9 0 →
    counts.occupied ≡ 0 → counts.waiting ≡ 0 → IsStackOf pipeline p [] counts
no_stack pipeline p counts heads ends left occupied waiting = record {
  heads = heads;
  ends = ends;
  left = λ count fit. ap (λ (ns : List ℕ). slice_get ns count) left ∙ zeros_at 9 count (omega (arith, fit));
  occupied = occupied;
  waiting = waiting;
  few = search rules;
  every = ap (length {A = ℕ}) left;
}

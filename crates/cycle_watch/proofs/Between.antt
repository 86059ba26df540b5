-- Cycles in which nothing happens, of a machine that is seen some cycles later.
use Rattle.std.proofs.Common.{◌≡◌, ◌∙◌, ℕ, zero, suc, ◌+◌, ◌-◌, ◌≤◌, ◌<◌, ◌^◌, false, Option, Some, None, List, [], ◌∷◌, ◌++◌, append_assoc, length, map, refl, sym, ap, subst, arith}
use Rattle.std.specs.Prelude.{option_map, slice_get, slice_index}
use Rattle.std.proofs.lemmas.List.{length-map}
use Rattle.std.proofs.lemmas.Option.{same_Some}
use Rattle.mono_model.specs.declared.params.Params.{Params}
use Rattle.insight_model.specs.declared.pipeline.Pipeline.{Pipeline}
use Rattle.insight_model.specs.declared.pipeline.Pipeline.TheVariants.{Inorder, Window}
use Rattle.insight_model.specs.declared.cycle_cause.CycleCause.{CycleCause}
use Rattle.insight_model.specs.declared.fetch_end.FetchEnd.{FetchEnd}
use Rattle.insight_model.specs.Cause.{Charge}
use Rattle.insight_model.specs.Sight.{Outcome, Shown, Sight, executing, waiting, accessing, done}
use Rattle.insight_model.specs.Facts.{Facts, departed, facts as cycle_facts, has_stopped, kept_count}
use Rattle.insight_model.specs.Fetch.{fetch_end}
use Rattle.insight_model.specs.Head.{Known, head}
use Rattle.report_text.specs.declared.stack.StackCounts.{StackCounts}
use Rattle.insight_model.specs.Cycles.{Cycle, cycles_from, known_after}
use Rattle.cycle_watch.specs.declared.facts.Facts.{Facts as FactsInCode}
use Rattle.cycle_watch.specs.declared.heads.Heads.{Heads}
use Rattle.cycle_watch.specs.declared.last.LastSight.{LastSight}
use Rattle.cycle_watch.specs.declared.mark.Mark.{Mark}
use Rattle.cycle_watch.specs.declared.shown.Progress.{Progress as ProgressInCode}
use Rattle.cycle_watch.specs.declared.shown.Progress.TheVariants as progress
use Rattle.cycle_watch.specs.Shown.{outcome_in, progress_in, shown_in}
use Rattle.cycle_watch.specs.Facts.{Follows, IsStill, IsTold, Keeps, at_cycle, charge_in, idle, window_in}
use Rattle.cycle_watch.specs.Known.{StandsAt, misses_in, origins_in}
use Rattle.cycle_watch.specs.Counted.{IsStackOf, counted}
use Rattle.cycle_watch.specs.Passing.{HasNoTurn, IsApart, StandsBetween, idle_between, idle_facts, known_later}
use Rattle.cycle_watch.proofs.Idling.{NoTurns}
use Rattle.cycle_watch.proofs.Lasting.{Fits, SameKnown, known_idle_later, spent_alike}
use Rattle.cycle_watch.proofs.Stacked.{stack_more}

-- what is told doesn't depend on the cycle in which it is seen
pub told_later : (before after : Sight) (cycle : ℕ) (f : FactsInCode) → IsTold before (at_cycle cycle after) f → IsTold before after f
unfolding cycle_facts
told_later before after cycle f told = record { facts = told.facts; all = told.all; left = told.left; kept = told.kept; appended = told.appended }

same_still : (was is : Shown) → was ≡ is → IsStill was is
same_still was is same = let S : Shown → Type 0 = λ x. IsStill was x in
    subst S same (record { addr = refl; word = refl; predicted = refl; since = refl; outcome = λ o there. there })

pub follows_later : (cycle : ℕ) (after : Sight) → departed after < 2 ^ 63 → length after.window ≤ 256 → Follows (at_cycle cycle after) after
follows_later cycle after few within = record {
  retired = omega arith;
  exceptions = omega arith;
  fetched = omega arith;
  appended = omega arith;
  kept = omega arith;
  still = λ place was is fit there here.
      let none : after.retired + after.counts.exceptions - (after.retired + after.counts.exceptions) + place ≡ place = omega arith in
      same_still was is (same_Some was is (sym there ∙ ap (slice_get after.window) none ∙ here));
  leave = omega arith;
  small = few;
  within = within;
}

-- the oldest of those that are remembered is the oldest that is seen
oldest_of : (marks : List Mark) (w : List Shown) (o : Shown) → window_in marks ≡ w → slice_get w 0 ≡ Some o → (m : Mark) × (slice_get marks 0 ≡ Some m) × (shown_in m.shown ≡ o)
oldest_of [] w o are is = let none : None ≡ Some o = ap (λ (v : List Shown). slice_get v 0) are ∙ is in cc
oldest_of (m ∷ ms) w o are is =
    let first : Some (shown_in m.shown) ≡ Some o = ap (λ (v : List Shown). slice_get v 0) are ∙ is in
    (m, refl, same_Some (shown_in m.shown) o first)

executing_in : (q : ProgressInCode) (o out : Outcome) (e : ℕ) → progress_in q o ≡ executing e out → q ≡ progress.Executing e
executing_in progress.Waiting o out e is = cc
executing_in (progress.Executing u) o out e is = let same : u ≡ e = cc in ap (λ (n : ℕ). progress.Executing n) same
executing_in (progress.Accessing u) o out e is = cc
executing_in progress.Done o out e is = cc

first_miss : (marks : List Mark) (misses : List ℕ) (m : Mark) → misses_in marks ≡ misses → slice_get marks 0 ≡ Some m → slice_index misses 0 ≡ m.miss
first_miss [] misses m are is = cc
first_miss (a ∷ ms) misses m are is =
    let same : a ≡ m = same_Some a m is in
    ap (λ (ns : List ℕ). slice_index ns 0) (sym are) ∙ ap (λ (x : Mark). x.miss) same

module _ (p : Params) (cycle : ℕ) (after : Sight) (known : Known) (heads : Heads) (stands : StandsAt Window p (at_cycle cycle after) known heads) where
  pub as_many : Fits after known
  as_many = record {
    misses =
        ap (length {A = ℕ}) (sym stands.knows.misses) ∙ length-map heads.last.marks.items (λ (m : Mark). m.miss)
        ∙ sym (length-map heads.last.marks.items (λ (m : Mark). shown_in m.shown)) ∙ ap (length {A = Shown}) stands.keeps.window;
    origins =
        ap (length {A = Charge}) (sym stands.knows.origins) ∙ length-map heads.last.marks.items (λ (m : Mark). charge_in m.origin)
        ∙ sym (length-map heads.last.marks.items (λ (m : Mark). shown_in m.shown)) ∙ ap (length {A = Shown}) stands.keeps.window;
  }

  -- nothing turns in the cycles up to this one
  pub no_turns : (end : ℕ) → 0 < cycle → has_stopped after.end ≡ false → HasNoTurn heads.last end → NoTurns p after known cycle end
  no_turns end started goes none = record {
    started = started;
    goes = goes;
    resume = resumes;
    young = young;
    missing = missing;
  }
    where
      from_here : (turn : ℕ) → IsApart heads.last.cycle turn end → IsApart cycle turn end
      from_here turn apart = let A : ℕ → Type 0 = λ from. IsApart from turn end in subst A stands.keeps.cycle apart

      resumes : IsApart cycle after.resume end
      resumes = let A : ℕ → Type 0 = λ turn. IsApart cycle turn end in subst A stands.keeps.noted.resume (from_here heads.last.resume none.resume)

      young : (o : Shown) → slice_get after.window 0 ≡ Some o → IsApart cycle (o.since + p.core_front + 2) end
      young o is =
          let m = oldest_of heads.last.marks.items after.window o stands.keeps.window is in
          let front : heads.last.params.core_front ≡ p.core_front = ap (λ (q : Params). q.core_front) stands.watches.params in
          let since : m.0.shown.since ≡ o.since = ap (λ (x : Shown). x.since) m.2 in
          let turn : m.0.shown.since + (heads.last.params.core_front + 2) ≡ o.since + p.core_front + 2 = omega (arith, front, since) in
          let A : ℕ → Type 0 = λ t. IsApart cycle t end in
          subst A turn (from_here (m.0.shown.since + (heads.last.params.core_front + 2)) (none.young m.0 m.1))

      missing : (o : Shown) (e : ℕ) (out : Outcome) → slice_get after.window 0 ≡ Some o → o.progress ≡ executing e out → IsApart cycle (e - slice_index known.misses 0 + 1) end
      missing o e out is executes =
          let m = oldest_of heads.last.marks.items after.window o stands.keeps.window is in
          let until : m.0.shown.progress ≡ progress.Executing e =
          executing_in m.0.shown.progress (outcome_in m.0.shown) out e (ap (λ (x : Shown). x.progress) m.2 ∙ executes) in
          let miss : slice_index known.misses 0 ≡ m.0.miss = first_miss heads.last.marks.items known.misses m.0 stands.knows.misses m.1 in
          let A : ℕ → Type 0 = λ n. IsApart cycle (e - n + 1) end in
          subst A (sym miss) (from_here (e - m.0.miss + 1) (none.missing m.0 e m.1 until))

  -- the observer stands in the last of them
  pub stands_later : (to : ℕ) (next : Heads) → cycle ≤ to → has_stopped after.end ≡ false → next ≡ record heads { last = record heads.last { cycle = to } } →
      StandsAt Window p (at_cycle to after) (known_later Window p known (idle_between cycle to after)) next
  stands_later to next order goes is =
      let same = known_idle_later p (to - cycle) (at_cycle cycle after) known goes (record { misses = as_many.misses; origins = as_many.origins }) in
      let N : Heads → Type 0 = λ h. StandsAt Window p (at_cycle to after) (known_later Window p known (idle_between cycle to after)) h in
      let keeps = stands.keeps in
      subst N (sym is) (record {
        watches = record { pipeline = stands.watches.pipeline; params = stands.watches.params };
        keeps = record {
          cycle = refl;
          noted = record { retired = keeps.noted.retired; counts = keeps.noted.counts; resume = keeps.noted.resume; missing = keeps.noted.missing; waiting = keeps.noted.waiting };
          window = keeps.window;
          room = record { marks = keeps.room.marks; loads = keeps.room.loads };
        };
        knows = record {
          misses = stands.knows.misses ∙ sym same.misses;
          origins = stands.knows.origins ∙ sym same.origins;
          refill = stands.knows.refill ∙ sym same.refill;
          holes = λ inorder. let no : Window ≡ Inorder = sym stands.watches.pipeline ∙ inorder in cc;
        };
      })

-- cycles from one number to another, and on to a third
pub idle_more : (m n : ℕ) (s : Sight) → idle_facts (m + n) s ≡ idle_facts m s ++ idle_facts n (at_cycle (s.cycle + m) s)
idle_more zero n s =
    let none : 0 + n ≡ n = omega arith in
    let here : s.cycle ≡ s.cycle + 0 = omega arith in
    (λ i. idle_facts (none i) (at_cycle (here i) s))
idle_more (suc m) n s =
    let next : suc m + n ≡ suc (m + n) = omega arith in
    let later : s.cycle + 1 + m ≡ s.cycle + suc m = omega arith in
    ap (λ (k : ℕ). idle_facts k s) next
    ∙ ap (λ (fs : List Facts). cycle_facts s (idle s) ∷ fs) (idle_more m n (idle s))
    ∙ ap (λ (c : ℕ). idle_facts (suc m) s ++ idle_facts n (at_cycle c s)) later

pub between_more : (from mid to : ℕ) (after : Sight) → from ≤ mid → mid ≤ to → idle_between from to after ≡ idle_between from mid after ++ idle_between mid to after
between_more from mid to after first second =
    let count : to - from ≡ (mid - from) + (to - mid) = omega (arith, first, second) in
    let there : from + (mid - from) ≡ mid = omega (arith, first) in
    ap (λ (n : ℕ). idle_facts n (at_cycle from after)) count
    ∙ idle_more (mid - from) (to - mid) (at_cycle from after)
    ∙ ap (λ (c : ℕ). idle_between from mid after ++ idle_facts (to - mid) (at_cycle c after)) there

-- the cycles of some facts, and of more after them
module _ (kind : Pipeline) (p : Params) where
  pub cycles_more : (known : Known) (some more : List Facts) → cycles_from kind p known (some ++ more) ≡ cycles_from kind p known some ++ cycles_from kind p (known_later kind p known some) more
  unfolding cycles_from
  cycles_more known [] more = refl
  cycles_more known (f ∷ some) more =
      ap (λ (rest : List Cycle). record { facts = f; head = head kind p f known } ∷ rest) (cycles_more (known_after kind p f known) some more)

  pub later_more : (known : Known) (some more : List Facts) → known_later kind p known (some ++ more) ≡ known_later kind p (known_later kind p known some) more
  later_more known [] more = refl
  later_more known (f ∷ some) more = later_more (known_after kind p f known) some more

  pub run_more : (known : Known) (run : List Cycle) (some more : List Facts) →
      (run ++ cycles_from kind p known some) ++ cycles_from kind p (known_later kind p known some) more ≡ run ++ cycles_from kind p known (some ++ more)
  run_more known run some more =
      append_assoc run (cycles_from kind p known some) (cycles_from kind p (known_later kind p known some) more)
      ∙ ap (λ (rest : List Cycle). run ++ rest) (sym (cycles_more known some more))

-- how many these are
pub facts_count : (n : ℕ) (s : Sight) → length (idle_facts n s) ≡ n
facts_count zero s = refl
facts_count (suc n) s = ap suc (facts_count n (idle s))

pub cycles_count : (kind : Pipeline) (p : Params) (known : Known) (some : List Facts) → length (cycles_from kind p known some) ≡ length some
unfolding cycles_from
cycles_count kind p known [] = refl
cycles_count kind p known (f ∷ some) = ap suc (cycles_count kind p (known_after kind p f known) some)

pub later_facts : (cycle : ℕ) (after : Sight) → cycle_facts (at_cycle cycle after) (idle (at_cycle cycle after)) ≡ cycle_facts (at_cycle cycle after) after
unfolding cycle_facts
later_facts cycle after = refl

-- those that are alike are counted together
pub stacked_alike : (p : Params) (cycle to : ℕ) (after : Sight) (known : Known) (heads : Heads) (f : FactsInCode) (cause : CycleCause) (why : FetchEnd) →
    StandsAt Window p (at_cycle cycle after) known heads → cycle < to → 0 < cycle → has_stopped after.end ≡ false → length after.window ≤ 256 → HasNoTurn heads.last to →
    IsTold (at_cycle cycle after) (idle (at_cycle cycle after)) f → cause ≡ (head Window p (cycle_facts (at_cycle cycle after) after) known).cause →
    why ≡ fetch_end Window p (cycle_facts (at_cycle cycle after) after) →
    (run : List Cycle) (counts : StackCounts) → IsStackOf Window p run counts →
    IsStackOf Window p (run ++ cycles_from Window p known (idle_between cycle to after)) (counted f cause why heads.last.waiting (to - cycle) counts)
stacked_alike p cycle to after known heads f cause why stands order started goes within none told charged ended run counts stacked =
    let more = cycles_from Window p known (idle_between cycle to after) in
    let fits = as_many p cycle after known heads stands in
    let left : f.left ≡ 0 = omega (arith, told.left) in
    let few : f.before ≤ 256 = omega (arith, told.all, within) in
    let spent =
    spent_alike p after known cycle to f cause why heads.last.waiting (no_turns p cycle after known heads stands to started goes none) fits
    (ap (λ (x : Facts). (head Window p x known).cause) (later_facts cycle after) ∙ sym charged)
    (ap (fetch_end Window p) (later_facts cycle after) ∙ sym ended)
    left told.all (sym stands.keeps.noted.waiting) (to - cycle) cycle known (omega arith) (omega (arith, order)) (record { misses = refl; origins = refl; refill = refl }) in
    let count : length more ≡ to - cycle =
    cycles_count Window p known (idle_between cycle to after) ∙ facts_count (to - cycle) (at_cycle cycle after) in
    let C : ℕ → Type 0 = λ n. IsStackOf Window p (run ++ more) (counted f cause why heads.last.waiting n counts) in
    subst C count (stack_more Window p f cause why heads.last.waiting run more counts (omega (arith, left)) few stacked spent)

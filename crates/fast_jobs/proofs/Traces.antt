-- The trace of a run, by what is seen as its cycles begin.
use Rattle.std.proofs.Common.{◌≡◌, ◌∙◌, ℕ, zero, suc, ◌+◌, ◌-◌, ◌^◌, ◌<◌, ◌≤◌, ◌⊎◌, ◌&&◌, inl, inr, not, nat_lt, Bool, true, false, List, [], ◌∷◌, ◌++◌, append_assoc, drop, length, max, min, take, Option, Result, Ok, Err, refl, sym, ap, subst, arith}
use borrow.Author.Count.{below_more}
use Rattle.std.specs.Prelude.{IsErrAnd}
use Rattle.std.proofs.lemmas.Bool.{cases_lt, false≢true, le-ltb, lt-ltb}
use Rattle.std.proofs.lemmas.List.{append-nil}
use Rattle.mono_model.specs.declared.setup.Setup.{Setup}
use Rattle.mono_model.specs.Final.{has_ended}
use Rattle.mono_model.specs.Report.{Text, joined}
use Rattle.mono_model.specs.Arch.{start}
use Rattle.mono_model.specs.Machine.{machine_start}
use Rattle.mono_model.specs.Cycle.{cycled, final, mono}
use Rattle.machine_laws.specs.FirstEnd.{EndsOnce}
use Rattle.inorder_machine.specs.InorderMachine.{inorder_start}
use Rattle.inorder_machine.specs.Cycle.{inorder, inorder_cycled, inorder_final}
use Rattle.insight_model.specs.declared.pipeline.Pipeline.{Pipeline}
use Rattle.insight_model.specs.declared.pipeline.Pipeline.TheVariants.{Window, Inorder}
use Rattle.insight_model.specs.Sight.{Shown, Sight}
use Rattle.insight_model.specs.Facts.{Facts, departed, facts, facts_between}
use Rattle.insight_model.specs.Following.{Follows}
use Rattle.insight_model.specs.OfState.{inorder_sight, inorder_sights_from, sight, sights, sights_from}
use Rattle.insight_model.specs.Trace.{Tracing, first_cycle, last_cycle, opened, time_lines, trace_lines, trace_text}
use Rattle.insight_laws.proofs.Sights.{EndsInorder, inorder_follows, window_follows}
use Rattle.insight_laws.proofs.Growing.{Lasts, facts_from, one_more}
use Rattle.report_text.proofs.Lines.{joined-append}
use Rattle.fsim_ports.specs.Sink.{Breaks, Puts, grown}
use Rattle.fsim_ports.proofs.Writing.{breaks_second, grown_twice}
use Rattle.cycle_watch.specs.declared.trace.Tracing.{Tracing as TracingInCode}
use Rattle.cycle_watch.specs.Facts.{at_cycle}
use Rattle.cycle_watch.specs.Passing.{WentBy, facts_since}
use Rattle.cycle_watch.specs.Traced.{IsTracing, TracesAt, facts_to, first_lines, lines_later, told_to, tracing_later}
use Rattle.cycle_watch.specs.Writing.{HasBroken, HasPut, Stand}
use Rattle.cycle_watch.proofs.TraceLater.{lines_more, trace_is, tracing_more}
use Rattle.cycle_watch.proofs.Writing.{broken_first, put_both, put_then_broken}
use Rattle.fast_jobs.specs.Job.{CanWatch}
use Rattle.fast_jobs.specs.Played.{Plays, sight_at}
use Rattle.fast_jobs.proofs.PlayedWindow.{window_end}
use Rattle.fast_jobs.proofs.PlayedInorder.{inorder_end}
use Rattle.fast_jobs.proofs.Watching.{first_cycle as none_counted, first_window, went_by}

-- what is seen of so many cycles from one on, and after them
abbrev pub seen_from : (ℕ → Sight) → ℕ → ℕ → List Sight
seen_from seen n zero = seen n ∷ []
seen_from seen n (suc count) = seen n ∷ seen_from seen (suc n) count

rest_lasts : (ended : ℕ → Bool) (n count most : ℕ) → Lasts ended n (suc count) (suc most) → Lasts ended (suc n) count most
rest_lasts ended n count most lasts = record {
  before = λ k from below. lasts.before k (omega (arith, from)) (omega (arith, below));
  within = omega (arith, lasts.within);
  last = λ less. let same : n + suc count ≡ suc n + count = omega arith in ap ended (sym same) ∙ lasts.last (omega (arith, less));
}

sights_on : (b : Bool) (first : Sight) (rest : List Sight) → b ≡ false → first ∷ elim b [ true ↦ [] | false ↦ rest ] ≡ first ∷ rest
sights_on true first rest is = cc
sights_on false first rest is = refl

sights_off : (b : Bool) (first : Sight) (rest : List Sight) → b ≡ true → first ∷ elim b [ true ↦ [] | false ↦ rest ] ≡ first ∷ []
sights_off true first rest is = refl
sights_off false first rest is = cc

window_sights : (s : Setup) (most count n : ℕ) → Lasts (λ k. has_ended (mono s k).end) n count most → sights_from s most (mono s n) ≡ seen_from (λ k. sight (mono s k)) n count
unfolding sights_from mono
window_sights s zero zero n lasts = refl
window_sights s zero (suc count) n lasts = absurd (omega (arith, lasts.within))
window_sights s (suc most) zero n lasts =
    let same : n ≡ n + 0 = omega arith in
    sights_off (has_ended (mono s n).end) (sight (mono s n)) (sights_from s most (cycled s (mono s n))) (ap (λ (k : ℕ). has_ended (mono s k).end) same ∙ lasts.last (omega arith))
window_sights s (suc most) (suc count) n lasts =
    sights_on (has_ended (mono s n).end) (sight (mono s n)) (sights_from s most (cycled s (mono s n))) (lasts.before n (omega arith) (omega arith))
    ∙ ap (λ (rest : List Sight). sight (mono s n) ∷ rest) (window_sights s most count (suc n) (rest_lasts (λ k. has_ended (mono s k).end) n count most lasts))

inorder_sights : (s : Setup) (most count n : ℕ) → Lasts (λ k. has_ended (inorder s k).machine.end) n count most →
    inorder_sights_from s most (inorder s n) ≡ seen_from (λ k. inorder_sight (inorder s k)) n count
unfolding inorder_sights_from inorder
inorder_sights s zero zero n lasts = refl
inorder_sights s zero (suc count) n lasts = absurd (omega (arith, lasts.within))
inorder_sights s (suc most) zero n lasts =
    let same : n ≡ n + 0 = omega arith in
    sights_off (has_ended (inorder s n).machine.end) (inorder_sight (inorder s n)) (inorder_sights_from s most (inorder_cycled s (inorder s n)))
    (ap (λ (k : ℕ). has_ended (inorder s k).machine.end) same ∙ lasts.last (omega arith))
inorder_sights s (suc most) (suc count) n lasts =
    sights_on (has_ended (inorder s n).machine.end) (inorder_sight (inorder s n)) (inorder_sights_from s most (inorder_cycled s (inorder s n))) (lasts.before n (omega arith) (omega arith))
    ∙ ap (λ (rest : List Sight). inorder_sight (inorder s n) ∷ rest) (inorder_sights s most count (suc n) (rest_lasts (λ k. has_ended (inorder s k).machine.end) n count most lasts))

-- a run of so many cycles
abbrev pub HasCycles : Pipeline → Setup → ℕ → Type 0
HasCycles pipeline s count = Lasts (λ k. has_ended (sight_at pipeline s k).end) 0 count s.cycles

sights_are : (pipeline : Pipeline) (s : Setup) (count : ℕ) → HasCycles pipeline s count → sights pipeline s s.cycles ≡ seen_from (sight_at pipeline s) 0 count
unfolding sights mono inorder
sights_are Window s count all = window_sights s s.cycles count 0 (record {
  before = λ k from below. ap has_ended (sym (window_end (mono s k))) ∙ all.before k from below;
  within = all.within;
  last = λ less. ap has_ended (sym (window_end (mono s (0 + count)))) ∙ all.last less;
})
sights_are Inorder s count all = inorder_sights s s.cycles count 0 (record {
  before = λ k from below. ap has_ended (sym (inorder_end (inorder s k))) ∙ all.before k from below;
  within = all.within;
  last = λ less. ap has_ended (sym (inorder_end (inorder s (0 + count)))) ∙ all.last less;
})

-- some of what is seen
module _ (seen : ℕ → Sight) where
  seen_count : (n count : ℕ) → length (seen_from seen n count) ≡ suc count
  seen_count n zero = refl
  seen_count n (suc count) = ap suc (seen_count (suc n) count)

  seen_take : (n count some : ℕ) → some ≤ count → take (suc some) (seen_from seen n count) ≡ seen_from seen n some
  seen_take n zero zero fit = refl
  seen_take n zero (suc some) fit = absurd (omega (arith, fit))
  seen_take n (suc count) zero fit = refl
  seen_take n (suc count) (suc some) fit = ap (λ (rest : List Sight). seen n ∷ rest) (seen_take (suc n) count some (omega (arith, fit)))

  seen_drop : (n count some : ℕ) → some ≤ count → drop some (seen_from seen n count) ≡ seen_from seen (n + some) (count - some)
  seen_drop n count zero fit =
      let here : n ≡ n + 0 = omega arith in
      let all : count ≡ count - 0 = omega arith in
      λ i. seen_from seen (here i) (all i)
  seen_drop n zero (suc some) fit = absurd (omega (arith, fit))
  seen_drop n (suc count) (suc some) fit =
      let here : suc n + some ≡ n + suc some = omega arith in
      let left : count - some ≡ suc count - suc some = omega arith in
      seen_drop (suc n) count some (omega (arith, fit)) ∙ (λ i. seen_from seen (here i) (left i))

  seen_facts : (n count : ℕ) → facts_between (seen_from seen n count) ≡ facts_from seen n count
  unfolding facts_between
  seen_facts n zero = refl
  seen_facts n (suc zero) = refl
  seen_facts n (suc (suc count)) = ap (λ (rest : List Facts). facts (seen n) (seen (suc n)) ∷ rest) (seen_facts (suc n) (suc count))

-- How a run goes: it ends after so many cycles.
pub record IsRun (pipeline : Pipeline) (s : Setup) (count : ℕ) : Type 0 where
  pub before : (k : ℕ) → k < count → has_ended (sight_at pipeline s k).end ≡ false
  pub ended : has_ended (sight_at pipeline s count).end ≡ true
  pub within : count ≤ s.cycles

pub run_is : (pipeline : Pipeline) (s : Setup) → EndsOnce s (final s s.cycles).stats.cycles → EndsInorder s → (count : ℕ) × IsRun pipeline s count
run_is Window s window inorder_once = (
  (final s s.cycles).stats.cycles,
  record {
    before = λ k below. ap has_ended (window_end (mono s k)) ∙ window.first.before k below;
    ended = ap has_ended (window_end (mono s (final s s.cycles).stats.cycles)) ∙ window.first.ended;
    within = window.within;
  },
)
run_is Inorder s window inorder_once = (
  (inorder_final s s.cycles).stats.cycles,
  record {
    before = λ k below. ap has_ended (inorder_end (inorder s k)) ∙ inorder_once.first.before k below;
    ended = ap has_ended (inorder_end (inorder s (inorder_final s s.cycles).stats.cycles)) ∙ inorder_once.first.ended;
    within = inorder_once.within;
  },
)

-- no cycle begins after the end
pub not_past : (pipeline : Pipeline) (s : Setup) (count n : ℕ) → IsRun pipeline s count → ((k : ℕ) → k < n → has_ended (sight_at pipeline s k).end ≡ false) → n ≤ count
not_past pipeline s count n run went = by (cases_lt count n)
  where
    by : (count < n) ⊎ (n ≤ count) → n ≤ count
    by (inl less) = let wrong : true ≡ false = sym run.ended ∙ went count less in cc
    by (inr fit) = fit

pub not_over : (pipeline : Pipeline) (s : Setup) (count n : ℕ) → IsRun pipeline s count → n ≤ count → has_ended (sight_at pipeline s n).end ≡ false → n < count
not_over pipeline s count n run fit goes = by (cases_lt n count)
  where
    by : (n < count) ⊎ (count ≤ n) → n < count
    by (inl less) = less
    by (inr more) =
        let same : count ≡ n = omega (arith, fit, more) in
        let wrong : true ≡ false = sym run.ended ∙ ap (λ (k : ℕ). has_ended (sight_at pipeline s k).end) same ∙ goes in
        cc

-- where a machine stops that plays on to a cycle or to the end of its run
pub stop_is : (pipeline : Pipeline) (s : Setup) (count bound n : ℕ) → IsRun pipeline s count → n ≤ bound → ((k : ℕ) → k < n → has_ended (sight_at pipeline s k).end ≡ false) →
    (n < bound → has_ended (sight_at pipeline s n).end ≡ true) → n ≡ min bound count
stop_is pipeline s count bound n run fit went ended = by (cases_lt n bound) (cases_lt n count)
  where
    most : n ≤ count
    most = not_past pipeline s count n run went

    by : (n < bound) ⊎ (bound ≤ n) → (n < count) ⊎ (count ≤ n) → n ≡ min bound count
    by (inl less) (inl before) = let wrong : false ≡ true = sym (run.before n before) ∙ ended less in cc
    by (inl less) (inr over) = omega (arith, most, over, fit)
    by (inr more) other = omega (arith, most, more, fit)

-- each cycle before the end is counted, and the numbers are within their bounds
pub cycle_at : (pipeline : Pipeline) (s : Setup) (n : ℕ) → CanWatch pipeline s → EndsInorder s → ((k : ℕ) → k < n → has_ended (sight_at pipeline s k).end ≡ false) → (sight_at pipeline s n).cycle ≡ n
cycle_at pipeline s zero can once went = none_counted pipeline s
cycle_at pipeline s (suc n) can once went =
    let next : n + 1 ≡ suc n = omega arith in
    let gone = went_by pipeline s n can once (went n (omega arith)) in
    let there = cycle_at pipeline s n can once (λ k less. went k (omega (arith, less))) in
    let same = ap (λ (k : ℕ). (sight_at pipeline s k).cycle) next in
    omega (arith, same, gone.cycle, there)

first_departed : (pipeline : Pipeline) (s : Setup) → departed (sight_at pipeline s 0) ≡ 0
unfolding sight inorder_sight mono inorder machine_start inorder_start start
first_departed Window s = refl
first_departed Inorder s = refl

followed : (pipeline : Pipeline) (s : Setup) (n : ℕ) → CanWatch pipeline s → EndsInorder s → Follows (sight_at pipeline s n) (sight_at pipeline s (n + 1))
followed Window s n can once = window_follows s n can
followed Inorder s n can once = inorder_follows s n can once

pub window_few : (pipeline : Pipeline) (s : Setup) (n : ℕ) → CanWatch pipeline s → EndsInorder s → length (sight_at pipeline s n).window ≤ 256
window_few pipeline s zero can once = let e = ap (length {A = Shown}) (first_window pipeline s) in omega (arith, e)
window_few pipeline s (suc n) can once =
    let next : n + 1 ≡ suc n = omega arith in
    let e = ap (λ (k : ℕ). length (sight_at pipeline s k).window) next in
    omega (arith, e, (followed pipeline s n can once).within)

pub departed_few : (pipeline : Pipeline) (s : Setup) (n : ℕ) → CanWatch pipeline s → EndsInorder s → departed (sight_at pipeline s n) < 2 ^ 63
departed_few pipeline s zero can once = omega (arith, first_departed pipeline s)
departed_few pipeline s (suc n) can once =
    let next : n + 1 ≡ suc n = omega arith in
    let e = ap (λ (k : ℕ). departed (sight_at pipeline s k)) next in
    omega (arith, e, (followed pipeline s n can once).small)

-- what is told of some cycles
module _ (pipeline : Pipeline) (s : Setup) (first : ℕ) where
  abbrev pub begun : Tracing
  begun = opened pipeline s.params ((sight_at pipeline s first).cycle - 1) (sight_at pipeline s first).window

  abbrev pub facts_until : ℕ → List Facts
  facts_until end = facts_from (sight_at pipeline s) first (end - first)

  abbrev pub told_until : ℕ → Tracing
  told_until end = tracing_later pipeline s.params (facts_until end) begun

  abbrev pub head_text : Text
  head_text = joined (first_lines pipeline s.params (sight_at pipeline s first))

  abbrev pub text_until : ℕ → Text
  text_until end = head_text ++ joined (lines_later pipeline s.params (facts_until end) begun)

  abbrev pub whole_text : ℕ → Text
  whole_text end = text_until end ++ joined (time_lines (told_until end).at end)

  pub until_next : (n : ℕ) → first ≤ n → facts_until (n + 1) ≡ facts_until n ++ facts (sight_at pipeline s n) (sight_at pipeline s (suc n)) ∷ []
  until_next n order =
      let more : n + 1 - first ≡ suc (n - first) = omega (arith, order) in
      ap (facts_from (sight_at pipeline s) first) more ∙ one_more (sight_at pipeline s) (n - first) first n (omega (arith, order))

  -- up to a later end more is told
  until_rest : (k n : ℕ) → first ≤ n → (rest : List Text) × (lines_later pipeline s.params (facts_until (n + k)) begun ≡ lines_later pipeline s.params (facts_until n) begun ++ rest)
  until_rest zero n order =
      let same : n + 0 ≡ n = omega arith in
      ([], ap (λ (m : ℕ). lines_later pipeline s.params (facts_until m) begun) same ∙ sym (append-nil (lines_later pipeline s.params (facts_until n) begun)))
  until_rest (suc k) n order =
      let less = until_rest k n order in
      let next : n + suc k ≡ n + k + 1 = omega arith in
      let last = facts (sight_at pipeline s (n + k)) (sight_at pipeline s (suc (n + k))) ∷ [] in
      let more = lines_later pipeline s.params last (told_until (n + k)) in (
        less.0 ++ more,
        ap (λ (m : ℕ). lines_later pipeline s.params (facts_until m) begun) next
            ∙ ap (λ (fs : List Facts). lines_later pipeline s.params fs begun) (until_next (n + k) (omega (arith, order)))
            ∙ lines_more pipeline s.params (facts_until (n + k)) last begun
            ∙ ap (λ (l : List Text). l ++ more) less.1
            ∙ append_assoc (lines_later pipeline s.params (facts_until n) begun) less.0 more,
      )

  pub text_rest : (n end : ℕ) → first ≤ n → n ≤ end → (rest : Text) × (text_until n ++ rest ≡ whole_text end)
  text_rest n end order fit =
      let there : n + (end - n) ≡ end = omega (arith, fit) in
      let more = until_rest (end - n) n order in
      let time = joined (time_lines (told_until end).at end) in
      let now = lines_later pipeline s.params (facts_until n) begun in
      let all : joined (lines_later pipeline s.params (facts_until end) begun) ≡ joined now ++ joined more.0 =
      ap (λ (m : ℕ). joined (lines_later pipeline s.params (facts_until m) begun)) (sym there) ∙ ap joined more.1 ∙ joined-append now more.0 in (
        joined more.0 ++ time,
        sym (append_assoc (text_until n) (joined more.0) time)
            ∙ ap (λ (t : Text). t ++ time) (append_assoc head_text (joined now) (joined more.0) ∙ ap (λ (t : Text). head_text ++ t) (sym all)),
      )

  pub head_rest : (end : ℕ) → (rest : Text) × (head_text ++ rest ≡ whole_text end)
  head_rest end =
      let lines = joined (lines_later pipeline s.params (facts_until end) begun) in
      let time = joined (time_lines (told_until end).at end) in
      (lines ++ time, sym (append_assoc head_text lines time))

-- the trace of a run
module _ (pipeline : Pipeline) (s : Setup) (from to count : ℕ) (run : IsRun pipeline s count) where
  abbrev first : ℕ
  first = first_cycle count from

  abbrev end : ℕ
  end = last_cycle count from to

  abbrev seen : ℕ → Sight
  seen = sight_at pipeline s

  has : HasCycles pipeline s count
  has = record {
    before = λ k order below. run.before k (omega (arith, below));
    within = run.within;
    last = λ less. let none : 0 + count ≡ count = omega arith in ap (λ (k : ℕ). has_ended (sight_at pipeline s k).end) none ∙ run.ended;
  }

  abbrev part : ℕ → List Sight → Text
  part n sights = joined (trace_lines pipeline s.params (last_cycle n from to) (drop (first_cycle n from) (take (last_cycle n from to + 1) sights)))

  lines_of : (n more e : ℕ) → trace_lines pipeline s.params e (seen_from seen n more) ≡ first_lines pipeline s.params (seen n)
      ++ lines_later pipeline s.params (facts_from seen n more) (begun pipeline s n) ++ time_lines (tracing_later pipeline s.params (facts_from seen n more) (begun pipeline s n)).at e
  unfolding facts_between
  lines_of n zero e = trace_is pipeline s.params e (seen n) [] ∙ by (seen_facts seen n zero)
    where
      by : {fs gs : List Facts} → fs ≡ gs → first_lines pipeline s.params (seen n) ++ lines_later pipeline s.params fs (begun pipeline s n) ++ time_lines (tracing_later pipeline s.params fs (begun pipeline s n)).at e
          ≡ first_lines pipeline s.params (seen n) ++ lines_later pipeline s.params gs (begun pipeline s n) ++ time_lines (tracing_later pipeline s.params gs (begun pipeline s n)).at e
      by same = ap (λ (x : List Facts). first_lines pipeline s.params (seen n) ++ lines_later pipeline s.params x (begun pipeline s n) ++ time_lines (tracing_later pipeline s.params x (begun pipeline s n)).at e) same
  lines_of n (suc more) e = trace_is pipeline s.params e (seen n) (seen_from seen (suc n) more) ∙ by (seen_facts seen n (suc more))
    where
      by : {fs gs : List Facts} → fs ≡ gs → first_lines pipeline s.params (seen n) ++ lines_later pipeline s.params fs (begun pipeline s n) ++ time_lines (tracing_later pipeline s.params fs (begun pipeline s n)).at e
          ≡ first_lines pipeline s.params (seen n) ++ lines_later pipeline s.params gs (begun pipeline s n) ++ time_lines (tracing_later pipeline s.params gs (begun pipeline s n)).at e
      by same = ap (λ (x : List Facts). first_lines pipeline s.params (seen n) ++ lines_later pipeline s.params x (begun pipeline s n) ++ time_lines (tracing_later pipeline s.params x (begun pipeline s n)).at e) same

  pub text_is : whole_text pipeline s (first_cycle count from) (last_cycle count from to) ≡ trace_text pipeline s s.cycles from to
  unfolding trace_text
  text_is =
      let a = first_lines pipeline s.params (seen first) in
      let b = lines_later pipeline s.params (facts_from seen first (end - first)) (begun pipeline s first) in
      let c = time_lines (tracing_later pipeline s.params (facts_from seen first (end - first)) (begun pipeline s first)).at end in
      let fit : end ≤ count = omega arith in
      let order : first ≤ end = omega arith in
      let number : length (seen_from seen 0 count) - 1 ≡ count = omega (arith, seen_count seen 0 count) in
      let some : take (end + 1) (seen_from seen 0 count) ≡ seen_from seen 0 end =
      let next : end + 1 ≡ suc end = omega arith in ap (λ (n : ℕ). take n (seen_from seen 0 count)) next ∙ seen_take seen 0 count end fit in
      let last : drop first (seen_from seen 0 end) ≡ seen_from seen first (end - first) =
      let here : 0 + first ≡ first = omega arith in seen_drop seen 0 end first order ∙ ap (λ (n : ℕ). seen_from seen n (end - first)) here in
      sym (
      ap (λ (run : List Sight). part (length run - 1) run) (sights_are pipeline s count has)
      ∙ ap (λ (n : ℕ). part n (seen_from seen 0 count)) number
      ∙ ap (λ (l : List Sight). joined (trace_lines pipeline s.params end (drop first l))) some
      ∙ ap (λ (l : List Sight). joined (trace_lines pipeline s.params end l)) last
      ∙ ap joined (lines_of first (end - first) end)
      ∙ joined-append (a ++ b) c
      ∙ ap (λ (t : Text). t ++ joined c) (joined-append a b))

-- A machine that is played on, and whose trace is told: where both stand, and what was put.
pub record TracesOn {M : Type 0} (plays : Plays M) (s : Setup) (first last : ℕ) (core : M) (tracing : TracingInCode) (before now : Stand) : Type 0 where
  pub at : ℕ
  pub starts : plays.starts s at core
  pub from : first ≤ at
  pub within : at ≤ last
  pub went : (k : ℕ) → k < at → has_ended (sight_at plays.pipeline s k).end ≡ false
  pub traces : TracesAt plays.pipeline s.params (sight_at plays.pipeline s at) (told_until plays.pipeline s first at) tracing
  pub put : HasPut (text_until plays.pipeline s first at) before now

-- nothing but the first lines was told
pub opened_on : {M : Type 0} (plays : Plays M) (s : Setup) (n first last : ℕ) (core : M) (shown : Sight) (new : TracingInCode) (before now : Stand) → plays.starts s n core →
    shown ≡ sight_at plays.pipeline s n → first ≡ (sight_at plays.pipeline s n).cycle → (sight_at plays.pipeline s n).cycle ≡ n → first ≤ last →
    ((k : ℕ) → k < n → has_ended (sight_at plays.pipeline s k).end ≡ false) →
    TracesAt plays.pipeline s.params (at_cycle first shown) (opened plays.pipeline s.params (first - 1) shown.window) new →
    HasPut (joined (first_lines plays.pipeline s.params (at_cycle first shown))) before now → TracesOn plays s first last core new before now
opened_on plays s n first last core shown new before now starts seen same at fit went traces put =
    let p = s.params in
    let kind = plays.pipeline in
    let here : first ≡ n = same ∙ at in
    let none : n - n ≡ 0 = omega arith in
    let told : told_until kind s n n ≡ begun kind s n = ap (λ (k : ℕ). tracing_later kind p (facts_from (sight_at kind s) n k) (begun kind s n)) none in
    let text : head_text kind s n ≡ text_until kind s n n =
    sym (ap (λ (k : ℕ). head_text kind s n ++ joined (lines_later kind p (facts_from (sight_at kind s) n k) (begun kind s n))) none ∙ append-nil (head_text kind s n)) in
    let there = subst (λ (x : Sight × ℕ). TracesAt kind p (at_cycle x.1 x.0) (opened kind p (x.1 - 1) x.0.window) new) (λ i. (seen i, same i)) traces in
    let wrote = subst (λ (x : Sight × ℕ). HasPut (joined (first_lines kind p (at_cycle x.1 x.0))) before now) (λ i. (seen i, same i)) put in
    subst (λ (k : ℕ). TracesOn plays s k last core new before now) (sym here) (record {
      at = n;
      starts = starts;
      from = omega arith;
      within = omega (arith, fit, here);
      went = went;
      traces = subst (λ (t : Tracing). TracesAt kind p (sight_at kind s n) t new) (sym told) there;
      put = subst (λ (t : Text). HasPut t before now) text wrote;
    })

module _ {M : Type 0} (plays : Plays M) (s : Setup) (first last : ℕ) (core : M) (tracing : TracingInCode) (before now : Stand) (on : TracesOn plays s first last core tracing before now) where
  abbrev pub kind : Pipeline
  kind = plays.pipeline

  abbrev pub here : Sight
  here = sight_at kind s on.at

  abbrev pub so_far : Tracing
  so_far = told_until kind s first on.at

  pub standing_at : tracing.last.cycle ≡ here.cycle
  standing_at = let traces = on.traces in traces.keeps.cycle

  abbrev next_facts : List Facts
  next_facts = facts here (sight_at kind s (suc on.at)) ∷ []

  more_text : text_until kind s first (on.at + 1) ≡ text_until kind s first on.at ++ joined (lines_later kind s.params next_facts so_far)
  more_text =
      let lines = lines_later kind s.params (facts_until kind s first on.at) (begun kind s first) in
      let more = lines_later kind s.params next_facts so_far in
      ap (λ (fs : List Facts). head_text kind s first ++ joined (lines_later kind s.params fs (begun kind s first))) (until_next kind s first on.at on.from)
      ∙ ap (λ (l : List Text). head_text kind s first ++ joined l) (lines_more kind s.params (facts_until kind s first on.at) next_facts (begun kind s first))
      ∙ ap (λ (t : Text). head_text kind s first ++ t) (joined-append lines more)
      ∙ sym (append_assoc (head_text kind s first) (joined lines) (joined more))

  more_told : told_until kind s first (on.at + 1) ≡ tracing_later kind s.params next_facts so_far
  more_told =
      ap (λ (fs : List Facts). tracing_later kind s.params fs (begun kind s first)) (until_next kind s first on.at on.from)
      ∙ tracing_more kind s.params (facts_until kind s first on.at) next_facts (begun kind s first)

  module _ (shown : Sight) (is : shown ≡ sight_at kind s (on.at + 1)) (went : WentBy kind 0 here shown) where
    pub may_trace : IsTracing tracing shown
    may_trace = record {
      pipeline = kind;
      params = s.params;
      before = here;
      so_far = so_far;
      more = 0;
      traces = on.traces;
      went = went;
    }

    later : sight_at kind s (on.at + 1) ≡ sight_at kind s (suc on.at)
    later = let next : on.at + 1 ≡ suc on.at = omega arith in ap (sight_at kind s) next

    -- one cycle alone is told
    one_alone : facts_to last here shown ≡ next_facts
    one_alone =
        let none : told_to (here.cycle + 1) last shown.cycle - (here.cycle + 1) ≡ 0 = omega (arith, went.cycle) in
        ap (λ (k : ℕ). facts_since k here shown) none ∙ ap (λ (x : Sight). facts here x ∷ []) (is ∙ later)

    told_there : told_to (here.cycle + 1) last shown.cycle ≡ shown.cycle
    told_there = omega (arith, went.cycle)

    pub one_traced : (next : M) (new : TracingInCode) (then : Stand) → plays.starts s (on.at + 1) next → on.at < last → has_ended here.end ≡ false →
        TracesAt kind s.params (at_cycle (told_to (here.cycle + 1) last shown.cycle) shown) (tracing_later kind s.params (facts_to last here shown) so_far) new →
        HasPut (joined (lines_later kind s.params (facts_to last here shown) so_far)) now then → TracesOn plays s first last next new before then
    one_traced next new then starts less goes traces put = record {
      at = on.at + 1;
      starts = starts;
      from = omega (arith, on.from);
      within = omega (arith, less);
      went = below_more (λ (k : ℕ). has_ended (sight_at kind s k).end ≡ false) on.at on.went goes;
      traces =
          let a = subst (λ (c : ℕ). TracesAt kind s.params (at_cycle c shown) (tracing_later kind s.params (facts_to last here shown) so_far) new) told_there traces in
          let b = subst (λ (x : Sight). TracesAt kind s.params x (tracing_later kind s.params (facts_to last here shown) so_far) new) is a in
          subst (λ (t : Tracing). TracesAt kind s.params (sight_at kind s (on.at + 1)) t new) (ap (λ (fs : List Facts). tracing_later kind s.params fs so_far) one_alone ∙ sym more_told) b;
      put =
          let wrote = subst (λ (fs : List Facts). HasPut (joined (lines_later kind s.params fs so_far)) now then) one_alone put in
          subst (λ (t : Text). HasPut t before then) (sym more_text) (put_both (text_until kind s first on.at) (joined (lines_later kind s.params next_facts so_far)) before now then on.put wrote);
    }

    pub one_broken : (end : ℕ) (then : Stand) → on.at + 1 ≤ end → HasBroken (joined (lines_later kind s.params (facts_to last here shown) so_far)) now then →
        HasBroken (whole_text kind s first end) before then
    one_broken end then fit broken =
        let some = subst (λ (fs : List Facts). HasBroken (joined (lines_later kind s.params fs so_far)) now then) one_alone broken in
        let so = subst (λ (t : Text). HasBroken t before then) (sym more_text) (put_then_broken (text_until kind s first on.at) (joined (lines_later kind s.params next_facts so_far)) before now then on.put some) in
        let rest = text_rest kind s first (on.at + 1) end (omega (arith, on.from)) fit in
        subst (λ (t : Text). HasBroken t before then) rest.1 (broken_first (text_until kind s first (on.at + 1)) rest.0 before then so)

-- at the end all that is held is written, and the time
pub closed : {E : Type 0} (text time : Text) (s m : Stand) (faults : ℕ) (written : Option Text) (r : Result (Unit {0}) E) → s.held ≡ [] → HasPut text s m →
    Puts (m.held ++ time) m.faults faults m.written written r → Puts (text ++ time) s.faults faults s.written written r
closed text time s m faults written (Ok done) none put flush =
    let part = put.gathered.part in
    let whole : part ++ (m.held ++ time) ≡ text ++ time =
    sym (append_assoc part m.held time) ∙ ap (λ (t : Text). t ++ time) (put.gathered.whole ∙ ap (λ (h : Text). h ++ text) none) in
    flush ∙ ap (λ (w : Option Text). grown w (m.held ++ time)) put.gathered.written ∙ grown_twice s.written part (m.held ++ time) ∙ ap (grown s.written) whole
closed text time s m faults written (Err fault) none put flush =
    let part = put.gathered.part in
    let whole : part ++ (m.held ++ time) ≡ text ++ time =
    sym (append_assoc part m.held time) ∙ ap (λ (t : Text). t ++ time) (put.gathered.whole ∙ ap (λ (h : Text). h ++ text) none) in
    subst (λ (t : Text). Breaks t s.faults faults s.written written) whole (breaks_second part put.gathered.written put.count flush)

pub broken_all : (text : Text) (s e : Stand) → s.held ≡ [] → HasBroken text s e → Breaks text s.faults e.faults s.written e.written
broken_all text s e none broken = subst (λ (h : Text). Breaks (h ++ text) s.faults e.faults s.written e.written) none broken.broke

-- what a test says that it plays on
pub goes_both : (r b : Bool) (m n : ℕ) → r ≡ (not b && nat_lt m n) → r ≡ true → (b ≡ false) × (m < n)
goes_both r true m n is goes = let wrong : false ≡ true = sym is ∙ goes in absurd (false≢true wrong)
goes_both r false m n is goes = by (cases_lt m n)
  where
    by : (m < n) ⊎ (n ≤ m) → (false ≡ false) × (m < n)
    by (inl less) = (refl, less)
    by (inr more) = let wrong : false ≡ true = sym (le-ltb m n more) ∙ sym is ∙ goes in absurd (false≢true wrong)

pub stops_one : (r b : Bool) (m n : ℕ) → r ≡ (not b && nat_lt m n) → r ≡ false → m < n → b ≡ true
stops_one r true m n is stops less = refl
stops_one r false m n is stops less = let wrong : false ≡ true = sym stops ∙ is ∙ lt-ltb m n less in absurd (false≢true wrong)

-- what a `?` returns
pub breaks_err : {E : Type 0} (Q : E → Type 0) (text : Text) (before after : ℕ) (old new : Option Text) (r : Result (Unit {0}) E) → IsErrAnd r Q → Breaks text before after old new → Puts text before after old new r
breaks_err Q text before after old new (Ok done) failed broken = absurd failed
breaks_err Q text before after old new (Err fault) failed broken = broken

-- where the trace ends
module _ {M : Type 0} (plays : Plays M) (s : Setup) (from to count n first last : ℕ) (run : IsRun plays.pipeline s count) (within : n ≤ from)
    (went : (k : ℕ) → k < n → has_ended (sight_at plays.pipeline s k).end ≡ false) (ended : n < from → has_ended (sight_at plays.pipeline s n).end ≡ true) (same : first ≡ n)
    (most : last ≡ max to first) where
  pub first_is : first ≡ first_cycle count from
  first_is = let e = stop_is plays.pipeline s count from n run within went ended in omega (arith, same, e)

  module _ (core : M) (tracing : TracingInCode) (before now : Stand) (on : TracesOn plays s first last core tracing before now) where
    pub end_is : (on.at < last → has_ended (sight_at plays.pipeline s on.at).end ≡ true) → on.at ≡ last_cycle count from to
    end_is stops =
        let e = stop_is plays.pipeline s count last on.at run on.within on.went stops in
        let f = stop_is plays.pipeline s count from n run within went ended in
        omega (arith, e, f, same, most)

    pub not_end : has_ended (sight_at plays.pipeline s on.at).end ≡ false → on.at < last → on.at + 1 ≤ last_cycle count from to
    not_end goes less =
        let e = not_over plays.pipeline s count on.at run (not_past plays.pipeline s count on.at run on.went) goes in
        let f = stop_is plays.pipeline s count from n run within went ended in
        omega (arith, e, f, same, most, less)

    -- the whole text
    abbrev pub stop : ℕ
    stop = last_cycle count from to

    whole_is : whole_text plays.pipeline s first stop ≡ trace_text plays.pipeline s s.cycles from to
    whole_is = ap (λ (k : ℕ). whole_text plays.pipeline s k stop) first_is ∙ text_is plays.pipeline s from to count run

    pub trace_broken : (then : Stand) → before.held ≡ [] → HasBroken (whole_text plays.pipeline s first stop) before then → Breaks (trace_text plays.pipeline s s.cycles from to) before.faults then.faults before.written then.written
    trace_broken then none broken =
        subst (λ (t : Text). Breaks t before.faults then.faults before.written then.written) whole_is (broken_all (whole_text plays.pipeline s first stop) before then none broken)

    pub trace_put : {E : Type 0} (told faults : ℕ) (written : Option Text) (r : Result (Unit {0}) E) → before.held ≡ [] → on.at ≡ stop → told ≡ on.at → now.at ≡ tracing.text.at →
        Puts (now.held ++ joined (time_lines tracing.text.at told)) now.faults faults now.written written r →
        Puts (trace_text plays.pipeline s s.cycles from to) before.faults faults before.written written r
    trace_put {E} told faults written r none there stopped same_time puts =
        let traces = on.traces in
        let time : joined (time_lines tracing.text.at told) ≡ joined (time_lines (told_until plays.pipeline s first on.at).at on.at) =
        λ i. joined (time_lines (traces.at i) (stopped i)) in
        let as_told = subst (λ (t : Text). Puts {E = E} (now.held ++ t) now.faults faults now.written written r) time puts in
        let all = closed (text_until plays.pipeline s first on.at) (joined (time_lines (told_until plays.pipeline s first on.at).at on.at)) before now faults written r none on.put as_told in
        subst (λ (t : Text). Puts {E = E} t before.faults faults before.written written r) (ap (whole_text plays.pipeline s first) there ∙ whole_is) all

-- the first lines broke off
pub head_broken : (pipeline : Pipeline) (s : Setup) (from to count first : ℕ) (before then : Stand) → IsRun pipeline s count → first ≡ first_cycle count from → before.held ≡ [] →
    HasBroken (head_text pipeline s first) before then → Breaks (trace_text pipeline s s.cycles from to) before.faults then.faults before.written then.written
head_broken pipeline s from to count first before then run same none broken =
    let end = last_cycle count from to in
    let rest = head_rest pipeline s first end in
    let all = broken_first (head_text pipeline s first) rest.0 before then broken in
    subst (λ (t : Text). Breaks t before.faults then.faults before.written then.written)
    (rest.1 ∙ ap (λ (k : ℕ). whole_text pipeline s k end) same ∙ text_is pipeline s from to count run)
    (broken_all (head_text pipeline s first ++ rest.0) before then none all)

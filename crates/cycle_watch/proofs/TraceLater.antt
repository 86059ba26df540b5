-- What the trace of some cycles tells, and of more after them.
use Rattle.std.proofs.Common.{◌≡◌, ◌∙◌, ℕ, ◌+◌, ◌-◌, ◌≤◌, ◌<◌, max, Result, Ok, Err, List, [], ◌∷◌, ◌++◌, append_assoc, refl, ap, sym, subst, arith}
use Rattle.std.specs.Prelude.{OnOk}
use Rattle.std.proofs.lemmas.List.{append-nil}
use Rattle.report_text.proofs.Lines.{joined-append}
use Rattle.mono_model.specs.declared.params.Params.{Params}
use Rattle.mono_model.specs.Report.{Text, joined}
use Rattle.insight_model.specs.declared.pipeline.Pipeline.{Pipeline}
use Rattle.insight_model.specs.Sight.{Sight}
use Rattle.insight_model.specs.Facts.{Facts, facts as cycle_facts, facts_between}
use Rattle.insight_model.specs.Trace.{Tracing, dated, lines_in, opened, time_lines, trace_lines, traced, tracing_after}
use Rattle.cycle_watch.specs.declared.trace.Tracing.{Tracing as TracingInCode}
use Rattle.cycle_watch.specs.Facts.{at_cycle}
use Rattle.cycle_watch.specs.Passing.{idle_between, idle_facts}
use Rattle.cycle_watch.specs.Traced.{IsTracingBetween, TracesAt, facts_to, first_lines, lines_later, told_to, tracing_later}
use Rattle.cycle_watch.specs.Writing.{HasBroken, HasPut, HasTold, PutsText, Stand}
use Rattle.cycle_watch.proofs.Between.{between_more}
use Rattle.cycle_watch.proofs.Writing.{broken_first, put_both, put_none, put_then_broken}

module _ (kind : Pipeline) (p : Params) where
  pub lines_more : (some more : List Facts) (t : Tracing) → lines_later kind p (some ++ more) t ≡ lines_later kind p some t ++ lines_later kind p more (tracing_later kind p some t)
  lines_more [] more t = refl
  lines_more (f ∷ some) more t =
      let lines = lines_in kind p f t in
      let next = tracing_after kind p f lines t in
      ap (λ (l : List Text). dated t.at f.cycle lines ++ l) (lines_more some more next)
      ∙ sym (append_assoc (dated t.at f.cycle lines) (lines_later kind p some next) (lines_later kind p more (tracing_later kind p some next)))

  pub tracing_more : (some more : List Facts) (t : Tracing) → tracing_later kind p (some ++ more) t ≡ tracing_later kind p more (tracing_later kind p some t)
  tracing_more [] more t = refl
  tracing_more (f ∷ some) more t = tracing_more some more (tracing_after kind p f (lines_in kind p f t) t)

  -- the trace of these cycles, up to its end
  pub traced_is : (end : ℕ) (some : List Facts) (t : Tracing) → traced kind p end some t ≡ lines_later kind p some t ++ time_lines (tracing_later kind p some t).at end
  unfolding traced
  traced_is end [] t = refl
  traced_is end (f ∷ some) t =
      let lines = lines_in kind p f t in
      let next = tracing_after kind p f lines t in
      ap (λ (l : List Text). dated t.at f.cycle lines ++ l) (traced_is end some next)
      ∙ sym (append_assoc (dated t.at f.cycle lines) (lines_later kind p some next) (time_lines (tracing_later kind p some next).at end))

  -- the whole trace: its first lines, those of its cycles, and the time of its end
  pub trace_is : (end : ℕ) (first : Sight) (rest : List Sight) →
      let before = first.cycle - 1 in
      trace_lines kind p end (first ∷ rest)
      ≡ first_lines kind p first
      ++ lines_later kind p (facts_between (first ∷ rest)) (opened kind p before first.window)
      ++ time_lines (tracing_later kind p (facts_between (first ∷ rest)) (opened kind p before first.window)).at end
  unfolding trace_lines
  trace_is end first rest =
      let before = first.cycle - 1 in
      let start = opened kind p before first.window in
      ap (λ (l : List Text). first_lines kind p first ++ l) (traced_is end (facts_between (first ∷ rest)) start)
      ∙ sym (append_assoc (first_lines kind p first) (lines_later kind p (facts_between (first ∷ rest)) start)
      (time_lines (tracing_later kind p (facts_between (first ∷ rest)) start).at end))

  -- the lines of one cycle after those of others
  pub one_later : (f : Facts) (t : Tracing) (s n : Stand) → s.at ≡ t.at → HasTold f.cycle (lines_in kind p f t) s n → HasPut (joined (lines_later kind p (f ∷ []) t)) s n
  one_later f t s n at told =
      let H : List Text → Type 0 = λ l. HasPut (joined l) s n in
      subst H ((λ i. dated (at i) f.cycle (lines_in kind p f t)) ∙ sym (append-nil (dated t.at f.cycle (lines_in kind p f t)))) told.put

  pub one_broken : (f : Facts) (more : List Facts) (t : Tracing) (s n : Stand) → s.at ≡ t.at → HasBroken (joined (dated s.at f.cycle (lines_in kind p f t))) s n →
      HasBroken (joined (lines_later kind p (f ∷ more) t)) s n
  one_broken f more t s n at broken =
      let lines = lines_in kind p f t in
      let rest = lines_later kind p more (tracing_after kind p f lines t) in
      let H : Text → Type 0 = λ l. HasBroken l s n in
      subst H (ap (λ (l : List Text). joined l ++ joined rest) (λ i. dated (at i) f.cycle lines) ∙ sym (joined-append (dated t.at f.cycle lines) rest))
      (broken_first (joined (dated s.at f.cycle lines)) (joined rest) s n broken)

  joined_later : (some more : List Facts) (t : Tracing) → joined (lines_later kind p some t) ++ joined (lines_later kind p more (tracing_later kind p some t)) ≡ joined (lines_later kind p (some ++ more) t)
  joined_later some more t =
      sym (joined-append (lines_later kind p some t) (lines_later kind p more (tracing_later kind p some t))) ∙ ap joined (sym (lines_more some more t))

  pub later_put : (some more : List Facts) (t : Tracing) (s m n : Stand) → HasPut (joined (lines_later kind p some t)) s m → HasPut (joined (lines_later kind p more (tracing_later kind p some t))) m n →
      HasPut (joined (lines_later kind p (some ++ more) t)) s n
  later_put some more t s m n first second =
      let H : Text → Type 0 = λ l. HasPut l s n in
      subst H (joined_later some more t) (put_both (joined (lines_later kind p some t)) (joined (lines_later kind p more (tracing_later kind p some t))) s m n first second)

  pub later_broken : (some more : List Facts) (t : Tracing) (s m n : Stand) → HasPut (joined (lines_later kind p some t)) s m → HasBroken (joined (lines_later kind p more (tracing_later kind p some t))) m n →
      HasBroken (joined (lines_later kind p (some ++ more) t)) s n
  later_broken some more t s m n first second =
      let H : Text → Type 0 = λ l. HasBroken l s n in
      subst H (joined_later some more t) (put_then_broken (joined (lines_later kind p some t)) (joined (lines_later kind p more (tracing_later kind p some t))) s m n first second)

-- a cycle in which nothing happens, of a machine that is seen later
pub idle_one : (n : ℕ) (after : Sight) → idle_between n (n + 1) after ≡ cycle_facts (at_cycle n after) after ∷ []
unfolding cycle_facts
idle_one n after = let one : n + 1 - n ≡ 1 = omega arith in ap (λ (k : ℕ). idle_facts k (at_cycle n after)) one

pub idle_next : (from n : ℕ) (after : Sight) → from ≤ n → idle_between from (n + 1) after ≡ idle_between from n after ++ cycle_facts (at_cycle n after) after ∷ []
idle_next from n after order = between_more from n (n + 1) after order (omega arith) ∙ ap (λ (l : List Facts). idle_between from n after ++ l) (idle_one n after)

pub idle_split : (from n to : ℕ) (after : Sight) → from ≤ n → n < to → idle_between from to after ≡ idle_between from n after ++ cycle_facts (at_cycle n after) after ∷ idle_between (n + 1) to after
idle_split from n to after order below =
    between_more from n to after order (omega arith)
    ∙ ap (λ (l : List Facts). idle_between from n after ++ l) (between_more n (n + 1) to after (omega arith) (omega (arith, below)) ∙ ap (λ (l : List Facts). l ++ idle_between (n + 1) to after) (idle_one n after))

pub cycle_of : (before after : Sight) → (cycle_facts before after).cycle ≡ before.cycle
unfolding cycle_facts
cycle_of before after = refl

-- cycles in which nothing happened were told up to one
pub record ToldIdle (was now : TracingInCode) (s n : Stand) (after : Sight) (to : ℕ) : Type 0 where
  pub from : was.last.cycle ≤ now.last.cycle
  pub within : now.last.cycle ≤ max was.last.cycle to
  pub traces : (kind : Pipeline) (p : Params) (t : Tracing) → TracesAt kind p (at_cycle was.last.cycle after) t was →
      TracesAt kind p (at_cycle now.last.cycle after) (tracing_later kind p (idle_between was.last.cycle now.last.cycle after) t) now
  pub put : (kind : Pipeline) (p : Params) (t : Tracing) → TracesAt kind p (at_cycle was.last.cycle after) t was → HasPut (joined (lines_later kind p (idle_between was.last.cycle now.last.cycle after) t)) s n

none_between : (from : ℕ) (after : Sight) → idle_between from from after ≡ []
none_between from after = let none : from - from ≡ 0 = omega arith in ap (λ (k : ℕ). idle_facts k (at_cycle from after)) none

pub idle_start : (was : TracingInCode) (s : Stand) (after : Sight) (to : ℕ) → ToldIdle was was s s after to
idle_start was s after to =
    let none = none_between was.last.cycle after in
    record {
      from = omega arith;
      within = omega arith;
      traces = λ kind p t traces.
          let T : List Facts → Type 0 = λ l. TracesAt kind p (at_cycle was.last.cycle after) (tracing_later kind p l t) was in
          subst T (sym none) traces;
      put = λ kind p t traces.
          let H : List Facts → Type 0 = λ l. HasPut (joined (lines_later kind p l t)) s s in
          subst H (sym none) (put_none s);
    }

module _ (was now : TracingInCode) (s n : Stand) (after : Sight) (to : ℕ) (so_far : ToldIdle was now s n after to) where
  abbrev pub here : ℕ
  here = now.last.cycle

  abbrev pub one : Facts
  one = cycle_facts (at_cycle here after) after

  -- it stands between two of them still
  pub idle_between_still : (was.last.cycle < after.cycle → IsTracingBetween was after) → here < after.cycle → IsTracingBetween now after
  idle_between_still standing below =
      let st = standing (omega (arith, so_far.from, below)) in
      record {
        pipeline = st.pipeline;
        params = st.params;
        so_far = tracing_later st.pipeline st.params (idle_between was.last.cycle here after) st.so_far;
        traces = so_far.traces st.pipeline st.params st.so_far st.traces;
        small = st.small;
        goes = st.goes;
        within = st.within;
        few = st.few;
      }

  pub idle_step : (next : TracingInCode) (m : Stand) → here < to → next.last.cycle ≡ here + 1 → n.at ≡ now.text.at →
      ((kind : Pipeline) (p : Params) (t : Tracing) → TracesAt kind p (at_cycle here after) t now → HasTold here (lines_in kind p (cycle_facts (at_cycle here after) after) t) n m) →
      ((kind : Pipeline) (p : Params) (t : Tracing) → TracesAt kind p (at_cycle here after) t now →
      TracesAt kind p (at_cycle (here + 1) after) (tracing_after kind p (cycle_facts (at_cycle here after) after) (lines_in kind p (cycle_facts (at_cycle here after) after) t) t) next) →
      ToldIdle was next s m after to
  idle_step next m below later time tells stands =
      let from = was.last.cycle in
      let facts = idle_next from here after so_far.from in
      record {
        from = omega (arith, later, so_far.from);
        within = omega (arith, later, below);
        traces = λ kind p t traces.
            let t_now = tracing_later kind p (idle_between from here after) t in
            let T : List Facts → Type 0 = λ l. TracesAt kind p (at_cycle (here + 1) after) (tracing_later kind p l t) next in
            let U : Tracing → Type 0 = λ x. TracesAt kind p (at_cycle (here + 1) after) x next in
            let N : ℕ → Type 0 = λ k. TracesAt kind p (at_cycle k after) (tracing_later kind p (idle_between from k after) t) next in
            subst N (sym later)
            (subst T (sym facts)
            (subst U (sym (tracing_more kind p (idle_between from here after) (one ∷ []) t)) (stands kind p t_now (so_far.traces kind p t traces))));
        put = λ kind p t traces.
            let t_now = tracing_later kind p (idle_between from here after) t in
            let there = so_far.traces kind p t traces in
            let H : List Facts → Type 0 = λ l. HasPut (joined (lines_later kind p l t)) s m in
            let C : ℕ → Type 0 = λ k. HasTold k (lines_in kind p one t_now) n m in
            let N : ℕ → Type 0 = λ k. HasPut (joined (lines_later kind p (idle_between from k after) t)) s m in
            subst N (sym later)
            (subst H (sym facts)
            (later_put kind p (idle_between from here after) (one ∷ []) t s n m (so_far.put kind p t traces)
            (one_later kind p one t_now n m (time ∙ there.at) (subst C (sym (cycle_of (at_cycle here after) after)) (tells kind p t_now there)))));
      }

  -- all of them were told
  pub idle_reached : (end : ℕ) → max was.last.cycle to ≡ end → to ≤ here → here ≡ end
  idle_reached end is over = omega (arith, is, over, so_far.from, so_far.within)

  pub idle_all_put : (end : ℕ) → here ≡ end → (kind : Pipeline) (p : Params) (t : Tracing) → TracesAt kind p (at_cycle was.last.cycle after) t was → HasPut (joined (lines_later kind p (idle_between was.last.cycle end after) t)) s n
  idle_all_put end is kind p t traces =
      let N : ℕ → Type 0 = λ k. HasPut (joined (lines_later kind p (idle_between was.last.cycle k after) t)) s n in
      subst N is (so_far.put kind p t traces)

  pub idle_all_stands : (end : ℕ) → here ≡ end → (kind : Pipeline) (p : Params) (t : Tracing) → TracesAt kind p (at_cycle was.last.cycle after) t was →
      TracesAt kind p (at_cycle end after) (tracing_later kind p (idle_between was.last.cycle end after) t) now
  idle_all_stands end is kind p t traces =
      let N : ℕ → Type 0 = λ k. TracesAt kind p (at_cycle k after) (tracing_later kind p (idle_between was.last.cycle k after) t) now in
      subst N is (so_far.traces kind p t traces)

  pub idle_broken : (m : Stand) (end : ℕ) → here < end → n.at ≡ now.text.at → (kind : Pipeline) (p : Params) (t : Tracing) → TracesAt kind p (at_cycle was.last.cycle after) t was →
      ((u : Tracing) → TracesAt kind p (at_cycle here after) u now → HasBroken (joined (dated n.at here (lines_in kind p (cycle_facts (at_cycle here after) after) u))) n m) →
      HasBroken (joined (lines_later kind p (idle_between was.last.cycle end after) t)) s m
  idle_broken m end below time kind p t traces broken =
      let from = was.last.cycle in
      let t_now = tracing_later kind p (idle_between from here after) t in
      let there = so_far.traces kind p t traces in
      let H : List Facts → Type 0 = λ l. HasBroken (joined (lines_later kind p l t)) s m in
      let C : ℕ → Type 0 = λ k. HasBroken (joined (dated n.at k (lines_in kind p one t_now))) n m in
      subst H (sym (idle_split from here end after so_far.from below))
      (later_broken kind p (idle_between from here after) (one ∷ idle_between (here + 1) end after) t s n m (so_far.put kind p t traces)
      (one_broken kind p one (idle_between (here + 1) end after) t_now n m (time ∙ there.at) (subst C (sym (cycle_of (at_cycle here after) after)) (broken t_now there))))

-- the first cycle that was told, and those in which nothing happened
module _ (kind : Pipeline) (p : Params) (before after : Sight) (to : ℕ) (t : Tracing) (s m : Stand) where
  abbrev pub f : Facts
  f = cycle_facts before after

  abbrev pub next : Tracing
  next = tracing_after kind p f (lines_in kind p f t) t

  abbrev pub from : ℕ
  from = before.cycle + 1

  pub look_put : {E : Type 0} (n : ℕ) (e : Stand) (r : Result (Unit {0}) E) → s.at ≡ t.at → HasTold before.cycle (lines_in kind p (cycle_facts before after) t) s m → n ≡ before.cycle + 1 →
      PutsText (joined (lines_later kind p (idle_between n (told_to n to after.cycle) after) (tracing_after kind p (cycle_facts before after) (lines_in kind p (cycle_facts before after) t) t))) m e r →
      PutsText (joined (lines_later kind p (facts_to to before after) t)) s e r
  look_put {E = E} n e r at told is rest =
      let C : ℕ → Type 0 = λ k. HasTold k (lines_in kind p f t) s m in
      let P : ℕ → Type 0 = λ k. PutsText {E = E} (joined (lines_later kind p (idle_between k (told_to k to after.cycle) after) next)) m e r in
      by r (one_later kind p f t s m at (subst C (sym (cycle_of before after)) told)) (subst P is rest)
    where
      by : (x : Result (Unit {0}) E) → HasPut (joined (lines_later kind p (f ∷ []) t)) s m → PutsText (joined (lines_later kind p (idle_between from (told_to from to after.cycle) after) next)) m e x →
          PutsText (joined (lines_later kind p (facts_to to before after) t)) s e x
      by (Ok done) first second = later_put kind p (f ∷ []) (idle_between from (told_to from to after.cycle) after) t s m e first second
      by (Err fault) first second = later_broken kind p (f ∷ []) (idle_between from (told_to from to after.cycle) after) t s m e first second

  pub look_broken : s.at ≡ t.at → HasBroken (joined (dated s.at before.cycle (lines_in kind p (cycle_facts before after) t))) s m → HasBroken (joined (lines_later kind p (facts_to to before after) t)) s m
  look_broken at broken =
      let C : ℕ → Type 0 = λ k. HasBroken (joined (dated s.at k (lines_in kind p f t))) s m in
      one_broken kind p f (idle_between from (told_to from to after.cycle) after) t s m at (subst C (sym (cycle_of before after)) broken)

pub look_stands : {E : Type 0} (kind : Pipeline) (p : Params) (before after : Sight) (to n : ℕ) (t : Tracing) (new : TracingInCode) (r : Result (Unit {0}) E) → n ≡ before.cycle + 1 →
    OnOk r (TracesAt kind p (at_cycle (told_to n to after.cycle) after)
    (tracing_later kind p (idle_between n (told_to n to after.cycle) after) (tracing_after kind p (cycle_facts before after) (lines_in kind p (cycle_facts before after) t) t)) new) →
    OnOk r (TracesAt kind p (at_cycle (told_to (before.cycle + 1) to after.cycle) after) (tracing_later kind p (facts_to to before after) t) new)
look_stands kind p before after to n t new r is given =
    let P : ℕ → Type 0 = λ k. OnOk r (TracesAt kind p (at_cycle (told_to k to after.cycle) after)
    (tracing_later kind p (idle_between k (told_to k to after.cycle) after) (tracing_after kind p (cycle_facts before after) (lines_in kind p (cycle_facts before after) t) t)) new) in
    subst P is given

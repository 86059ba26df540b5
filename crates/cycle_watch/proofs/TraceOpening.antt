-- The instructions that are under way as a trace begins.
use Rattle.std.proofs.Common.{◌≡◌, ◌∙◌, ℕ, ◌+◌, ◌≤◌, List, [], ◌∷◌, ◌++◌, length, map, refl, ap, sym, subst, arith}
use Rattle.std.specs.Prelude.{OnOk, Result, Ok, Err}
use Rattle.mono_model.specs.declared.params.Params.{Params}
use Rattle.mono_model.specs.Machine.{Counts}
use Rattle.mono_model.specs.Report.{Text}
use Rattle.insight_model.specs.declared.pipeline.Pipeline.{Pipeline}
use Rattle.insight_model.specs.Sight.{Shown, Sight}
use Rattle.insight_model.specs.Facts.{departed}
use Rattle.insight_model.specs.Trace.{appended_marks, newest_time, opened}
use Rattle.cycle_watch.specs.declared.last.LastSight.{LastSight}
use Rattle.cycle_watch.specs.declared.trace.Tracing.{Tracing as TracingInCode}
use Rattle.cycle_watch.specs.declared.trace_mark.TraceMark.{TraceMark}
use Rattle.cycle_watch.specs.Facts.{Keeps, at_cycle, window_in}
use Rattle.cycle_watch.specs.Known.{Watches}
use Rattle.cycle_watch.specs.Traced.{HasIntroduced, TracesAt, dest_shown, marks_in}
use Rattle.cycle_watch.specs.Writing.{IsReady, Stand, Tells}

-- as many have left, whatever is said of what was seen last
pub same_departed : (s r : Sight) (last : LastSight) → Keeps s last → Keeps r last → departed r ≡ departed s
same_departed s r last one two =
    let counts = sym two.noted.counts ∙ one.noted.counts in
    λ i. (sym two.noted.retired ∙ one.noted.retired) i + (ap (λ (c : Counts). c.exceptions) counts) i

pub keeps_at : (s : Sight) (last : LastSight) (cycle : ℕ) → Keeps s last → Keeps (at_cycle cycle s) (record last { cycle = cycle })
keeps_at s last cycle keeps = record {
  cycle = refl;
  noted = record { retired = keeps.noted.retired; counts = keeps.noted.counts; resume = keeps.noted.resume; missing = keeps.noted.missing; waiting = keeps.noted.waiting };
  window = keeps.window;
  room = record { marks = keeps.room.marks; loads = keeps.room.loads };
}

newest_same : (at : ℕ) (lines : List Text) → newest_time at at lines ≡ at
newest_same at [] = refl
newest_same at (x ∷ xs) = refl

pub opened_at : {E : Type 0} (cycle : ℕ) (lines : List Text) (s e : Stand) (r : Result (Unit {0}) E) → s.at ≡ cycle → Tells cycle lines s e r → OnOk r (e.at ≡ cycle)
opened_at cycle lines s e (Ok done) at told = told.at ∙ ap (λ (n : ℕ). newest_time n cycle lines) at ∙ newest_same cycle lines
opened_at cycle lines s e (Err fault) at told = tt

pub opened_traces : (kind : Pipeline) (p : Params) (s : Sight) (before : ℕ) (mid new : TracingInCode) → Watches kind p mid.last → Keeps s mid.last → mid.told.marks.items ≡ [] → mid.told.marks.capacity ≡ 256 → mid.introduced ≡ 0 →
    new.last ≡ mid.last → HasIntroduced mid before (window_in mid.last.marks.items) new → new.text.at ≡ before → IsReady before new.text → before ≤ s.cycle → length s.window ≤ 256 →
    TracesAt kind p s (opened kind p before s.window) new
opened_traces kind p s before mid new watches keeps none room zero same has at ready order few =
    let L : LastSight → Type 0 = λ l. Watches kind p l in
    let K : LastSight → Type 0 = λ l. Keeps s l in
    let count : new.introduced ≡ length s.window = omega (arith, has.introduced, zero, ap (length {A = Shown}) keeps.window) in
    record {
      watches = subst L (sym same) watches;
      keeps = subst K (sym same) keeps;
      marks =
          has.marks ∙ (λ i. marks_in (none i) ++ appended_marks (watches.pipeline i) (watches.params i) before (zero i) (keeps.window i));
      writes = has.writes ∙ (λ i. map (λ (m : TraceMark). m.writes) (none i) ++ map dest_shown (keeps.window i));
      room = has.room ∙ room;
      introduced = count;
      few = omega (arith, count, few);
      at = at;
      ready = record { room = ready.room; few = ready.few; order = omega (arith, ready.order, order) };
    }

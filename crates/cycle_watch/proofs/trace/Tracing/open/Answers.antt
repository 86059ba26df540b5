use Rattle.std.proofs.Common.{◌≡◌, ◌++◌, ◌-◌, ℕ, ap, subst, arith}
use Rattle.mono_model.specs.Report.{joined}
use Rattle.insight_model.specs.Facts.{departed}
use Rattle.insight_model.specs.Trace.{head_lines, opened, opening_lines}
use Rattle.cycle_watch.specs.declared.last.LastSight.{LastSight}
use Rattle.cycle_watch.specs.declared.trace.Tracing.{Tracing}
use Rattle.cycle_watch.specs.Facts.{at_cycle, window_in}
use Rattle.cycle_watch.specs.Traced.{HasIntroduced, TracesAt}
use Rattle.cycle_watch.proofs.TraceCycle.{on_ok_both}
use Rattle.cycle_watch.proofs.TraceOpening.{keeps_at, opened_at, opened_traces}
use Rattle.cycle_watch.proofs.Writing.{first_lines_broken, first_put, puts_as, puts_err}
use Rattle.cycle_watch.proofs.trace.Tracing.open.Goals as goal

pub introduce_all-requires : goal.introduce_all-requires
introduce_all-requires g c =
    let s = g.S.Watched.sight c.args.side.now in
    record {
      ready = c.begin.ensures.ready;
      none = c.requires.fresh.marks;
      room = c.requires.fresh.room;
      introduced = c.requires.fresh.introduced;
      seen = record { sight = at_cycle c.args.cycle s; keeps = keeps_at s c.look.new.self c.args.cycle c.look.ensures.keeps; small = c.requires.small; within = c.requires.within };
    }

pub returns-in_err-begin-clause-written : goal.returns-in_err-begin-clause-written
returns-in_err-begin-clause-written g c =
    let s = g.S.Watched.sight c.args.side.now in
    let old = c.args.self.now.last in
    let before = c.saturating_sub-before.result in
    let opening = opening_lines old.pipeline old.params before 0 (departed s) s.window in
    puts_as (joined (head_lines before ++ opening)) _ _ _ c.from_residual.result
    (ap (λ (n : ℕ). joined (head_lines n ++ opening_lines old.pipeline old.params n 0 (departed s) s.window)) c.saturating_sub-before.ensures)
    (puts_err _ (joined (head_lines before ++ opening)) _ _ c.from_residual.result c.from_residual.ensures.1 (first_lines_broken (head_lines before) opening _ _ c.in_err-begin.ensures.put))

pub returns-clause-written : goal.returns-clause-written
returns-clause-written g c =
    let s = at_cycle c.args.cycle (g.S.Watched.sight c.args.side.now) in
    let last : LastSight = record c.look.new.self { cycle = c.args.cycle } in
    let keeps = keeps_at (g.S.Watched.sight c.args.side.now) c.look.new.self c.args.cycle c.look.ensures.keeps in
    let before = c.saturating_sub-before.result in
    let opening = opening_lines last.pipeline last.params before 0 (departed s) s.window in
    let is = c.saturating_sub-before.ensures in
    puts_as (joined (head_lines before ++ opening)) _ _ _ c.introduce_all.result
    (λ i. joined (head_lines (is i) ++ opening_lines (c.look.ensures.pipeline i) (c.look.ensures.params i) (is i) 0 (departed s) s.window))
    (first_put before (head_lines before) opening _ _ _ c.introduce_all.result c.in_ok-begin.ensures.put c.in_ok-begin.ensures.at (c.introduce_all.ensures.told s keeps))

pub returns-clause-stands : goal.returns-clause-stands
returns-clause-stands g c =
    let s = at_cycle c.args.cycle (g.S.Watched.sight c.args.side.now) in
    let old = c.args.self.now.last in
    let last : LastSight = record c.look.new.self { cycle = c.args.cycle } in
    let keeps = keeps_at (g.S.Watched.sight c.args.side.now) c.look.new.self c.args.cycle c.look.ensures.keeps in
    let before = c.saturating_sub-before.result in
    let is = c.saturating_sub-before.ensures in
    let mid : Tracing = record c.args.self.now { last = last; text = c.begin.new.self } in
    let new = c.introduce_all.new.self in
    let T : ℕ → Type 0 = λ n. TracesAt old.pipeline old.params s (opened old.pipeline old.params n s.window) new in
    on_ok_both c.introduce_all.result (HasIntroduced mid before (window_in last.marks.items) new) (new.text.at ≡ before) (T (c.args.cycle - 1))
    (λ has at.
    subst T is
    (opened_traces old.pipeline old.params s before mid new (record { pipeline = c.look.ensures.pipeline; params = c.look.ensures.params }) keeps c.requires.fresh.marks c.requires.fresh.room
    c.requires.fresh.introduced c.introduce_all.ensures.last has at c.introduce_all.ensures.ready (omega (arith, is)) c.requires.within))
    c.introduce_all.ensures.introduced
    (opened_at before (opening_lines last.pipeline last.params before 0 (departed s) s.window) _ _ c.introduce_all.result c.in_ok-begin.ensures.at (c.introduce_all.ensures.told s keeps))

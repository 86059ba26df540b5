use Rattle.std.proofs.Common.{ℕ, sym, subst, arith}
use Rattle.std.proofs.lemmas.Result.{err_from_is_err_and}
use Rattle.insight_model.specs.Facts.{facts as cycle_facts}
use Rattle.insight_model.specs.Trace.{lines_in, tracing_after}
use Rattle.cycle_watch.specs.Facts.{at_cycle}
use Rattle.cycle_watch.specs.Traced.{TracesAt}
use Rattle.cycle_watch.proofs.TraceLater.{look_broken, look_put, look_stands}
use Rattle.cycle_watch.proofs.trace.Tracing.look.Goals as goal

pub facts-facts-requires : goal.facts-facts-requires
facts-facts-requires g c =
    let st = c.requires.standing in
    record { followed = record { before = st.before; keeps = st.traces.keeps; follows = st.went.follows } }

pub tell_cycle-requires : goal.tell_cycle-requires
tell_cycle-requires g c =
    let st = c.requires.standing in
    record {
      may = record {
        pipeline = st.pipeline;
        params = st.params;
        before = st.before;
        so_far = st.so_far;
        traces = st.traces;
        follows = st.went.follows;
        told = c.facts-facts.ensures.told st.before st.traces.keeps st.went.follows;
        small = omega (arith, st.went.small, st.went.cycle);
      };
      few = omega (arith, c.facts-facts.ensures.few, st.traces.keeps.room.marks);
    }

pub pass_idle-requires : goal.pass_idle-requires
pass_idle-requires g c =
    let st = c.requires.standing in
    let after = g.S.Watched.sight c.args.side.now in
    let told = c.facts-facts.ensures.told st.before st.traces.keeps st.went.follows in
    let there = c.in_ok-tell_cycle.ensures.stands st.pipeline st.params st.before st.so_far st.traces st.went.follows told in
    let T : ℕ → Type 0 = λ n. TracesAt st.pipeline st.params (at_cycle n after) (tracing_after st.pipeline st.params (cycle_facts st.before after) (lines_in st.pipeline st.params (cycle_facts st.before after) st.so_far) st.so_far) c.tell_cycle.new.self in
    record {
      standing = λ below. record {
        pipeline = st.pipeline;
        params = st.params;
        so_far = tracing_after st.pipeline st.params (cycle_facts st.before after) (lines_in st.pipeline st.params (cycle_facts st.before after) st.so_far) st.so_far;
        traces = subst T (sym there.keeps.cycle) there;
        small = st.went.small;
        goes = st.went.stopped (omega (arith, below, there.keeps.cycle, st.went.cycle));
        within = st.went.follows.within;
        few = st.went.follows.small;
      };
    }

pub returns-clause-written : goal.returns-clause-written
returns-clause-written g c = λ kind p before t more traces went.
    let after = g.S.Watched.sight c.args.side.now in
    let told = c.facts-facts.ensures.told before traces.keeps went.follows in
    let there = c.in_ok-tell_cycle.ensures.stands kind p before t traces went.follows told in
    let T : ℕ → Type 0 = λ n. TracesAt kind p (at_cycle n after) (tracing_after kind p (cycle_facts before after) (lines_in kind p (cycle_facts before after) t) t) c.tell_cycle.new.self in
    look_put kind p before after c.args.to t _ _ c.tell_cycle.new.self.last.cycle _ c.pass_idle.result traces.at (c.in_ok-tell_cycle.ensures.told kind p before t traces went.follows told) there.keeps.cycle
    (c.pass_idle.ensures.written kind p (tracing_after kind p (cycle_facts before after) (lines_in kind p (cycle_facts before after) t) t) (subst T (sym there.keeps.cycle) there))

pub returns-clause-stands : goal.returns-clause-stands
returns-clause-stands g c = λ kind p before t more traces went.
    let after = g.S.Watched.sight c.args.side.now in
    let told = c.facts-facts.ensures.told before traces.keeps went.follows in
    let there = c.in_ok-tell_cycle.ensures.stands kind p before t traces went.follows told in
    let T : ℕ → Type 0 = λ n. TracesAt kind p (at_cycle n after) (tracing_after kind p (cycle_facts before after) (lines_in kind p (cycle_facts before after) t) t) c.tell_cycle.new.self in
    look_stands kind p before after c.args.to c.tell_cycle.new.self.last.cycle t c.pass_idle.new.self c.pass_idle.result there.keeps.cycle
    (c.pass_idle.ensures.stands kind p (tracing_after kind p (cycle_facts before after) (lines_in kind p (cycle_facts before after) t) t) (subst T (sym there.keeps.cycle) there))

pub returns-in_err-tell_cycle-clause-written : goal.returns-in_err-tell_cycle-clause-written
returns-in_err-tell_cycle-clause-written g c =
    let left = err_from_is_err_and c.from_residual.result c.from_residual.ensures.1 in
    let after = g.S.Watched.sight c.args.side.now in
    rw (left.1) (λ kind p before t more traces went.
    look_broken kind p before after c.args.to t _ _ traces.at
    (c.in_err-tell_cycle.ensures.told kind p before t traces went.follows (c.facts-facts.ensures.told before traces.keeps went.follows)))

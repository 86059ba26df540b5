use Rattle.std.proofs.Common.{◌≡◌, ◌+◌, ◌<◌, refl, arith}
use Rattle.std.proofs.lemmas.Result.{err_from_is_err_and}
use Rattle.cycle_watch.specs.Facts.{at_cycle}
use Rattle.cycle_watch.specs.Writing.{stand}
use Rattle.cycle_watch.proofs.Between.{follows_later, told_later}
use Rattle.cycle_watch.proofs.TraceLater.{idle_all_put, idle_all_stands, idle_between_still, idle_broken, idle_reached, idle_start, idle_step}
use Rattle.cycle_watch.proofs.trace.Tracing.pass_idle.Goals as goal

pub loop-self-init : goal.loop-self-init
loop-self-init g c = idle_start c.args.self.now (stand c.args.self.now.text (g.K.Sink.faults c.args.sink.now) (g.K.Sink.written c.args.sink.now)) (g.S.Watched.sight c.args.side.now) _

pub tell_cycle-requires : goal.tell_cycle-requires
tell_cycle-requires g c =
    let after = g.S.Watched.sight c.args.side.now in
    let now = c.loop-self.self in
    let below : now.last.cycle < after.cycle = omega (arith, c.min-until.ensures, c.cycle.ensures.cycle) in
    let st = idle_between_still _ _ _ _ after _ c.loop-self.invariant c.requires.standing below in
    let here = at_cycle now.last.cycle after in
    let told = told_later here after (now.last.cycle + 1) c.idle_facts-facts.result (c.idle_facts-facts.ensures.told here st.traces.keeps (omega (arith, st.few)) st.goes) in
    record {
      may = record {
        pipeline = st.pipeline;
        params = st.params;
        before = here;
        so_far = st.so_far;
        traces = st.traces;
        follows = follows_later now.last.cycle after st.few st.within;
        told = told;
        small = omega (arith, below, st.small);
      };
      few = omega (arith, told.all, st.within);
    }

pub loop-self-preserved : goal.loop-self-preserved
loop-self-preserved g c =
    let after = g.S.Watched.sight c.args.side.now in
    let now = c.loop-self.self in
    let below : now.last.cycle < after.cycle = omega (arith, c.min-until.ensures, c.cycle.ensures.cycle) in
    let st = idle_between_still _ _ _ _ after _ c.loop-self.invariant c.requires.standing below in
    let here = at_cycle now.last.cycle after in
    let follows = follows_later now.last.cycle after st.few st.within in
    let told = told_later here after (now.last.cycle + 1) c.idle_facts-facts.result (c.idle_facts-facts.ensures.told here st.traces.keeps (omega (arith, st.few)) st.goes) in
    let later = c.in_ok-tell_cycle.ensures.stands st.pipeline st.params here st.so_far st.traces follows told in
    idle_step c.args.self.now now _ _ after _ c.loop-self.invariant c.tell_cycle.new.self _ (omega arith) later.keeps.cycle refl
    (λ kind p t traces. c.in_ok-tell_cycle.ensures.told kind p here t traces follows told)
    (λ kind p t traces. c.in_ok-tell_cycle.ensures.stands kind p here t traces follows told)

pub loop-self-smaller : goal.loop-self-smaller
loop-self-smaller g c =
    let after = g.S.Watched.sight c.args.side.now in
    let now = c.loop-self.self in
    let below : now.last.cycle < after.cycle = omega (arith, c.min-until.ensures, c.cycle.ensures.cycle) in
    let st = idle_between_still _ _ _ _ after _ c.loop-self.invariant c.requires.standing below in
    let here = at_cycle now.last.cycle after in
    let follows = follows_later now.last.cycle after st.few st.within in
    let told = told_later here after (now.last.cycle + 1) c.idle_facts-facts.result (c.idle_facts-facts.ensures.told here st.traces.keeps (omega (arith, st.few)) st.goes) in
    let later = c.in_ok-tell_cycle.ensures.stands st.pipeline st.params here st.so_far st.traces follows told in
    omega (arith, later.keeps.cycle)

pub returns : goal.returns
returns g c =
    let after = g.S.Watched.sight c.args.side.now in
    let now = c.loop-self.self in
    let ended : now.last.cycle ≡ _ = idle_reached c.args.self.now now _ _ after _ c.loop-self.invariant _ (omega (arith, c.min-until.ensures, c.cycle.ensures.cycle)) (omega arith) in
    record {
      written = idle_all_put c.args.self.now now _ _ after _ c.loop-self.invariant _ ended;
      stands = idle_all_stands c.args.self.now now _ _ after _ c.loop-self.invariant _ ended;
    }

pub returns-in_err-tell_cycle-clause-written : goal.returns-in_err-tell_cycle-clause-written
returns-in_err-tell_cycle-clause-written g c =
    let left = err_from_is_err_and c.from_residual.result c.from_residual.ensures.1 in
    let after = g.S.Watched.sight c.args.side.now in
    let now = c.loop-self.self in
    let below : now.last.cycle < after.cycle = omega (arith, c.min-until.ensures, c.cycle.ensures.cycle) in
    let st = idle_between_still _ _ _ _ after _ c.loop-self.invariant c.requires.standing below in
    let here = at_cycle now.last.cycle after in
    let follows = follows_later now.last.cycle after st.few st.within in
    let told = told_later here after (now.last.cycle + 1) c.idle_facts-facts.result (c.idle_facts-facts.ensures.told here st.traces.keeps (omega (arith, st.few)) st.goes) in
    rw (left.1) (λ kind p t traces.
    idle_broken c.args.self.now now _ _ after _ c.loop-self.invariant _ _ (omega (arith, c.min-until.ensures, c.cycle.ensures.cycle)) refl kind p t traces
    (λ u there. c.in_err-tell_cycle.ensures.told kind p here u there follows told))

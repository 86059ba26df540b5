use Rattle.std.proofs.Common.{◌≡◌, ◌∙◌, ◌+◌, ◌-◌, ◌<◌, ◌++◌, ℕ, ap, sym, subst, arith}
use Rattle.insight_model.specs.declared.pipeline.Pipeline.TheVariants.{Window}
use Rattle.insight_model.specs.Cause.{Charge}
use Rattle.insight_model.specs.Cycles.{cycles_from}
use Rattle.report_text.specs.declared.stack.StackCounts.{StackCounts}
use Rattle.cycle_watch.specs.declared.heads.Heads.{Heads}
use Rattle.cycle_watch.specs.Known.{StandsAt}
use Rattle.cycle_watch.specs.Passing.{idle_between, known_later}
use Rattle.cycle_watch.specs.Counted.{IsStackOf, counted}
use Rattle.cycle_watch.specs.Facts.{at_cycle}
use Rattle.cycle_watch.proofs.Between.{follows_later, stacked_alike, stands_later, told_later}
use Rattle.cycle_watch.proofs.Stacked.{has_room, waits_within}
use Rattle.cycle_watch.proofs.stack.Stacking.count_alike.Goals as goal

pub head-head-requires : goal.head-head-requires
head-head-requires g c = record { kept = omega (arith, c.requires.told.kept) }

pub fetch_end-end-requires : goal.fetch_end-end-requires
fetch_end-end-requires g c = record { appended = omega (arith, c.requires.told.appended) }

pub add-requires : goal.add-requires
add-requires g c =
    let st = c.requires.standing in
    let after = g.S.Watched.sight c.args.side.now in
    let waits = waits_within after.window in
    record {
      room = has_room Window st.between.params st.run c.args.self.now.counts st.counted (omega (arith, st.short, c.requires.before, st.between.small));
      left = omega (arith, c.requires.told.left);
      few = omega (arith, c.requires.told.all, st.between.within);
      waiting = omega (arith, st.between.stands.keeps.noted.waiting, waits, st.between.within);
      short = omega (arith, c.pass_alike-cycles.ensures.within, st.between.small);
    }

pub returns-clause-further : goal.returns-clause-further
returns-clause-further g c = omega (arith, ap (λ (h : Heads). h.last.cycle) c.pass_alike-cycles.ensures.passed, c.pass_alike-cycles.ensures.some)

pub returns-clause-within : goal.returns-clause-within
returns-clause-within g c = omega (arith, ap (λ (h : Heads). h.last.cycle) c.pass_alike-cycles.ensures.passed, c.pass_alike-cycles.ensures.within)

pub returns-clause-stands : goal.returns-clause-stands
returns-clause-stands g c = λ p known stands.
    let after = g.S.Watched.sight c.args.side.now in
    let heads = c.args.self.now.heads in
    let new = c.pass_alike-cycles.new.self in
    let from = heads.last.cycle in
    let at = ap (λ (h : Heads). h.last.cycle) c.pass_alike-cycles.ensures.passed in
    let N : ℕ → Type 0 = λ n. StandsAt Window p (at_cycle n after) (known_later Window p known (idle_between from n after)) new in
    subst N (sym at)
    (stands_later p from after known heads stands (from + c.pass_alike-cycles.result) new (omega arith) c.requires.standing.between.goes c.pass_alike-cycles.ensures.passed)

pub returns-clause-counted : goal.returns-clause-counted
returns-clause-counted g c = λ p known run stands is.
    let st = c.requires.standing.between in
    let after = g.S.Watched.sight c.args.side.now in
    let heads = c.args.self.now.heads in
    let f = c.args.facts.now in
    let from = heads.last.cycle in
    let cycles = c.pass_alike-cycles.result in
    let here = at_cycle from after in
    let follows = follows_later from after st.few st.within in
    let told = told_later here after (from + 1) f c.requires.told in
    let at = ap (λ (h : Heads). h.last.cycle) c.pass_alike-cycles.ensures.passed in
    let many : from + cycles - from ≡ cycles = omega arith in
    let order : from < from + cycles = omega (arith, c.pass_alike-cycles.ensures.some) in
    let N : ℕ → Type 0 = λ n. IsStackOf Window p (run ++ cycles_from Window p known (idle_between from n after)) c.add.new.counts in
    let C : StackCounts → Type 0 = λ counts. IsStackOf Window p (run ++ cycles_from Window p known (idle_between from (from + cycles) after)) counts in
    let all =
    stacked_alike p from (from + cycles) after known heads f c.head-head.result.cause c.fetch_end-end.result stands order st.started st.goes st.within c.pass_alike-cycles.ensures.turns c.requires.told
    (ap (λ (h : Charge). h.cause) (c.head-head.ensures.head Window p here known stands follows told)) (c.fetch_end-end.ensures.end Window p here known stands follows told) run c.args.self.now.counts is in
    subst N (sym at)
    (subst C (ap (λ (n : ℕ). counted f c.head-head.result.cause c.fetch_end-end.result heads.last.waiting n c.args.self.now.counts) many ∙ sym c.add.ensures.counted) all)

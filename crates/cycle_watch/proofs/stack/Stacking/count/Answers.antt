use Rattle.std.proofs.Common.{[], ◌∷◌, ◌++◌, ap, subst, sym, arith}
use Rattle.insight_model.specs.Cause.{Charge}
use Rattle.insight_model.specs.Facts.{facts as cycle_facts}
use Rattle.insight_model.specs.Cycles.{cycles_from}
use Rattle.report_text.specs.declared.stack.StackCounts.{StackCounts}
use Rattle.cycle_watch.specs.Counted.{IsStackOf}
use Rattle.cycle_watch.proofs.Looking.{stacked_one}
use Rattle.cycle_watch.proofs.Stacked.{waits_within}
use Rattle.cycle_watch.proofs.stack.Stacking.count.Goals as goal

pub head-head-requires : goal.head-head-requires
head-head-requires g c = record { kept = omega (arith, c.requires.standing.told.kept) }

pub fetch_end-end-requires : goal.fetch_end-end-requires
fetch_end-end-requires g c = record { appended = omega (arith, c.requires.standing.told.appended, c.requires.standing.follows.appended) }

pub add-requires : goal.add-requires
add-requires g c =
    let may = c.requires.standing in
    record {
      room = c.requires.room;
      left = c.requires.left;
      few = c.requires.few;
      waiting = omega (arith, may.stands.keeps.noted.waiting, waits_within may.before.window, may.told.all, c.requires.few);
      short = omega arith;
    }

pub returns-clause-counted : goal.returns-clause-counted
returns-clause-counted g c = λ kind p before known run stands follows told is.
    let after = g.S.Watched.sight c.args.side.now in
    let heads = c.args.self.now.heads in
    let charged = c.head-head.ensures.head kind p before known stands follows told in
    let why = c.fetch_end-end.ensures.end kind p before known stands follows told in
    let C : StackCounts → Type 0 = λ counts. IsStackOf kind p (run ++ cycles_from kind p known (cycle_facts before after ∷ [])) counts in
    subst C (sym c.add.ensures.counted)
    (stacked_one kind p before after known heads c.args.facts.now c.head-head.result.cause c.fetch_end-end.result stands follows told c.requires.left c.requires.few
    (ap (λ (h : Charge). h.cause) charged) why run c.args.self.now.counts is)

use Rattle.std.proofs.Common.{◌≡◌, nat_lt, get_or, arith, sym, inl, inr}
use Rattle.std.proofs.lemmas.Bool.{cases_lt}
use Rattle.std.proofs.lemmas.List.{get_or_read_under}
use Rattle.std.proofs.lemmas.List.Sums.{prefix_len_is}
use Rattle.undo_journal.specs.declared.past.Past.{Past}
use Rattle.undo_journal.proofs.Ring.{step_at, length_log, blank}
use Rattle.undo_journal.proofs.journal.Journal.count_below.Goals as goal

-- the step that is looked at is the first one that isn't below
pub returns-then-index-n-clause-count : goal.returns-then-index-n-clause-count
returns-then-index-n-clause-count c =
    let now = c.self.inside in
    let steps = c.args.self.now.steps in
    let p = c.index.result.now in
    let below = c.loop-below.below in
    let long = length_log now.places.items now.mask now.room now.first now.count c.self.invariant c.args.self.now c.self.view_is in
    let read = step_at now.places.items now.mask now.room now.first now.count c.self.invariant c.args.self.now c.self.view_is below c.behind-place.result p c.loop-below-test.true c.behind-place.ensures.place c.index.ensures in
    sym (prefix_len_is (λ (q : Past). nat_lt q.number c.args.n) steps below p (omega (arith, long, c.loop-below-test.true)) (λ k lt. grind (arith, c.loop-below.invariant k p lt)) (λ lt. grind (arith, read, c.if-index-n.true)))

pub loop-below-preserved : goal.loop-below-preserved
loop-below-preserved c k d lt =
    let now = c.self.inside in
    let steps = c.args.self.now.steps in
    let p = c.index.result.now in
    let below = c.loop-below.below in
    let long = length_log now.places.items now.mask now.room now.first now.count c.self.invariant c.args.self.now c.self.view_is in
    let read = step_at now.places.items now.mask now.room now.first now.count c.self.invariant c.args.self.now c.self.view_is below c.behind-place.result p c.loop-below-test.true c.behind-place.ensures.place c.index.ensures in
    elim (cases_lt k below) [
      | inl earlier ↦ c.loop-below.invariant k d earlier
      | inr last ↦
          let at : k ≡ below = omega arith in
          let same : p ≡ get_or steps below d = get_or_read_under steps below now.count p d (sym read) c.loop-below-test.true (sym long) in
          rw (at, ← same) c.if-index-n.false
    ]

pub returns-clause-count : goal.returns-clause-count
returns-clause-count c =
    let now = c.self.inside in
    let steps = c.args.self.now.steps in
    let long = length_log now.places.items now.mask now.room now.first now.count c.self.invariant c.args.self.now c.self.view_is in
    sym (prefix_len_is (λ (q : Past). nat_lt q.number c.args.n) steps now.count blank (omega (arith, long)) (λ k lt. grind (arith, c.loop-below.invariant k blank (omega (arith, lt, c.loop-below-test.false)))) (λ lt. absurd (omega (arith, lt, long))))

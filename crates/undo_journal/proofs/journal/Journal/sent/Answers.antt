use Rattle.std.proofs.Common.{List, length, ap, refl, ◌∙◌, arith}
use Rattle.std.specs.Prelude.{filter}
use Rattle.std.proofs.lemmas.List.{take_all}
use Rattle.undo_journal.specs.declared.past.Past.{Past}
use Rattle.undo_journal.proofs.Ring.{step_at, length_log}
use Rattle.undo_journal.proofs.Steps.{sent_more, sent_within}
use Rattle.undo_journal.proofs.journal.Journal.sent.Goals as goal

pub loop-passed-init : goal.loop-passed-init
loop-passed-init c = (refl, omega arith)

pub overflow_add-sent : goal.overflow_add-sent
overflow_add-sent c = record { fits = omega (arith, c.from-sent.ensures, sent_within c.index.result.now.out, c.loop-passed.invariant.1, c.loop-passed-test.true) }

pub loop-passed-preserved : goal.loop-passed-preserved
loop-passed-preserved c =
    let now = c.self.inside in
    let steps = c.args.self.now.steps in
    let p = c.index.result.now in
    let passed = c.loop-passed.passed in
    let long = length_log now.places.items now.mask now.room now.first now.count c.self.invariant c.args.self.now c.self.view_is in
    let read = step_at now.places.items now.mask now.room now.first now.count c.self.invariant c.args.self.now c.self.view_is passed c.behind-place.result p c.loop-passed-test.true c.behind-place.ensures.place c.index.ensures in
    let more = sent_more steps passed p (omega (arith, long, c.loop-passed-test.true)) read in
    (omega (arith, more, c.from-sent.ensures, c.loop-passed.invariant.0), omega (arith, c.from-sent.ensures, sent_within p.out, c.loop-passed.invariant.1))

pub returns : goal.returns
returns c =
    let now = c.self.inside in
    let steps = c.args.self.now.steps in
    let long = length_log now.places.items now.mask now.room now.first now.count c.self.invariant c.args.self.now c.self.view_is in
    record {
      bytes = c.loop-passed.invariant.0
          ∙ ap (λ (l : List Past). length (filter (λ (q : Past). q.out) l)) (take_all c.loop-passed.passed steps (omega (arith, long, c.loop-passed-test.false)));
    }

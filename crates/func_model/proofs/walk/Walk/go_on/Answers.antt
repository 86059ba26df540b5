use Rattle.std.proofs.Common.{◌∙◌, arith}
use Rattle.func_model.proofs.Going.{onward_start, onward_standing, onward_more}
use Rattle.func_model.proofs.walk.Walk.go_on.Goals as goal

pub loop-self-init : goal.loop-self-init
loop-self-init g c = onward_start c.args.n c.args.self.now

pub step-requires-clause-standing : goal.step-requires-clause-standing
step-requires-clause-standing g c = onward_standing c.args.n c.args.self.now c.loop-self.self (c.requires.standing (omega (arith, c.loop-self.invariant.from, c.loop-self-test.true))) c.loop-self.invariant

pub step-requires-clause-running : goal.step-requires-clause-running
step-requires-clause-running g c = c.loop-self.invariant.others.running ∙ c.requires.running (omega (arith, c.loop-self.invariant.from, c.loop-self-test.true))

pub step-requires-clause-room : goal.step-requires-clause-room
step-requires-clause-room g c = omega (arith, c.loop-self.invariant.others.committed, c.loop-self.invariant.others.room, c.requires.room, c.loop-self-test.true)

pub loop-self-preserved : goal.loop-self-preserved
loop-self-preserved g c =
    onward_more c.args.n c.args.self.now c.loop-self.self c.step.new.self c.loop-self.invariant c.loop-self-test.true c.step.ensures.stands c.step.ensures.position c.step.ensures.others

pub returns-clause-stands : goal.returns-clause-stands
returns-clause-stands g c = c.loop-self.invariant.stands

pub returns-clause-position : goal.returns-clause-position
returns-clause-position g c = λ less. omega (arith, c.loop-self.invariant.below less, c.loop-self-test.false)

pub returns-clause-stays : goal.returns-clause-stays
returns-clause-stays g c = c.loop-self.invariant.stays

pub returns-clause-others : goal.returns-clause-others
returns-clause-others g c = c.loop-self.invariant.others

use Rattle.std.proofs.Common.{arith}
use Rattle.func_model.proofs.Going.{backing_start, backing_more, backing_holding}
use Rattle.func_model.proofs.walk.Walk.go_back.Goals as goal

pub loop-self-init : goal.loop-self-init
loop-self-init g c = backing_start c.args.n c.args.self.now

pub step_back-requires-clause-holding : goal.step_back-requires-clause-holding
step_back-requires-clause-holding g c = backing_holding c.args.n c.args.self.now c.loop-self.self c.requires.holding c.loop-self.invariant c.loop-self-test.true

pub step_back-requires-clause-from : goal.step_back-requires-clause-from
step_back-requires-clause-from g c = omega (arith, c.requires.from, c.loop-self.invariant.others.committed)

pub loop-self-preserved : goal.loop-self-preserved
loop-self-preserved g c =
    backing_more c.args.n c.args.self.now c.loop-self.self c.step_back.new.self c.loop-self.invariant c.loop-self-test.true
    c.step_back.ensures.holds c.step_back.ensures.above c.step_back.ensures.less c.step_back.ensures.others

pub returns-clause-holds : goal.returns-clause-holds
returns-clause-holds g c = c.loop-self.invariant.holds

pub returns-clause-position : goal.returns-clause-position
returns-clause-position g c = λ more. omega (arith, c.loop-self.invariant.above more, c.loop-self-test.false)

pub returns-clause-stays : goal.returns-clause-stays
returns-clause-stays g c = c.loop-self.invariant.stays

pub returns-clause-others : goal.returns-clause-others
returns-clause-others g c = c.loop-self.invariant.others

use Rattle.std.proofs.Common.{◌≡◌, ◌+◌, ◌-◌, ℕ, suc, arith, subst, sym}
use Rattle.back_debug.proofs.Sessions.{Going, going_start, going_more, going_ended, going_done}
use Rattle.back_debug.proofs.session.forth.Goals as goal

pub loop-init : goal.loop-init
loop-init g c = λ s h.
    let all : c.args.steps - 0 ≡ c.args.steps = omega arith in
    subst (λ (n : ℕ). Going c.args.debugger.now c.args.debugger.now c.args.steps n s) (sym all) (going_start c.args.debugger.now c.args.steps s h)

pub returns-in-Ended : goal.returns-in-Ended
returns-in-Ended g c = record {
  comes = λ s h.
      let left : ℕ = c.args.steps - c.loop.counter - 1 in
      let some : c.args.steps - c.loop.counter ≡ suc left = omega (arith, c.loop-test.true) in
      let at = subst (λ (n : ℕ). Going c.args.debugger.now c.loop.debugger c.args.steps n s) some (c.loop.invariant s h) in
      going_ended c.args.debugger.now c.loop.debugger c.step.new.self c.args.steps left s c.in-Ended.end at (c.in-Ended.ensures.told s at.stands);
}

pub loop-preserved : goal.loop-preserved
loop-preserved g c = λ s h.
    let left : ℕ = c.args.steps - (c.loop.counter + 1) in
    let some : c.args.steps - c.loop.counter ≡ suc left = omega (arith, c.loop-test.true) in
    let at = subst (λ (n : ℕ). Going c.args.debugger.now c.loop.debugger c.args.steps n s) some (c.loop.invariant s h) in
    going_more c.args.debugger.now c.loop.debugger c.step.new.self c.args.steps left s at (c.in_default.ensures.told s at.stands)

pub returns : goal.returns
returns g c = record {
  comes = λ s h.
      let none : c.args.steps - c.loop.counter ≡ 0 = omega (arith, c.loop-test.false) in
      going_done c.args.debugger.now c.loop.debugger c.args.steps s (subst (λ (n : ℕ). Going c.args.debugger.now c.loop.debugger c.args.steps n s) none (c.loop.invariant s h));
}

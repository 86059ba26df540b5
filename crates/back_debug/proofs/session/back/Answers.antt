use Rattle.std.proofs.Common.{◌≡◌, ◌+◌, ◌-◌, ℕ, suc, arith, subst, sym}
use Rattle.back_debug.proofs.Sessions.{Returning, returning_start, returning_more, returning_oldest, returning_done}
use Rattle.back_debug.proofs.session.back.Goals as goal

pub loop-init : goal.loop-init
loop-init g c = λ s h.
    let all : c.args.steps - 0 ≡ c.args.steps = omega arith in
    subst (λ (n : ℕ). Returning c.args.debugger.now c.args.debugger.now c.args.steps n s) (sym all) (returning_start c.args.debugger.now c.args.steps s h)

pub returns-in-Oldest : goal.returns-in-Oldest
returns-in-Oldest g c = record {
  comes = λ s h.
      let left : ℕ = c.args.steps - c.loop.counter - 1 in
      let some : c.args.steps - c.loop.counter ≡ suc left = omega (arith, c.loop-test.true) in
      let at = subst (λ (n : ℕ). Returning c.args.debugger.now c.loop.debugger c.args.steps n s) some (c.loop.invariant s h) in
      returning_oldest c.args.debugger.now c.loop.debugger c.back.new.self c.args.steps left s at (c.in-Oldest.ensures.stands s at.stands) c.in-Oldest.ensures.moved;
}

pub loop-preserved : goal.loop-preserved
loop-preserved g c = λ s h.
    let left : ℕ = c.args.steps - (c.loop.counter + 1) in
    let some : c.args.steps - c.loop.counter ≡ suc left = omega (arith, c.loop-test.true) in
    let at = subst (λ (n : ℕ). Returning c.args.debugger.now c.loop.debugger c.args.steps n s) some (c.loop.invariant s h) in
    returning_more c.args.debugger.now c.loop.debugger c.back.new.self c.args.steps left s at (c.in_default.ensures.stands s at.stands) c.in_default.ensures.moved

pub returns : goal.returns
returns g c = record {
  comes = λ s h.
      let none : c.args.steps - c.loop.counter ≡ 0 = omega (arith, c.loop-test.false) in
      returning_done c.args.debugger.now c.loop.debugger c.args.steps s (subst (λ (n : ℕ). Returning c.args.debugger.now c.loop.debugger c.args.steps n s) none (c.loop.invariant s h));
}

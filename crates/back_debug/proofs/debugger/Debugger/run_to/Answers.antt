use Rattle.std.proofs.Common.{subst}
use Rattle.func_model.specs.Trail.{IsOnTrail}
use Rattle.back_debug.proofs.Running.{Missing, missing_start, missing_more, reached, ended, fewer, on_trail, still_on}
use Rattle.back_debug.proofs.debugger.Debugger.run_to.Goals as goal

pub loop-end-init : goal.loop-end-init
loop-end-init g c = subst (λ trail. Missing c.args.addr trail c.self.inside.trail) c.self.view_is (missing_start c.args.addr c.self.inside.trail)

pub step-requires : goal.step-requires
step-requires g c = record { standing = still_on c.args.self.now c.loop-end.self-inside.trail c.args.addr (subst (λ trail. IsOnTrail trail) c.self.view_is c.self.invariant) c.loop-end.invariant }

pub invariant_of-self : goal.invariant_of-self
invariant_of-self g c = on_trail c.args.self.now c.loop-end.self-inside.trail c.step.new.self c.args.addr (subst (λ trail. IsOnTrail trail) c.self.view_is c.self.invariant) c.loop-end.invariant c.in-Some.ensures.told

pub returns-in-Some : goal.returns-in-Some
returns-in-Some g c = record { run = λ s h. ended s c.args.addr c.args.self.now c.loop-end.self-inside.trail c.step.new.self c.in-Some.end h c.loop-end.invariant c.in-Some.ensures.told }

pub invariant_of-self-then-pc-addr : goal.invariant_of-self-then-pc-addr
invariant_of-self-then-pc-addr g c = on_trail c.args.self.now c.loop-end.self-inside.trail c.step.new.self c.args.addr (subst (λ trail. IsOnTrail trail) c.self.view_is c.self.invariant) c.loop-end.invariant c.in_default.ensures.told

pub returns-then-pc-addr : goal.returns-then-pc-addr
returns-then-pc-addr g c = record { run = λ s h. reached s c.args.addr c.pc.result c.args.self.now c.loop-end.self-inside.trail c.step.new.self h c.loop-end.invariant c.in_default.ensures.told c.pc.ensures.pc c.if-pc-addr.true }

pub loop-end-smaller : goal.loop-end-smaller
loop-end-smaller g c = fewer c.args.self.now c.loop-end.self-inside.trail c.step.new.self c.args.addr (subst (λ trail. IsOnTrail trail) c.self.view_is c.self.invariant) c.loop-end.invariant c.in_default.ensures.told

pub loop-end-preserved : goal.loop-end-preserved
loop-end-preserved g c = missing_more c.args.addr c.pc.result c.args.self.now c.loop-end.self-inside.trail c.step.new.self c.loop-end.invariant c.in_default.ensures.told c.pc.ensures.pc c.if-pc-addr.false

use Rattle.std.proofs.Common.{◌-◌, Some, ap, sym, subst, arith}
use Rattle.circular_buffer.specs.Buffer.{Buffer}
use Rattle.mono_model.specs.declared.final_state.End.TheVariants as end
use Rattle.func_model.specs.declared.performed.PastStep.{PastStep}
use Rattle.func_model.specs.History.{walk}
use Rattle.func_model.specs.Trail.{TrailStandsFor}
use Rattle.func_model.proofs.Trails.{newest_is, none_left, newest_restorable, some_made, none_made, gone_back, none_back, stays_back, moves_back}
use Rattle.func_model.proofs.trail.Trail.back.Goals as goal

pub returns-in_default-clause-stands : goal.returns-in_default-clause-stands
returns-in_default-clause-stands g c = λ s h.
    none_back s c.args.self.now c.pop_back.new.self h (none_left c.args.self.now.steps.items c.in_default.ensures.value) c.pop_back.ensures.items

pub returns-in_default-clause-moved : goal.returns-in_default-clause-moved
returns-in_default-clause-moved g c =
    stays_back c.args.self.now c.pop_back.new.self (none_made c.args.self.now c.requires.standing (none_left c.args.self.now.steps.items c.in_default.ensures.value))
    (ap (λ (b : Buffer PastStep). b.capacity) c.pop_back.ensures.items)

pub unmake-requires : goal.unmake-requires
unmake-requires g c = record { restorable = newest_restorable c.args.self.now _ c.in-Some.past c.requires.standing (newest_is c.args.self.now.steps.items (Some c.in-Some.past) c.in-Some.ensures.value) }

pub overflow_sub-self : goal.overflow_sub-self
overflow_sub-self g c = omega (arith, some_made c.args.self.now _ c.in-Some.past c.requires.standing (newest_is c.args.self.now.steps.items (Some c.in-Some.past) c.in-Some.ensures.value))

pub returns-clause-stands : goal.returns-clause-stands
returns-clause-stands g c = λ s h.
    subst (λ (b : Buffer PastStep). TrailStandsFor s (record c.args.self.now { contents = c.unmake.new.self; steps = b; at = c.args.self.now.at - 1; end = end.Running })) (sym c.pop_back.ensures.items)
    (gone_back s c.args.self.now _ c.in-Some.past c.unmake.new.self h (newest_is c.args.self.now.steps.items (Some c.in-Some.past) c.in-Some.ensures.value) (c.unmake.ensures.stands s (walk s c.args.self.now.at) h.contents) c.unmake.ensures.room)

pub returns-clause-moved : goal.returns-clause-moved
returns-clause-moved g c =
    moves_back c.args.self.now c.unmake.new.self c.pop_back.new.self (some_made c.args.self.now _ c.in-Some.past c.requires.standing (newest_is c.args.self.now.steps.items (Some c.in-Some.past) c.in-Some.ensures.value))
    (ap (λ (b : Buffer PastStep). b.capacity) c.pop_back.ensures.items)

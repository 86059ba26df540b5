use Rattle.std.proofs.Common.{◌≡◌, true, false, Some, None, ap, sym, ◌∙◌, subst}
use Rattle.reorder_buffer.specs.Window.{Contents}
use Rattle.inorder_side.specs.Timing.{in_execute, InorderPhase}
use Rattle.inorder_model.specs.InorderStandsFor.{InorderStandsFor}
use Rattle.inorder_model.specs.Stages.{executing_as}
use Rattle.inorder_model.proofs.Relations.{held_executing, none_goes, one_goes}
use Rattle.inorder_model.proofs.timing.InorderTimingCore.execute.Goals as goal

pub returns-in_default-clause-kept : goal.returns-in_default-clause-kept
returns-in_default-clause-kept c = λ s l h small.
    let none = held_executing s l.timing c.args.self.now.core c.in_execute.result None h.core (c.in_execute.ensures.executing ∙ ap (λ (f : Contents). in_execute f.slots) c.flight.ensures.flight) c.in_default.is in
    subst (λ (p : InorderPhase). InorderStandsFor s p.inorder c.args.self.now) (sym (none_goes s l none)) (record { core = h.core; memory = h.memory })

pub returns-in_default-clause-orders : goal.returns-in_default-clause-orders
returns-in_default-clause-orders c = λ s l h small.
    let none = held_executing s l.timing c.args.self.now.core c.in_execute.result None h.core (c.in_execute.ensures.executing ∙ ap (λ (f : Contents). in_execute f.slots) c.flight.ensures.flight) c.in_default.is in
    c.none.ensures.none ∙ ap (λ (p : InorderPhase). p.orders) (sym (none_goes s l none))

pub returns-then-not-may_go_on-clause-kept : goal.returns-then-not-may_go_on-clause-kept
returns-then-not-may_go_on-clause-kept c = λ s l h small.
    let some = held_executing s l.timing c.args.self.now.core c.in_execute.result (Some c.in-Some.leaving) h.core (c.in_execute.ensures.executing ∙ ap (λ (f : Contents). in_execute f.slots) c.flight.ensures.flight) c.in-Some.is in
    let stays : c.may_go_on.result ≡ false = c.if-not-may_go_on.true in
    let same = one_goes s l (executing_as c.in-Some.leaving) false some (sym (c.may_go_on.ensures.may s l h) ∙ stays) in
    subst (λ (p : InorderPhase). InorderStandsFor s p.inorder c.args.self.now) (sym same) (record { core = h.core; memory = h.memory })

pub returns-then-not-may_go_on-clause-orders : goal.returns-then-not-may_go_on-clause-orders
returns-then-not-may_go_on-clause-orders c = λ s l h small.
    let some = held_executing s l.timing c.args.self.now.core c.in_execute.result (Some c.in-Some.leaving) h.core (c.in_execute.ensures.executing ∙ ap (λ (f : Contents). in_execute f.slots) c.flight.ensures.flight) c.in-Some.is in
    let stays : c.may_go_on.result ≡ false = c.if-not-may_go_on.true in
    let same = one_goes s l (executing_as c.in-Some.leaving) false some (sym (c.may_go_on.ensures.may s l h) ∙ stays) in
    c.none-then-not-may_go_on.ensures.none ∙ ap (λ (p : InorderPhase). p.orders) (sym same)

pub returns-clause-kept : goal.returns-clause-kept
returns-clause-kept c = λ s l h small.
    let some = held_executing s l.timing c.args.self.now.core c.in_execute.result (Some c.in-Some.leaving) h.core (c.in_execute.ensures.executing ∙ ap (λ (f : Contents). in_execute f.slots) c.flight.ensures.flight) c.in-Some.is in
    let goes : c.may_go_on.result ≡ true = c.if-not-may_go_on.false in
    let same = one_goes s l (executing_as c.in-Some.leaving) true some (sym (c.may_go_on.ensures.may s l h) ∙ goes) in
    subst (λ (p : InorderPhase). InorderStandsFor s p.inorder c.go_on.new.self) (sym same) (c.go_on.ensures.kept s l h small)

pub returns-clause-orders : goal.returns-clause-orders
returns-clause-orders c = λ s l h small.
    let some = held_executing s l.timing c.args.self.now.core c.in_execute.result (Some c.in-Some.leaving) h.core (c.in_execute.ensures.executing ∙ ap (λ (f : Contents). in_execute f.slots) c.flight.ensures.flight) c.in-Some.is in
    let goes : c.may_go_on.result ≡ true = c.if-not-may_go_on.false in
    let same = one_goes s l (executing_as c.in-Some.leaving) true some (sym (c.may_go_on.ensures.may s l h) ∙ goes) in
    c.go_on.ensures.orders s l h small ∙ ap (λ (p : InorderPhase). p.orders) (sym same)

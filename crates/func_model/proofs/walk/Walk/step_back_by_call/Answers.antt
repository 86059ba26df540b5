use Rattle.std.proofs.Common.{refl}
use Rattle.func_model.proofs.Going.{last_restorable, not_empty, step_back_holds}
use Rattle.func_model.proofs.walk.Walk.step_back_by_call.Given as given
use Rattle.func_model.proofs.walk.Walk.step_back_by_call.Goals as goal

-- what is committed isn't reached
impossible : {A : Type 0} (g : given.Over) (c : goal.In_default g) → A
impossible g c = not_empty c.args.self.now c.requires.holding c.requires.above (c.in_default.ensures.empty.0 refl)

pub returns-in_default-clause-position : goal.returns-in_default-clause-position
returns-in_default-clause-position g c = impossible g c

pub undo-requires : goal.undo-requires
undo-requires g c = record {
  restorable = last_restorable c.args.self.now c.back.new.self c.in-Some.past c.requires.holding c.requires.above c.in-Some.ensures.newest;
}

pub returns-clause-holds : goal.returns-clause-holds
returns-clause-holds g c =
    step_back_holds c.args.self.now c.undo.new.self c.back.new.self c.in-Some.past c.requires.above c.in-Some.ensures.newest c.undo.ensures.stands c.undo.ensures.room

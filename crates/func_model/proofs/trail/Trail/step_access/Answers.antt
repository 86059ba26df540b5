use Rattle.std.proofs.Common.{None, sym, subst}
use Rattle.func_model.specs.declared.trail.Trail.{Trail}
use Rattle.func_model.specs.Trail.{IsTold}
use Rattle.func_model.proofs.Trails.{retired_below, passed}
use Rattle.func_model.proofs.trail.Trail.step_access.Goals as goal

pub make_access-requires : goal.make_access-requires
make_access-requires g c = record { count = retired_below c.args.self.now c.requires.standing c.requires.going }

pub returns-clause-told : goal.returns-clause-told
returns-clause-told g c = λ is s h.
    let trail : Trail g.row.D.Denot = c.args.self.now in
    subst (λ (x : Trail g.row.D.Denot). IsTold s trail x None) (sym c.go_on.ensures.gone) (passed s trail c.in-Some.past c.make_access.new.self h c.requires.going c.in-Some.ensures.step c.make_access.ensures.room)

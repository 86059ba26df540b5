use Rattle.std.proofs.Common.{Some, subst}
use Rattle.func_model.specs.declared.contents.Contents.{Contents}
use Rattle.func_model.specs.Contents.{GoesOn}
use Rattle.func_model.proofs.GoingOn.{goes_on}
use Rattle.func_model.proofs.contents.Contents.advance_access.Goals as goal

pub returns-in-Some-clause-on : goal.returns-in-Some-clause-on
returns-in-Some-clause-on g c = λ is.
    goes_on c.args.time c.args.time 0 c.args.self.now c.load.new.self _ c.in-Some.ensures.step c.in-Some.ensures.quiet

pub returns-in-Some-store-clause-on : goal.returns-in-Some-store-clause-on
returns-in-Some-store-clause-on g c = λ is.
    subst (λ (x : Contents g.row.D.Denot). GoesOn c.args.time x c.store.new.self) c.in-None.ensures.none
    (goes_on c.args.time c.args.time 0 c.load.new.self c.store.new.self _ (λ s a h. c.in-Some-store.ensures.step s (Some c.args.time) a h) c.in-Some-store.ensures.quiet)

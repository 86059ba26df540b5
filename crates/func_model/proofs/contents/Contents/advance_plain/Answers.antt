use Rattle.std.proofs.Common.{Some}
use Rattle.func_model.proofs.GoingOn.{goes_on}
use Rattle.func_model.proofs.contents.Contents.advance_plain.Goals as goal

pub returns-in-Some-clause-on : goal.returns-in-Some-clause-on
returns-in-Some-clause-on g c = λ is.
    goes_on c.args.time c.args.time 0 c.args.self.now c.compute.new.self _ (λ s a h. c.in-Some.ensures.step s (Some c.args.time) a h) c.in-Some.ensures.quiet

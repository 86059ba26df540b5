use Rattle.std.proofs.Common.{◌∙◌, arith}
use Rattle.mono_model.specs.Path.{path}
use Rattle.func_model.proofs.Path.{goes_on_set}
use Rattle.func_model.proofs.Bending.{bent_holds, bends_set, contents_at, stands_at_number}
use Rattle.func_model.proofs.walk.Walk.set.Goals as goal

pub returns-clause-stands : goal.returns-clause-stands
returns-clause-stands g c = λ s os h.
    let held = c.go_to.ensures.holds s os h in
    stands_at_number s _ os c.args.n _
    (bent_holds s _ os c.args.n c.args.addr c.go_to.new.self c.jump.new.self c.go_to.new.self.given c.go_to.new.self.is_stopped held (bends_set s c.args.n c.args.addr os)
    c.go_to.ensures.position (omega (arith, c.go_to.ensures.others.committed, c.requires.able.from))
    (c.jump.ensures.stands s (path s os c.args.n) (contents_at s os c.args.n c.go_to.new.self held c.go_to.ensures.position)) c.jump.ensures.room held.given)
    c.go_to.ensures.position (goes_on_set c.args.n c.args.addr os) (c.go_to.ensures.others.committed ∙ h.done) (c.go_to.ensures.others.running ∙ h.stopped)

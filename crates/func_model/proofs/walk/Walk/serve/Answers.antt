use Rattle.std.proofs.Common.{refl, ◌∙◌, Some, arith}
use Rattle.func_model.proofs.Path.{goes_on_time}
use Rattle.func_model.proofs.Bending.{bent_holds, bends_time, contents_at, stands_at_number}
use Rattle.func_model.proofs.walk.Walk.serve.Goals as goal

pub returns-clause-stands : goal.returns-clause-stands
returns-clause-stands g c = λ s os h.
    let held = c.go_to.ensures.holds s os h in
    stands_at_number s _ os c.args.n _
    (bent_holds s _ os c.args.n _ c.go_to.new.self c.go_to.new.self.contents (Some (c.args.n, c.args.time)) c.go_to.new.self.is_stopped held (bends_time s c.args.n c.args.time os)
    c.go_to.ensures.position (omega (arith, c.go_to.ensures.others.committed, c.requires.able.from))
    (contents_at s os c.args.n c.go_to.new.self held c.go_to.ensures.position) refl (λ k. refl))
    c.go_to.ensures.position (goes_on_time c.args.n c.args.time os) (c.go_to.ensures.others.committed ∙ h.done) (c.go_to.ensures.others.running ∙ h.stopped)

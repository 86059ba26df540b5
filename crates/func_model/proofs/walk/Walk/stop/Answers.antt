use Rattle.std.proofs.Common.{true, refl, ◌∙◌, arith}
use Rattle.func_model.proofs.Bending.{bent_holds, bends_stop, contents_at}
use Rattle.func_model.proofs.walk.Walk.stop.Goals as goal

pub returns-clause-stands : goal.returns-clause-stands
returns-clause-stands g c = λ s os h.
    let held = c.go_to.ensures.holds s os h in
    record {
      holds = bent_holds s _ os c.args.n _ c.go_to.new.self c.go_to.new.self.contents c.go_to.new.self.given true held (bends_stop s c.args.n os)
          c.go_to.ensures.position (omega (arith, c.go_to.ensures.others.committed, c.requires.able.from))
          (contents_at s os c.args.n c.go_to.new.self held c.go_to.ensures.position) refl held.given;
      done = c.go_to.ensures.others.committed ∙ h.done;
      stopped = refl;
      on = λ still. cc;
    }

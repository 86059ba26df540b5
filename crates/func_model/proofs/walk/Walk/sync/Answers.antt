use Rattle.std.proofs.Common.{ap, ◌∙◌}
use Rattle.mono_model.specs.Arch.{synced}
use Rattle.func_model.specs.declared.walk.Walk.{Walk}
use Rattle.mono_model.specs.Path.{path}
use Rattle.func_model.proofs.Path.{goes_on_sync}
use Rattle.func_model.proofs.Bending.{settled_holds, settles_sync, contents_at, stands_at_number, within_path, committed_position, settled_moved}
use Rattle.func_model.proofs.walk.Walk.sync.Goals as goal

pub returns-clause-stands : goal.returns-clause-stands
returns-clause-stands g c = λ s os h.
    let done = c.commit.ensures.holds s os (c.go_to.ensures.holds s os h) (within_path s os c.args.self.now c.args.n h c.requires.able.reach.running c.requires.able.from c.requires.within) in
    let here = committed_position c.go_to.new.self c.commit.new.self c.args.n c.commit.ensures.others ∙ c.go_to.ensures.position in
    stands_at_number s _ os c.args.n _
    (settled_holds s _ os c.args.n (synced s (path s os c.args.n)) c.commit.new.self c.sync.new.self c.commit.new.self.given done (settles_sync s c.args.n os)
    here c.commit.ensures.committed (c.sync.ensures.stands s (path s os c.args.n) (contents_at s os c.args.n c.commit.new.self done here)) c.sync.ensures.room done.given)
    here (goes_on_sync c.args.n os) c.commit.ensures.committed
    (ap (λ (w : Walk g.row.D.Denot). w.is_stopped) c.commit.ensures.others ∙ c.go_to.ensures.others.running ∙ h.stopped)

pub returns-clause-moved : goal.returns-clause-moved
returns-clause-moved g c =
    settled_moved c.args.n c.args.self.now c.go_to.new.self c.commit.new.self c.sync.new.self c.commit.new.self.given c.go_to.ensures.others c.go_to.ensures.position
    c.commit.ensures.others c.commit.ensures.room

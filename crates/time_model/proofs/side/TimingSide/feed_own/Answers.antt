use Rattle.std.proofs.Common.{ap, sym, ◌∙◌, subst}
use Rattle.time_model.specs.Standing.{IsRight}
use Rattle.time_model.specs.Feeding.{IsFed}
use Rattle.time_model.proofs.Feeding.{holding_standing, fed_used}
use Rattle.time_model.proofs.side.TimingSide.feed_own.Goals as goal

pub feed-requires-clause-standing : goal.feed-requires-clause-standing
feed-requires-clause-standing g c =
    holding_standing g.P.Pipeline.piped g.met.P.Pipeline.laws c.args.entry.now c.self.inside.state (subst (IsRight g.P.Pipeline.piped c.args.entry.now) (sym c.self.view_is) c.requires.right)
    (c.requires.own ∙ sym (ap (λ side. side.telling.epoch) c.self.view_is))

pub returns-clause-fed : goal.returns-clause-fed
returns-clause-fed g c =
    subst (λ from. IsFed g.P.Pipeline.piped c.args.entry.now from c.feed.new.self c.feed.result) c.self.view_is
    (fed_used g.P.Pipeline.piped g.met.P.Pipeline.laws c.args.entry.now c.self.inside.state c.feed.new.self c.feed.result (c.requires.own ∙ sym (ap (λ side. side.telling.epoch) c.self.view_is)) c.feed.ensures.made)

use Rattle.split_core.proofs.Sides.{right_on, fed_on}
use Rattle.split_core.proofs.timing.TimingSideTiming.feed_own.Goals as goal

pub feed_own-requires-clause-right : goal.feed_own-requires-clause-right
feed_own-requires-clause-right g c = right_on g.P.Pipeline.piped g.met.P.Pipeline.laws g.P.Bounded.rounds c.args.entry.now c.args.self.now c.requires.right

pub returns : goal.returns
returns g c = record { fed = fed_on g.P.Pipeline.piped g.met.P.Pipeline.laws g.P.Bounded.rounds c.args.entry.now c.args.self.now c.feed_own.new.self c.feed_own.result c.feed_own.ensures.fed; waiting = c.feed_own.ensures.waiting }

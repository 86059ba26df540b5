use Rattle.std.proofs.Common.{rules, arith}
use Rattle.reservation_stations.proofs.Among.{seen_sets, ready_there, executing_there, has_within}
use Rattle.reservation_stations.proofs.stations.Stations.among.Goals as goal

pub returns-in-Ready-clause-all : goal.returns-in-Ready-clause-all
returns-in-Ready-clause-all c place behind inside = rw c.in-Ready.is
    (ready_there _ _ _ _ (seen_sets _ _ _ _ _ c.self.invariant.2 c.self.view_is)
    (omega arith) c.args.from c.ready_from.result c.requires.inside place behind inside c.ready_from.ensures.word)

pub returns-in-Ready-clause-others : goal.returns-in-Ready-clause-others
returns-in-Ready-clause-others c place there = has_within c.args.from c.ready_from.result place (search rules) there

pub returns-in-Executing-clause-all : goal.returns-in-Executing-clause-all
returns-in-Executing-clause-all c place behind inside = rw c.in-Executing.is
    (executing_there _ _ _ _ (seen_sets _ _ _ _ _ c.self.invariant.2 c.self.view_is)
    (omega arith) c.args.from c.executing_from.result c.requires.inside place behind inside c.executing_from.ensures.word)

pub returns-in-Executing-clause-others : goal.returns-in-Executing-clause-others
returns-in-Executing-clause-others c place there = has_within c.args.from c.executing_from.result place (search rules) there

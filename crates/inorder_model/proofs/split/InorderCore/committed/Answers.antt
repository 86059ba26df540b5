use Rattle.inorder_model.proofs.InorderTimingCore.{at_boundary_inside, reports, goes_back}
use Rattle.inorder_model.proofs.split.InorderCore.committed.Goals as goal

pub committed-requires : goal.committed-requires
committed-requires g c = record { boundary = at_boundary_inside c.self.inside.state c.args.self.now c.self.view_is c.requires.boundary }

pub returns-clause-reported : goal.returns-clause-reported
returns-clause-reported g c = reports c.self.inside.state c.args.self.now c.self.view_is c.committed.result c.committed.ensures.reported

pub returns-clause-contents : goal.returns-clause-contents
returns-clause-contents g c = goes_back c.self.inside.state c.args.self.now c.committed.new.self c.self.view_is c.committed.ensures.contents

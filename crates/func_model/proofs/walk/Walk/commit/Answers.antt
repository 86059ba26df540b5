use Rattle.func_model.proofs.Going.{committed_holds}
use Rattle.func_model.proofs.walk.Walk.commit.Goals as goal

pub returns-clause-holds : goal.returns-clause-holds
returns-clause-holds g c = λ s os h within. committed_holds s os c.args.self.now c.args.n c.drop_oldest.new.self h c.requires.from c.drop_oldest.ensures.kept within

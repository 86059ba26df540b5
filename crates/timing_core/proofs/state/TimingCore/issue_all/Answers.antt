use Rattle.timing_core.proofs.Issuing.{none_begins}
use Rattle.timing_core.proofs.state.TimingCore.issue_all.Goals as goal

pub returns-in_default : goal.returns-in_default
returns-in_default c = record { kept = λ s t k small. none_begins s t c.args.self.now k small.order c.in_default.ensures.none }

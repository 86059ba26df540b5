use Rattle.insight_laws.proofs.Counting.{heads_add_up}
use Rattle.insight_laws.proofs.sums.causes_add_up.Goals as goal

pub returns : goal.returns
returns c = record { spent = heads_add_up }

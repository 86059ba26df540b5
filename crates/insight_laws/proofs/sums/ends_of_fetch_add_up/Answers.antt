use Rattle.insight_laws.proofs.Counting.{fetch_ends_add_up}
use Rattle.insight_laws.proofs.sums.ends_of_fetch_add_up.Goals as goal

pub returns : goal.returns
returns c = record { ended = fetch_ends_add_up }

use Rattle.insight_laws.proofs.RowSums.{rows_add_up}
use Rattle.insight_laws.proofs.rows.rows_add_up.Goals as goal

pub returns : goal.returns
returns c = record { rows = rows_add_up }

use Rattle.instruction_count.proofs.ColumnSums.{exceptions_total, retired_total}
use Rattle.instruction_count.proofs.totals.columns_add_up.Goals as goal

pub returns : goal.returns
returns c = record { retired = retired_total; exceptions = exceptions_total }

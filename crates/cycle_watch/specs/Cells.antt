-- The cells, as the code has them.
use Rattle.insight_model.specs.Cell.{Cell, fetch, queue, decode, execute, miss, memory, complete, write}
use Rattle.cycle_watch.specs.declared.cell.Cell.{Cell as CellInCode}
use Rattle.cycle_watch.specs.declared.cell.Cell.TheVariants as cell

abbrev pub cell_in : CellInCode → Cell
cell_in cell.Fetch = fetch
cell_in cell.Queue = queue
cell_in cell.Decode = decode
cell_in cell.Execute = execute
cell_in cell.Miss = miss
cell_in cell.Memory = memory
cell_in cell.Complete = complete
cell_in cell.Write = write

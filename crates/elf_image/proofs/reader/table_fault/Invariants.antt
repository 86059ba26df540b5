use Rattle.std.proofs.Common.{◌≡◌, ◌-◌}
use Rattle.elf_image.specs.Image.{first_fault, table_rows}
use Rattle.elf_image.proofs.reader.table_fault.Given as goal

-- the first fault of the headers that are left is that of all
abbrev pub invariant-loop-index : goal.invariant-loop-index
invariant-loop-index l = first_fault (table_rows l.bytes l.ram l.index (l.count - l.index)) ≡ first_fault (table_rows l.bytes l.ram 0 l.count)

-- The base of RAM, by its row.
use Rattle.std.proofs.Common.{◌≡◌, refl}
use Rattle.std.specs.Prelude.{codes}
use Rattle.toml.specs.Data.{Members}
use Rattle.machine_file.specs.Table.{Row, row, pages, first_rows, second_rows, rows, key_text}
use Rattle.machine_file.specs.File.{value_of, ram_base}

abbrev pub base_row : Row
base_row = row (codes "ram") (codes "base") (pages 0x20000000 0xFFFFF000) 0x80000000

pub ram_base-is : (file : Members) → ram_base file ≡ value_of file base_row
unfolding ram_base first_rows second_rows rows key_text
ram_base-is file = refl

-- for the code that reads it
pub ruleset base_number = (ram_base-is)

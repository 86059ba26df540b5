use Rattle.std.proofs.Common.{◌≡◌, map, take, drop, length}
use Rattle.toml.specs.View.{table_view}
use Rattle.machine_file.specs.File.{first_failing, value_of}
use Rattle.machine_file.specs.Code.{row_of}
use Rattle.machine_file.proofs.numbers.numbers.Given as goal

-- the array keeps its length, the numbers so far are those of the rows so far, and the first fault of the rows that are left is that of all
abbrev pub invariant-loop-i : goal.invariant-loop-i
invariant-loop-i l = record {
  long : length l.numbers ≡ 34;
  values : take l.i l.numbers ≡ map (value_of (table_view l.file)) (map row_of (take l.i l.rows));
  clear : first_failing (table_view l.file) (map row_of (drop l.i l.rows)) ≡ first_failing (table_view l.file) (map row_of l.rows);
}

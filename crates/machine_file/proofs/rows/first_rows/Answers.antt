use Rattle.std.proofs.Common.{◌≡◌, take, sym, ◌∙◌, ap, refl}
use Rattle.std.proofs.lemmas.List.{take-map}
use Rattle.machine_file.specs.Table.{first_rows, second_rows, rows}
use Rattle.machine_file.specs.Code.{row_of}
use Rattle.machine_file.proofs.rows.first_rows.Goals as goal

-- the table begins with the rows of version 1
begins : take 28 rows ≡ first_rows
unfolding first_rows second_rows rows
begins = refl

pub returns : goal.returns
returns c = sym (take-map row_of 28 c.args.all.now) ∙ ap (take 28) c.requires.rows ∙ begins

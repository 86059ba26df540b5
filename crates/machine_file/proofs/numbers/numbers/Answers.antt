use Rattle.std.proofs.Common.{map, length-set, sym, ap, ◌∙◌, arith}
use Rattle.std.proofs.lemmas.List.{take_all}
use Rattle.toml.specs.View.{table_view}
use Rattle.machine_file.specs.File.{value_of}
use Rattle.machine_file.specs.Code.{row_of}
use Rattle.machine_file.proofs.Steps.{values-next, clear-next}
use Rattle.machine_file.proofs.numbers.numbers.Goals as goal

pub loop-i-preserved : goal.loop-i-preserved
loop-i-preserved c =
    let file = table_view c.args.file.now in
    let rows = c.args.rows.now in
    record {
      long = length-set c.loop-i.numbers c.loop-i.i c.in_ok-n.n ∙ c.loop-i.invariant.long;
      values = values-next (value_of file) row_of rows c.loop-i.numbers c.loop-i.i c.in_ok-n.n _ (omega arith) (omega arith) c.loop-i.invariant.values c.in_ok-n.ensures.value;
      clear = clear-next file row_of rows c.loop-i.i _ (omega arith) c.in_ok-n.ensures.clear ∙ c.loop-i.invariant.clear;
    }

pub returns-clause-values : goal.returns-clause-values
returns-clause-values c =
    let rows = c.args.rows.now in
    let file = table_view c.args.file.now in
    sym (take_all c.loop-i.i c.loop-i.numbers (omega (arith, c.loop-i.invariant.long)))
    ∙ c.loop-i.invariant.values
    ∙ ap (λ rs. map (value_of file) (map row_of rs)) (take_all c.loop-i.i rows (omega arith))

use Rattle.std.proofs.Common.{◌∙◌}
use Rattle.clap.specs.Words.{found_of, rows_of}
use Rattle.clap.proofs.WalkLemmas.{first_value-rows}
use Rattle.fast_cli.proofs.Rows.{first_of-values}
use Rattle.fast_cli.proofs.values.value_at.Goals as goal

pub returns : goal.returns
returns c =
    c.get_str.ensures ∙ first_value-rows (found_of c.args.matches.now) c.args.id.now
    ∙ first_of-values c.args.id.now (rows_of (found_of c.args.matches.now))

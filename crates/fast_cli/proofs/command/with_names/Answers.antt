use Rattle.std.proofs.Common.{[], arith}
use Rattle.clap.specs.Words.{app_of}
use Rattle.fast_cli.specs.Command.{name_rule}
use Rattle.fast_cli.proofs.Commands.{with_rules-next, with_rules-none}
use Rattle.fast_cli.proofs.command.with_names.Goals as goal

pub loop-name-init : goal.loop-name-init
loop-name-init c = with_rules-none (app_of c.args.command)

pub loop-name-preserved : goal.loop-name-preserved
loop-name-preserved c =
    with_rules-next (name_rule c.args.needed) c.args.names.now c.loop-name.name-index (record { ref_ptr = (0, 0); now = [] }) (app_of c.args.command)
    (app_of c.loop-name.longer) (app_of c.in_ok-longer.longer) (omega arith) c.in_ok-longer.ensures c.loop-name.invariant

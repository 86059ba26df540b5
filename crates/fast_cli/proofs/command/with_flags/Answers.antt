use Rattle.std.proofs.Common.{[], arith}
use Rattle.clap.specs.Words.{app_of}
use Rattle.fast_cli.specs.Command.{flag_rule}
use Rattle.fast_cli.proofs.Commands.{with_rules-next, with_rules-none}
use Rattle.fast_cli.proofs.command.with_flags.Goals as goal

pub loop-flag-init : goal.loop-flag-init
loop-flag-init c = with_rules-none (app_of c.args.command)

pub loop-flag-preserved : goal.loop-flag-preserved
loop-flag-preserved c =
    with_rules-next flag_rule c.args.flags.now c.loop-flag.flag-index (record { ref_ptr = (0, 0); now = [] }) (app_of c.args.command)
    (app_of c.loop-flag.longer) (app_of c.in_ok-longer.longer) (omega arith) c.in_ok-longer.ensures c.loop-flag.invariant

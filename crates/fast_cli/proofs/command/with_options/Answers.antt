use Rattle.std.proofs.Common.{[], arith}
use Rattle.clap.specs.Words.{app_of}
use Rattle.fast_cli.specs.Command.{option_rule}
use Rattle.fast_cli.proofs.Commands.{with_rules-next, with_rules-none}
use Rattle.fast_cli.proofs.command.with_options.Goals as goal

pub loop-option-init : goal.loop-option-init
loop-option-init c = with_rules-none (app_of c.args.command)

pub loop-option-preserved : goal.loop-option-preserved
loop-option-preserved c =
    with_rules-next option_rule c.args.options.now c.loop-option.option-index (record { ref_ptr = (0, 0); now = [] }) (app_of c.args.command)
    (app_of c.loop-option.longer) (app_of c.in_ok-longer.longer) (omega arith) c.in_ok-longer.ensures c.loop-option.invariant

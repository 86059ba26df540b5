use Rattle.std.proofs.Common.{◌≡◌, map, take}
use Rattle.clap.specs.Words.{app_of}
use Rattle.fast_cli.specs.Command.{with_options}
use Rattle.fast_cli.proofs.command.with_options.Given as goal

abbrev pub invariant-loop-option : goal.invariant-loop-option
invariant-loop-option l = app_of l.longer ≡ with_options (map (λ n. n.now) (take l.option-index l.options)) (app_of l.fn.command)

use Rattle.std.proofs.Common.{◌≡◌, map, take}
use Rattle.clap.specs.Words.{app_of}
use Rattle.fast_cli.specs.Command.{with_names}
use Rattle.fast_cli.proofs.command.with_names.Given as goal

abbrev pub invariant-loop-name : goal.invariant-loop-name
invariant-loop-name l = app_of l.longer ≡ with_names l.needed (map (λ n. n.now) (take l.name-index l.names)) (app_of l.fn.command)

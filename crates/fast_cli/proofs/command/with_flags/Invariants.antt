use Rattle.std.proofs.Common.{◌≡◌, map, take}
use Rattle.clap.specs.Words.{app_of}
use Rattle.fast_cli.specs.Command.{with_flags}
use Rattle.fast_cli.proofs.command.with_flags.Given as goal

abbrev pub invariant-loop-flag : goal.invariant-loop-flag
invariant-loop-flag l = app_of l.longer ≡ with_flags (map (λ n. n.now) (take l.flag-index l.flags)) (app_of l.fn.command)

use Rattle.std.proofs.Common.{◌≡◌, map, take}
use Rattle.fast_cli.proofs.own.own_names.Given as goal

abbrev pub invariant-loop-name : goal.invariant-loop-name
invariant-loop-name l = l.list.items ≡ map (λ t. t.now) (take l.name-index l.names)

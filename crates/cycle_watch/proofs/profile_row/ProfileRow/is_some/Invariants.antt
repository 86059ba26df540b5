use Rattle.std.proofs.Common.{◌≡◌, drop, nat_lt}
use Rattle.std.specs.List.{list_any}
use Rattle.cycle_watch.specs.Profiled.{numbers_of}
use Rattle.cycle_watch.proofs.profile_row.ProfileRow.is_some.Given as goal

-- something was counted if it was among the others
abbrev pub invariant-loop-number : goal.invariant-loop-number
invariant-loop-number l = list_any (λ number. nat_lt 0 number) (numbers_of l.self) ≡ list_any (λ number. nat_lt 0 number) (drop l.number-index (numbers_of l.self))

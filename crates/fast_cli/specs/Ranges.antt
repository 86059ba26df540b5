-- The ranges in which the numbers of each line are.
use Rattle.std.specs.Prelude.{ℕ, ◌≤◌, length}
use Rattle.fast_cli.specs.declared.line.Line.{Line}
use Rattle.fast_cli.specs.declared.line.Line.TheVariants.{Back, Count, Func, Gdb, Inorder, Profile}
use Rattle.fast_cli.specs.declared.line.Line.TheVariants.{Run, Sched, Soak, Stack, Sweep, Trace}
use Rattle.fast_cli.specs.declared.line.Options.{Options}

abbrev pub IsFrom : ℕ → ℕ → ℕ → Type 0
IsFrom least most n = (least ≤ n) × (n ≤ most)

pub record HasRanges (options : Options) : Type 0 where
  pub ring : IsFrom 1 65536 options.ring
  pub cycles : IsFrom 1 1099511627776 options.cycles
  pub output : options.output ≤ 16777216

abbrev pub IsInRange : Line → Type 0
IsInRange (Func image machine options) = HasRanges options
IsInRange (Run image machine pipeline threads options) = IsFrom 1 2 threads × HasRanges options
IsInRange (Sched image machine plan options) = HasRanges options
IsInRange (Soak seed) = seed ≤ 18446744073709551615
IsInRange (Back image script machine history options) = IsFrom 1 1048576 history × HasRanges options
IsInRange (Inorder image machine plan options) = HasRanges options
IsInRange (Sweep image machines pipeline options) = IsFrom 1 64 (length machines) × HasRanges options
IsInRange (Trace image machine from to pipeline options) =
    (from ≤ 1099511627776) × (to ≤ 1099511637776) × HasRanges options
IsInRange (Stack image machine pipeline options) = HasRanges options
IsInRange (Profile image machine pipeline options) = HasRanges options
IsInRange (Count image machine options) = HasRanges options
IsInRange (Gdb image machine history options) = IsFrom 1 1048576 history × HasRanges options

use Rattle.std.proofs.Common.{◌≡◌, ◌+◌, Some, length}
use Rattle.cycle_watch.specs.Facts.{access_in}
use Rattle.cycle_watch.proofs.Making.{MakesFirst}
use Rattle.cycle_watch.proofs.profile.Profiling.make_loads.Given as goal

-- those so far were made
abbrev pub invariant-loop-place : goal.invariant-loop-place
invariant-loop-place l = record {
  made : MakesFirst (λ made. Some (access_in made)) l.place l.initial.self.heads.last.loads.items l.initial.self l.self;
  rest : l.self ≡ record l.initial.self { caches = l.self.caches; counts = l.self.counts };
  each : length l.self.counts.items ≡ length l.self.rows + 1;
}

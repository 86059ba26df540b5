use Rattle.std.proofs.Common.{◌≡◌, ◌+◌, ◌-◌, if◌then◌else◌, length}
use Rattle.insight_model.specs.Accesses.{fetch_access}
use Rattle.cycle_watch.specs.Facts.{window_in}
use Rattle.cycle_watch.specs.Profiled.{fetched_after}
use Rattle.cycle_watch.proofs.Making.{MakesFirst}
use Rattle.cycle_watch.proofs.profile.Profiling.make_fetches.Given as goal

-- those so far were made
abbrev pub invariant-loop-place : goal.invariant-loop-place
invariant-loop-place l = record {
  made : MakesFirst fetch_access (l.place - (l.facts.kept + (if l.facts.paid then 1 else 0))) (fetched_after l.facts (window_in l.initial.self.heads.last.marks.items)) l.initial.self l.self;
  rest : l.self ≡ record l.initial.self { caches = l.self.caches; counts = l.self.counts };
  each : length l.self.counts.items ≡ length l.self.rows + 1;
}

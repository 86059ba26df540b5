use Rattle.std.proofs.Common.{◌≡◌, ◌+◌, length}
use Rattle.insight_model.specs.Accesses.{store_access}
use Rattle.cycle_watch.specs.Facts.{window_in}
use Rattle.cycle_watch.proofs.Making.{MakesFirst}
use Rattle.cycle_watch.proofs.profile.Profiling.make_stores.Given as goal

-- those so far were made
abbrev pub invariant-loop-place : goal.invariant-loop-place
invariant-loop-place l = record {
  made : MakesFirst store_access l.place (window_in l.initial.self.heads.last.marks.items) l.initial.self l.self;
  rest : l.self ≡ record l.initial.self { caches = l.self.caches; counts = l.self.counts };
  each : length l.self.counts.items ≡ length l.self.rows + 1;
}

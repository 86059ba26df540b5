use Rattle.std.proofs.Common.{◌≡◌, ◌+◌, length}
use Rattle.insight_model.specs.Profile.{retired_events}
use Rattle.cycle_watch.specs.Facts.{window_in}
use Rattle.cycle_watch.proofs.RowLists.{CountsFirst}
use Rattle.cycle_watch.proofs.profile.Profiling.count_retired.Given as goal

-- those so far were counted
abbrev pub invariant-loop-place : goal.invariant-loop-place
invariant-loop-place l = record {
  counted : CountsFirst retired_events l.place (window_in l.initial.self.heads.last.marks.items) l.initial.self l.self;
  rest : l.self ≡ record l.initial.self { counts = l.self.counts };
  each : length l.self.counts.items ≡ length l.self.rows + 1;
}

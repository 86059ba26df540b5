use Rattle.std.proofs.Common.{◌≡◌, ◌+◌, length}
use Rattle.cycle_watch.specs.Facts.{window_in}
use Rattle.cycle_watch.proofs.RowLists.{AppendsFrom}
use Rattle.cycle_watch.proofs.profile.Profiling.count_appended.Given as goal

-- those so far were counted
abbrev pub invariant-loop-place : goal.invariant-loop-place
invariant-loop-place l = record {
  counted : AppendsFrom l.facts.kept l.place (window_in l.initial.self.heads.last.marks.items) l.initial.self l.self;
  rest : l.self ≡ record l.initial.self { counts = l.self.counts };
  each : length l.self.counts.items ≡ length l.self.rows + 1;
}

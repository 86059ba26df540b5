use Rattle.std.proofs.Common.{◌-◌}
use Rattle.cycle_watch.specs.Facts.{window_in}
use Rattle.cycle_watch.specs.Traced.{marks_in}
use Rattle.cycle_watch.proofs.TraceMarks.{SearchedTo}
use Rattle.cycle_watch.proofs.trace.producer_of.Given as goal

-- none of the younger ones writes it
abbrev pub invariant-loop-younger : goal.invariant-loop-younger
invariant-loop-younger l = SearchedTo l.register (l.count - l.younger) (marks_in l.told.marks.items) (window_in l.last.marks.items)

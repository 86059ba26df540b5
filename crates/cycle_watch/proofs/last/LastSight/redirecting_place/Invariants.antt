use Rattle.insight_model.specs.Facts.{is_redirecting}
use Rattle.cycle_watch.specs.Facts.{window_in}
use Rattle.cycle_watch.proofs.Finding.{NoneTo}
use Rattle.cycle_watch.proofs.last.LastSight.redirecting_place.Given as goal

-- none of those so far goes elsewhere
abbrev pub invariant-loop-place : goal.invariant-loop-place
invariant-loop-place l = NoneTo (is_redirecting l.self.cycle) (window_in l.self.marks.items) l.left l.place

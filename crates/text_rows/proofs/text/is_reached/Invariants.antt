use Rattle.std.proofs.Common.{◌≡◌, false, take}
use Rattle.std.specs.List.{list_any}
use Rattle.text_rows.proofs.Reached.{reaches_exec}
use Rattle.text_rows.proofs.text.is_reached.Given as goal

abbrev pub invariant-loop-segment : goal.invariant-loop-segment
invariant-loop-segment l = list_any (reaches_exec l.page) (take l.segment-index l.image.segments) ≡ false

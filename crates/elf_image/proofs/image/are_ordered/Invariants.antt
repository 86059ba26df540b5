use Rattle.std.proofs.Common.{◌≡◌, drop}
use Rattle.elf_image.specs.Sound.{are_ordered}
use Rattle.elf_image.proofs.image.are_ordered.Given as goal

-- the segments that are left are in order exactly where all are
abbrev pub invariant-loop-i : goal.invariant-loop-i
invariant-loop-i l = are_ordered (drop l.i l.segments) ≡ are_ordered l.segments

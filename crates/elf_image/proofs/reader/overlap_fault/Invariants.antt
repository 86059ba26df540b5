use Rattle.std.proofs.Common.{◌≡◌, ◌-◌}
use Rattle.elf_image.specs.Image.{first_fault, overlap_rows}
use Rattle.elf_image.proofs.reader.overlap_fault.Given as goal

-- the first overlap with the headers that are left is that with all
abbrev pub invariant-loop-i : goal.invariant-loop-i
invariant-loop-i l = first_fault (overlap_rows l.bytes l.index l.i (l.index - l.i)) ≡ first_fault (overlap_rows l.bytes l.index 0 l.index)

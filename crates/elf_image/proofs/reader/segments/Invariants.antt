use Rattle.std.proofs.Common.{◌≡◌, ◌-◌, ◌++◌}
use Rattle.elf_image.specs.Image.{segments_of}
use Rattle.elf_image.proofs.reader.segments.Given as goal

-- the segments so far, and those of the headers that are left, are all
abbrev pub invariant-loop-index : goal.invariant-loop-index
invariant-loop-index l = l.list.items ++ segments_of l.bytes l.index (l.count - l.index) ≡ segments_of l.bytes 0 l.count

use Rattle.std.proofs.Common.{◌≡◌, ◌++◌, take}
use Rattle.elf_image.specs.Write.{contents_of}
use Rattle.elf_image.proofs.writer.push_contents.Given as goal

-- the bytes of the segments so far were added
abbrev pub invariant-loop-segment : goal.invariant-loop-segment
invariant-loop-segment l = l.out.items ≡ l.fn.out.items ++ contents_of (take l.segment-index l.segments)

use Rattle.std.proofs.Common.{◌≡◌, ◌++◌, take}
use Rattle.elf_image.specs.Write.{halves}
use Rattle.elf_image.proofs.writer.push_halves.Given as goal

-- the numbers so far were added
abbrev pub invariant-loop-number : goal.invariant-loop-number
invariant-loop-number l = l.out.items ≡ l.fn.out.items ++ halves (take l.number-index l.numbers)

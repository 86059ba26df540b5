use Rattle.std.proofs.Common.{◌≡◌, ◌++◌, take}
use Rattle.elf_image.specs.Write.{words}
use Rattle.elf_image.proofs.writer.push_words.Given as goal

-- the numbers so far were added
abbrev pub invariant-loop-number : goal.invariant-loop-number
invariant-loop-number l = l.out.items ≡ l.fn.out.items ++ words (take l.number-index l.numbers)

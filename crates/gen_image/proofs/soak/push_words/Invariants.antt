use Rattle.std.proofs.Common.{◌≡◌, ◌+◌, ◌*◌, ◌++◌, take, length}
use Rattle.elf_image.specs.Write.{words}
use Rattle.gen_image.proofs.soak.push_words.Given as goal

-- the words so far were added
abbrev pub invariant-loop-word : goal.invariant-loop-word
invariant-loop-word l = record {
  added : l.bytes.items ≡ l.fn.bytes.items ++ words (take l.word-index l.code);
  len : length l.bytes.items ≡ length l.fn.bytes.items + 4 * l.word-index;
}

use Rattle.std.proofs.Common.{◌≡◌, ℕ, ◌+◌, ◌*◌, ◌<◌, ◌≤◌, ◌++◌, length, drop, get_or}
use Rattle.elf_image.specs.declared.segment.Segment.{Segment}
use Rattle.elf_image.specs.Write.{program_headers, HasWords}
use Rattle.elf_image.proofs.writer.push_program_headers.Given as goal

-- what was added and the headers that are left are all headers, the next bytes stand at an offset that fits, and the
-- segments so far have words
abbrev pub invariant-loop-segment : goal.invariant-loop-segment
invariant-loop-segment l = record {
  headers : l.out.items ++ program_headers (drop l.segment-index l.segments) l.offset ≡ l.fn.out.items ++ program_headers l.segments (52 + 32 * length l.segments);
  offset : l.offset ≤ 2100 + 67108864 * l.segment-index;
  words : (k : ℕ) (d : Segment) → k < l.segment-index → HasWords (get_or l.segments k d);
}

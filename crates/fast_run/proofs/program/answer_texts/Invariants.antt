use Rattle.std.proofs.Common.{◌≡◌, map, take, string_bytes}
use Rattle.fast_run.proofs.program.answer_texts.Given as goal

-- the words so far are the texts so far, and nothing was touched
abbrev pub invariant-loop-text : goal.invariant-loop-text
invariant-loop-text g l = record {
  words : map (λ word. word.now) l.words.items ≡ map string_bytes (take l.text-index l.texts);
}

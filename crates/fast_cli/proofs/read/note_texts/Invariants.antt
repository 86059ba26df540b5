use Rattle.std.proofs.Common.{map, take}
use Rattle.fast_cli.specs.Words.{AreText}
use Rattle.fast_cli.proofs.read.note_texts.Given as goal

abbrev pub invariant-loop-word : goal.invariant-loop-word
invariant-loop-word l = AreText (map (λ w. w.now) (take l.word-index l.words))

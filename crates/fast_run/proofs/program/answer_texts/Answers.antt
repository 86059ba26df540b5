use Rattle.std.proofs.Common.{◌≡◌, ℕ, List, IfOk, subst}
use Rattle.fast_cli.specs.Line.{line}
use Rattle.fast_run.specs.Answer.{IsAnswer}
use Rattle.fast_jobs.specs.Call.{hearing_of, reading_of, writing_of}
use Rattle.fast_run.specs.Program.{exit_number}
use Rattle.fast_run.proofs.Words.{words-all, words-next}
use Rattle.fast_run.proofs.program.answer_texts.Goals as goal

pub loop-text-preserved : goal.loop-text-preserved
loop-text-preserved g c = record {
  words = words-next c.args.texts.now c.loop-text.words.items c.push.new.self.items c.loop-text.text-index c.text-item.result c.as_str.result c.loop-text-test.true c.text-item.is
      c.as_str.ensures.value c.in_ok-push.ensures.items c.loop-text.invariant.words;
}

pub returns-clause-answer : goal.returns-clause-answer
returns-clause-answer g c =
    let P : List (List ℕ) → Type 0 = λ ws. IfOk c.answer_words.result (λ answer. IsAnswer (line ws) 64
    (reading_of g.F.Files.told g.F.Files.faults c.args.files.now c.answer_words.new.files)
    (hearing_of g.S.Source.heard g.S.Source.faults c.args.source.now c.answer_words.new.source)
    (writing_of g.K.Sink.written g.K.Sink.faults c.args.sink.now c.answer_words.new.sink) answer.status) in
    subst P (words-all c.args.texts.now c.loop-text.words.items c.as_slice.result.now c.loop-text.text-index c.loop-text-test.false c.as_slice.ensures.value c.loop-text.invariant.words)
    c.answer_words.ensures.answer

pub returns-clause-number : goal.returns-clause-number
returns-clause-number g c =
    let P : List (List ℕ) → Type 0 = λ ws. IfOk c.answer_words.result (λ answer. answer.number ≡ exit_number (line ws) answer.status) in
    subst P (words-all c.args.texts.now c.loop-text.words.items c.as_slice.result.now c.loop-text.text-index c.loop-text-test.false c.as_slice.ensures.value c.loop-text.invariant.words)
    c.answer_words.ensures.number

use Rattle.std.proofs.Common.{◌≡◌, ℕ, vec_len, ◌/◌, Some, ap, subst}
use Rattle.fast_run.specs.Answer.{IsAnswer}
use Rattle.fast_jobs.specs.Call.{reading_of, writing_of}
use Rattle.fast_jobs.proofs.Jobs.{moving-silent}
use Rattle.fast_jobs.proofs.Outcomes.{silent-talked}
use Rattle.fast_run.proofs.Answers.{answer-ran, answer-refused}
use Rattle.fast_run.proofs.answer.answer_in_threads.Goals as goal

pub run_in_threads-requires-clause-no_talk : goal.run_in_threads-requires-clause-no_talk
run_in_threads-requires-clause-no_talk g c = λ κs lives.
    let asks = c.in-Ok.ensures.asks in
    moving-silent c.args.line.now (c.len.result / 3) asks.contents c.in-Ok.job c.requires.moves asks.same

pub returns-in-Ok-clause-answer : goal.returns-in-Ok-clause-answer
returns-in-Ok-clause-answer g c = λ hearing unheard.
    let line = c.args.line.now in
    let reading = reading_of g.F.Files.told g.F.Files.faults c.args.files.now c.open.new.files in
    let writing = writing_of g.K.Sink.written g.K.Sink.faults c.args.sink.now c.run_in_threads.new.sink in
    let asks = c.in-Ok.ensures.asks in
    let silent = moving-silent line (c.len.result / 3) asks.contents c.in-Ok.job c.requires.moves asks.same in
    let sets : c.len.result / 3 ≡ vec_len c.args.devices / 3 = ap (λ (n : ℕ). n / 3) c.len.ensures in
    subst (λ (n : ℕ). IsAnswer (Some line) n reading hearing writing c.run_in_threads.result) sets
    (answer-ran line (c.len.result / 3) reading hearing writing c.in-Ok.job c.run_in_threads.result asks
    (silent-talked c.in-Ok.job hearing writing c.run_in_threads.result silent unheard c.run_in_threads.ensures.ends))

pub returns-in-Err-clause-answer : goal.returns-in-Err-clause-answer
returns-in-Err-clause-answer g c = λ hearing unheard.
    answer-refused c.args.line.now (c.len.result / 3) (vec_len c.args.devices / 3) (reading_of g.F.Files.told g.F.Files.faults c.args.files.now c.open.new.files) hearing
    (writing_of g.K.Sink.written g.K.Sink.faults c.args.sink.now c.tell.new.sink) c.in-Err.refusal c.tell.result (ap (λ (n : ℕ). n / 3) c.len.ensures) c.tell.ensures.same c.in-Err.ensures.closes unheard
    c.tell.ensures.line

use Rattle.std.proofs.Common.{vec_len, ◌/◌, map}
use Rattle.fast_cli.specs.Line.{line}
use Rattle.fast_jobs.specs.Call.{hearing_of, reading_of, writing_of}
use Rattle.fast_run.proofs.Settling.{answer-complete, answer-settled}
use Rattle.fast_run.proofs.answer.fast_main.Goals as goal

pub returns-clause-settled : goal.returns-clause-settled
returns-clause-settled g c =
    answer-settled (line (map (λ word. word.now) c.args.words.now)) (vec_len c.args.devices / 3)
    (reading_of g.F.Files.told g.F.Files.faults c.args.files.now c.answer_or_usage.new.files)
    (hearing_of g.S.Source.heard g.S.Source.faults c.args.source.now c.answer_or_usage.new.source)
    (writing_of g.K.Sink.written g.K.Sink.faults c.args.sink.now c.answer_or_usage.new.sink) c.answer_or_usage.result.status c.answer_or_usage.ensures.answer

pub returns-clause-complete : goal.returns-clause-complete
returns-clause-complete g c =
    answer-complete (line (map (λ word. word.now) c.args.words.now)) (vec_len c.args.devices / 3)
    (reading_of g.F.Files.told g.F.Files.faults c.args.files.now c.answer_or_usage.new.files)
    (hearing_of g.S.Source.heard g.S.Source.faults c.args.source.now c.answer_or_usage.new.source)
    (writing_of g.K.Sink.written g.K.Sink.faults c.args.sink.now c.answer_or_usage.new.sink) c.answer_or_usage.result.status c.answer_or_usage.ensures.answer

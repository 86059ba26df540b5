use Rattle.std.proofs.Common.{◌≡◌, ℕ, vec_len, ◌/◌, false, [], Some, Ok, refl, ap, sym, ◌∙◌, subst}
use Rattle.fast_jobs.specs.declared.job.Job.{Job}
use Rattle.fast_jobs.specs.Ending.{Ends, HasTalked}
use Rattle.fast_run.specs.Answer.{IsAnswer}
use Rattle.fast_jobs.specs.Call.{hearing_of, reading_of, writing_of}
use Rattle.fast_run.proofs.Answers.{answer-ran, answer-refused}
use Rattle.fast_run.proofs.Settling.{answer-complete, answer-settled}
use Rattle.fast_jobs.specs.Job.{is_talk}
use Rattle.fast_jobs.proofs.Jobs.{still-single}
use Rattle.fast_jobs.proofs.Outcomes.{silent-talked}
use Rattle.fast_run.proofs.answer.fast_still.Goals as goal

pub returns-in-Ok-Single-clause-answer : goal.returns-in-Ok-Single-clause-answer
returns-in-Ok-Single-clause-answer g c =
    let line = c.args.line.now in
    let reading = reading_of g.F.Files.told g.F.Files.faults c.args.files.now c.open.new.files in
    let writing = writing_of g.K.Sink.written g.K.Sink.faults c.args.sink.now c.run.new.sink in
    let sets : c.len.result / 3 ≡ vec_len c.args.devices / 3 = ap (λ (n : ℕ). n / 3) c.len.ensures in
    let hearing = hearing_of g.S.Source.heard g.S.Source.faults c.args.source.now c.args.source.now in
    let ends : Ends c.in-Ok-Single.field-0 [] writing c.run.result = subst (λ (job : Job). Ends job [] writing c.run.result) (sym c.in-Ok-Single.field-0-is) c.run.ensures.ends in
    let silent : is_talk c.in-Ok-Single.field-0 ≡ false = ap is_talk c.in-Ok-Single.field-0-is in
    let talked : HasTalked c.in-Ok-Single.field-0 hearing writing c.run.result = silent-talked c.in-Ok-Single.field-0 hearing writing c.run.result silent (record { same = refl; quiet = refl }) ends in
    subst (λ (n : ℕ). IsAnswer (Some line) n reading hearing writing c.run.result) sets
    (answer-ran line (c.len.result / 3) reading hearing writing c.in-Ok-Single.field-0 c.run.result c.in-Ok-Single.ensures.asks talked)

pub returns-in-Ok-Single-clause-settled : goal.returns-in-Ok-Single-clause-settled
returns-in-Ok-Single-clause-settled g c =
    answer-settled (Some c.args.line.now) (vec_len c.args.devices / 3) (reading_of g.F.Files.told g.F.Files.faults c.args.files.now c.open.new.files) (hearing_of g.S.Source.heard g.S.Source.faults c.args.source.now c.args.source.now)
    (writing_of g.K.Sink.written g.K.Sink.faults c.args.sink.now c.run.new.sink) c.run.result (returns-in-Ok-Single-clause-answer g c)

pub returns-in-Ok-Single-clause-complete : goal.returns-in-Ok-Single-clause-complete
returns-in-Ok-Single-clause-complete g c =
    answer-complete (Some c.args.line.now) (vec_len c.args.devices / 3) (reading_of g.F.Files.told g.F.Files.faults c.args.files.now c.open.new.files) (hearing_of g.S.Source.heard g.S.Source.faults c.args.source.now c.args.source.now)
    (writing_of g.K.Sink.written g.K.Sink.faults c.args.sink.now c.run.new.sink) c.run.result (returns-in-Ok-Single-clause-answer g c)

pub returns-in-Ok-Gdb-clause-answer : goal.returns-in-Ok-Gdb-clause-answer
returns-in-Ok-Gdb-clause-answer g c =
    let line = c.args.line.now in
    let reading = reading_of g.F.Files.told g.F.Files.faults c.args.files.now c.open.new.files in
    let hearing = hearing_of g.S.Source.heard g.S.Source.faults c.args.source.now c.run_gdb.new.source in
    let writing = writing_of g.K.Sink.written g.K.Sink.faults c.args.sink.now c.run_gdb.new.sink in
    let sets : c.len.result / 3 ≡ vec_len c.args.devices / 3 = ap (λ (n : ℕ). n / 3) c.len.ensures in
    let talked : HasTalked c.in-Ok-Gdb.field-0 hearing writing c.run_gdb.result = subst (λ (job : Job). HasTalked job hearing writing c.run_gdb.result) (sym c.in-Ok-Gdb.field-0-is) c.run_gdb.ensures.talked in
    subst (λ (n : ℕ). IsAnswer (Some line) n reading hearing writing c.run_gdb.result) sets
    (answer-ran line (c.len.result / 3) reading hearing writing c.in-Ok-Gdb.field-0 c.run_gdb.result c.in-Ok-Gdb.ensures.asks talked)

pub returns-in-Ok-Gdb-clause-settled : goal.returns-in-Ok-Gdb-clause-settled
returns-in-Ok-Gdb-clause-settled g c =
    answer-settled (Some c.args.line.now) (vec_len c.args.devices / 3) (reading_of g.F.Files.told g.F.Files.faults c.args.files.now c.open.new.files)
    (hearing_of g.S.Source.heard g.S.Source.faults c.args.source.now c.run_gdb.new.source)
    (writing_of g.K.Sink.written g.K.Sink.faults c.args.sink.now c.run_gdb.new.sink) c.run_gdb.result (returns-in-Ok-Gdb-clause-answer g c)

pub returns-in-Ok-Gdb-clause-complete : goal.returns-in-Ok-Gdb-clause-complete
returns-in-Ok-Gdb-clause-complete g c =
    answer-complete (Some c.args.line.now) (vec_len c.args.devices / 3) (reading_of g.F.Files.told g.F.Files.faults c.args.files.now c.open.new.files)
    (hearing_of g.S.Source.heard g.S.Source.faults c.args.source.now c.run_gdb.new.source)
    (writing_of g.K.Sink.written g.K.Sink.faults c.args.sink.now c.run_gdb.new.sink) c.run_gdb.result (returns-in-Ok-Gdb-clause-answer g c)

pub returns-in-Err-clause-answer : goal.returns-in-Err-clause-answer
returns-in-Err-clause-answer g c =
    answer-refused c.args.line.now (c.len.result / 3) (vec_len c.args.devices / 3) (reading_of g.F.Files.told g.F.Files.faults c.args.files.now c.open.new.files) (hearing_of g.S.Source.heard g.S.Source.faults c.args.source.now c.args.source.now)
    (writing_of g.K.Sink.written g.K.Sink.faults c.args.sink.now c.tell.new.sink) c.in-Err.refusal c.tell.result (ap (λ (n : ℕ). n / 3) c.len.ensures) c.tell.ensures.same c.in-Err.ensures.closes (record { same = refl; quiet = refl }) c.tell.ensures.line

pub returns-in-Err-clause-settled : goal.returns-in-Err-clause-settled
returns-in-Err-clause-settled g c =
    answer-settled (Some c.args.line.now) (vec_len c.args.devices / 3) (reading_of g.F.Files.told g.F.Files.faults c.args.files.now c.open.new.files) (hearing_of g.S.Source.heard g.S.Source.faults c.args.source.now c.args.source.now)
    (writing_of g.K.Sink.written g.K.Sink.faults c.args.sink.now c.tell.new.sink) c.tell.result (returns-in-Err-clause-answer g c)

pub returns-in-Err-clause-complete : goal.returns-in-Err-clause-complete
returns-in-Err-clause-complete g c =
    answer-complete (Some c.args.line.now) (vec_len c.args.devices / 3) (reading_of g.F.Files.told g.F.Files.faults c.args.files.now c.open.new.files) (hearing_of g.S.Source.heard g.S.Source.faults c.args.source.now c.args.source.now)
    (writing_of g.K.Sink.written g.K.Sink.faults c.args.sink.now c.tell.new.sink) c.tell.result (returns-in-Err-clause-answer g c)

pub unreachable-requires : goal.unreachable-requires
unreachable-requires g c =
    let asks = c.in-Ok-Sweep.ensures.asks in
    still-single c.args.line.now (c.len.result / 3) asks.contents c.in-Ok-Sweep.field-0-0 c.requires.still (asks.same ∙ ap Ok c.in-Ok-Sweep.field-0-is)

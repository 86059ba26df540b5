use Rattle.std.proofs.Common.{◌≡◌, ◌≢◌, List, refl, ◌∙◌, subst}
use Rattle.std.proofs.lemmas.Result.{err_from_is_err_and}
use Rattle.report_text.specs.declared.status.Status.TheVariants.{Memory}
use Rattle.fast_jobs.specs.declared.files.NamedFile.{NamedFile}
use Rattle.fast_jobs.specs.Opening.{Closes, Starved}
use Rattle.fast_jobs.specs.Call.{reading_of}
use Rattle.fast_jobs.specs.Files.{files_of}
use Rattle.fast_jobs.specs.Reading.{AreRead, StopsIn}
use Rattle.fast_jobs.proofs.Outcomes.{closes-stopped, job-asks, job-closes}
use Rattle.fast_jobs.proofs.Readings.{if-err-through, read-within}
use Rattle.fast_jobs.proofs.opening.open.Goals as goal

pub returns-in_err-named-clause-closes : goal.returns-in_err-named-clause-closes
returns-in_err-named-clause-closes g c =
    let reading = reading_of g.F.Files.told g.F.Files.faults c.args.files.now c.args.files.now in
    if-err-through (Closes c.args.line.now c.args.sets reading) c.from_residual.result Memory
    (err_from_is_err_and c.from_residual.result c.from_residual.ensures.1) (Starved refl)

pub returns-in_err-contents-clause-closes : goal.returns-in_err-contents-clause-closes
returns-in_err-contents-clause-closes g c =
    let status = c.in_err-contents.field-0.0 in
    let line = c.args.line.now in
    let reading = reading_of g.F.Files.told g.F.Files.faults c.args.files.now c.read_files.new.files in
    let files : c.as_slice.result.now ≡ files_of line = c.as_slice.ensures.value ∙ c.in_ok-named.ensures.files in
    let P : List NamedFile → Type 0 = λ named. status ≢ Memory → StopsIn reading named status in
    if-err-through (Closes line c.args.sets reading) c.from_residual-in_err-contents.result status (err_from_is_err_and c.from_residual-in_err-contents.result c.from_residual-in_err-contents.ensures.1)
    (closes-stopped line c.args.sets reading status (subst P files c.in_err-contents.ensures.stopped))

pub job_of-requires-clause-within : goal.job_of-requires-clause-within
job_of-requires-clause-within g c =
    let told = g.F.Files.told c.args.files.now in
    let files : c.as_slice.result.now ≡ files_of c.args.line.now = c.as_slice.ensures.value ∙ c.in_ok-named.ensures.files in
    let P : List NamedFile → Type 0 = λ named. AreRead told named c.in_ok-contents.contents.items in
    read-within told (files_of c.args.line.now) c.in_ok-contents.contents.items (subst P files c.in_ok-contents.ensures.read)

pub returns-clause-closes : goal.returns-clause-closes
returns-clause-closes g c =
    let line = c.args.line.now in
    let told = g.F.Files.told c.args.files.now in
    let contents = c.in_ok-contents.contents.items in
    let files : c.as_slice.result.now ≡ files_of line = c.as_slice.ensures.value ∙ c.in_ok-named.ensures.files in
    let P : List NamedFile → Type 0 = λ named. AreRead told named contents in
    job-closes line c.args.sets (reading_of g.F.Files.told g.F.Files.faults c.args.files.now c.read_files.new.files) contents c.job_of.result (subst P files c.in_ok-contents.ensures.read)
    (λ none. c.in_ok-contents.ensures.unread (files ∙ none)) c.job_of.ensures.job

pub returns-clause-asks : goal.returns-clause-asks
returns-clause-asks g c =
    let line = c.args.line.now in
    let told = g.F.Files.told c.args.files.now in
    let contents = c.in_ok-contents.contents.items in
    let files : c.as_slice.result.now ≡ files_of line = c.as_slice.ensures.value ∙ c.in_ok-named.ensures.files in
    let P : List NamedFile → Type 0 = λ named. AreRead told named contents in
    job-asks line c.args.sets (reading_of g.F.Files.told g.F.Files.faults c.args.files.now c.read_files.new.files) contents c.job_of.result (subst P files c.in_ok-contents.ensures.read)
    (λ none. c.in_ok-contents.ensures.unread (files ∙ none)) c.job_of.ensures.job

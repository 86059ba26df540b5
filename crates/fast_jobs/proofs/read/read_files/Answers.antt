use Rattle.std.proofs.Common.{◌≡◌, ◌≢◌, ◌++◌, ◌∷◌, [], List, ℕ, Option, take, ◌+◌, refl, ap, sym, ◌∙◌, subst, arith}
use Rattle.std.proofs.lemmas.Result.{err_from_is_err_and}
use Rattle.fsim_ports.specs.Files.{Names}
use Rattle.report_text.specs.declared.status.Status.TheVariants.{Memory}
use Rattle.fast_jobs.specs.Call.{reading_of}
use Rattle.fast_jobs.specs.Reading.{AreRead, IsRead, StopsIn}
use Rattle.fast_jobs.proofs.Readings.{if-err-through, read-all, read-next, stops-next}
use Rattle.fast_jobs.proofs.read.read_files.Goals as goal

pub returns-in_err-bytes-clause-told : goal.returns-in_err-bytes-clause-told
returns-in_err-bytes-clause-told g c = c.in_err-bytes.ensures.told ∙ c.loop-file.invariant.told

pub returns-in_err-bytes-clause-stopped : goal.returns-in_err-bytes-clause-stopped
returns-in_err-bytes-clause-stopped g c =
    let status = c.in_err-bytes.field-0.0 in
    if-err-through (λ s. s ≢ Memory → StopsIn (reading_of g.F.Files.told g.F.Files.faults c.args.files.now c.load.new.files) c.args.named.now s)
    c.from_residual.result status (err_from_is_err_and c.from_residual.result c.from_residual.ensures.1)
    (λ other. stops-next (g.F.Files.told c.args.files.now) (g.F.Files.told c.loop-file.files) (g.F.Files.faults c.args.files.now) (g.F.Files.faults c.loop-file.files)
    (g.F.Files.faults c.load.new.files) c.args.named.now c.loop-file.file-index c.file-item.result c.loop-file.contents.items status c.loop-file-test.true c.file-item.is
    c.loop-file.invariant.read c.loop-file.invariant.told c.loop-file.invariant.count c.in_err-bytes.ensures.loaded)

pub returns-in_err-push-clause-told : goal.returns-in_err-push-clause-told
returns-in_err-push-clause-told g c =
    c.in_ok-bytes.ensures.told ∙ c.loop-file.invariant.told

pub returns-in_err-push-clause-stopped : goal.returns-in_err-push-clause-stopped
returns-in_err-push-clause-stopped g c =
    let result = c.from_residual-in_err-push.result in
    if-err-through (λ s. s ≢ Memory → StopsIn (reading_of g.F.Files.told g.F.Files.faults
    c.args.files.now c.load.new.files) c.args.named.now s)
    result Memory (err_from_is_err_and result c.from_residual-in_err-push.ensures.1)
    (λ other. absurd (other refl))

pub loop-file-preserved : goal.loop-file-preserved
loop-file-preserved g c =
    let told = g.F.Files.told c.args.files.now in
    let file = c.file-item.result in
    let bytes = c.in_ok-bytes.bytes.items in
    let P : Option Names → Type 0 = λ t. IsRead t file bytes in
    let one : P told = subst P c.loop-file.invariant.told c.in_ok-bytes.ensures.loaded in
    let pushed : c.push.new.self.items ≡ c.loop-file.contents.items ++ c.new.result ∷ [] = c.in_ok-push.ensures.items in
    let items : c.push.new.self.items ≡ c.loop-file.contents.items ++ bytes ∷ [] = pushed ∙ ap (λ (bs : List ℕ). c.loop-file.contents.items ++ bs ∷ []) c.new.ensures.same in
    record {
      told = c.in_ok-bytes.ensures.told ∙ c.loop-file.invariant.told;
      count = omega (arith, c.in_ok-bytes.ensures.count, c.loop-file.invariant.count);
      unread = λ none. absurd (omega (arith, none));
      read = subst (λ (all : List (List ℕ)). AreRead told (take (c.loop-file.file-index + 1) c.args.named.now) all) (sym items)
          (read-next told c.args.named.now c.loop-file.file-index file c.loop-file.contents.items bytes c.loop-file-test.true c.file-item.is c.loop-file.invariant.read one);
    }

pub returns-clause-read : goal.returns-clause-read
returns-clause-read g c =
    read-all (g.F.Files.told c.args.files.now) c.args.named.now c.loop-file.file-index c.loop-file.contents.items (omega (arith, c.loop-file-test.false)) c.loop-file.invariant.read

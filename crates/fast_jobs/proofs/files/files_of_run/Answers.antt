use Rattle.std.proofs.Common.{option_copied}
use Rattle.fast_jobs.specs.Files.{file_if_named}
use Rattle.fast_jobs.proofs.Jobs.{named-next}
use Rattle.fast_jobs.proofs.files.files_of_run.Goals as goal

pub loop-row-preserved : goal.loop-row-preserved
loop-row-preserved c =
    named-next (λ row. file_if_named row.0 (option_copied row.1)) c.args.rows.now c.loop-row.row-index c.row-item.result c.push.new.files.items c.loop-row.files.items
    c.push_if_named.new.files.items c.loop-row-test.true c.row-item.is c.in_ok-push_if_named.ensures.pushed c.loop-row.invariant

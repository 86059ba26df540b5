use Rattle.std.proofs.Common.{sym, ◌∙◌}
use Rattle.std.specs.Vec.Iter.{into_iter_items}
use Rattle.fast_jobs.proofs.Sweeps.{none-at, none-behind}
use Rattle.fast_jobs.proofs.sweep_files.next_file.Goals as goal

pub returns-in-None-clause-bytes : goal.returns-in-None-clause-bytes
returns-in-None-clause-bytes c =
    let old = c.args.contents.now in
    c.new-in-None.ensures.same ∙ c.new.ensures.items ∙ sym (none-at (into_iter_items old) (sym old.rest.ok.0 ∙ c.in-None.ensures.cases.0))

pub returns-in-None-clause-left : goal.returns-in-None-clause-left
returns-in-None-clause-left c =
    let old = c.args.contents.now in
    let new = c.next.new.self in
    none-behind (into_iter_items old) (into_iter_items new) (sym old.rest.ok.0 ∙ c.in-None.ensures.cases.0) (sym new.rest.ok.0 ∙ c.in-None.ensures.cases.1)

use Rattle.cycle_watch.proofs.Writing.{line_broken, tells_line}
use Rattle.std.proofs.lemmas.Result.{err_from_is_err_and}
use Rattle.cycle_watch.proofs.timed_text.TimedText.tell.Goals as goal

pub returns-in_err-tell_time-clause-told : goal.returns-in_err-tell_time-clause-told
returns-in_err-tell_time-clause-told g c =
    let left = err_from_is_err_and c.from_residual.result c.from_residual.ensures.1 in
    rw (left.1) (line_broken c.args.cycle c.args.line.now _ _ c.in_err-tell_time.ensures.put)

pub returns-clause-told : goal.returns-clause-told
returns-clause-told g c = tells_line c.args.cycle c.args.line.now _ _ _ c.put.result c.in_ok-tell_time.ensures.put c.put.ensures.put c.in_ok-tell_time.ensures.at c.put.ensures.at

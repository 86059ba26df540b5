use Rattle.std.proofs.lemmas.Result.{err_from_is_err_and}
use Rattle.fast_jobs.proofs.early.play_inorder.Goals as goal

pub returns-in_err-put-clause-put : goal.returns-in_err-put-clause-put
returns-in_err-put-clause-put g c = λ s x sound reached h.
    let left = err_from_is_err_and c.from_residual.result c.from_residual.ensures.1 in
    rw (left.1) (c.in_err-put.ensures.put s x sound reached h)

pub returns-clause-ended : goal.returns-clause-ended
returns-clause-ended g c = λ s x sound reached h.
    let at = c.in_ok-put.ensures.played s x sound reached h in
    c.to_end.ensures.ended s at.split sound at.reached at.stands

pub returns-clause-put : goal.returns-clause-put
returns-clause-put g c = λ s x sound reached h. c.in_ok-put.ensures.put s x sound reached h

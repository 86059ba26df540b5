use Rattle.gdb_session.proofs.play.put_stop.Goals as goal

pub returns-in-Ended-clause-written : goal.returns-in-Ended-clause-written
returns-in-Ended-clause-written g c = rw c.in-Ended.is c.put_content-in-Ended.ensures.written

pub returns-in-Begin-clause-written : goal.returns-in-Begin-clause-written
returns-in-Begin-clause-written g c = rw c.in-Begin.is c.put_content-in-Begin.ensures.written

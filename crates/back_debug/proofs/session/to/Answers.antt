use Rattle.back_debug.proofs.Sessions.{to_first, to_last}
use Rattle.back_debug.proofs.session.to.Goals as goal

pub returns-in-Reached : goal.returns-in-Reached
returns-in-Reached g c = record { comes = λ s h. to_first s c.args.addr c.args.debugger.now c.run_to.new.self (c.in-Reached.ensures.run s h) }

pub returns-in-Ended : goal.returns-in-Ended
returns-in-Ended g c = record { comes = λ s h. to_last s c.args.addr c.args.debugger.now c.run_to.new.self c.in-Ended.end (c.in-Ended.ensures.run s h) }

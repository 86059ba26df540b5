use Rattle.std.proofs.Common.{arith}
use Rattle.mono_model.proofs.Sound.{setup_facts}
use Rattle.func_model.proofs.Walking.{opening_stands}
use Rattle.func_model.proofs.walk.Walk.new.Goals as goal

pub overflow_add-ahead : goal.overflow_add-ahead
overflow_add-ahead g c = let facts = setup_facts c.args.setup.now c.requires.sound in record { fits = omega (arith, facts.ring, facts.window) }

pub overflow_add-ahead-2 : goal.overflow_add-ahead-2
overflow_add-ahead-2 g c = let facts = setup_facts c.args.setup.now c.requires.sound in record { fits = omega (arith, facts.ring, facts.window) }

pub new-requires-clause-ahead : goal.new-requires-clause-ahead
new-requires-clause-ahead g c = let facts = setup_facts c.args.setup.now c.requires.sound in omega (arith, facts.ring, facts.window)

pub returns-clause-stands : goal.returns-clause-stands
returns-clause-stands g c = opening_stands c.args.setup.now c.in_ok-contents.contents c.in_ok-journal.journal c.in_ok-contents.ensures.opened c.in_ok-contents.ensures.room c.in_ok-journal.ensures.opening

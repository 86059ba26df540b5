use Rattle.std.proofs.Common.{arith}
use Rattle.mono_model.proofs.Sound.{setup_facts}
use Rattle.func_model.proofs.Executing.{start_stands}
use Rattle.func_model.proofs.told.ToldRun.new.Goals as goal

pub returns-clause-stands : goal.returns-clause-stands
returns-clause-stands g c =
    let facts = setup_facts c.args.setup.now c.requires.sound in
    start_stands c.args.setup.now c.in_ok-contents.contents facts.some_cycle (omega (arith, facts.cycles)) c.in_ok-contents.ensures.opened c.in_ok-contents.ensures.room

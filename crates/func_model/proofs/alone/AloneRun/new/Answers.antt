use Rattle.std.proofs.Common.{arith}
use Rattle.mono_model.proofs.Sound.{setup_facts}
use Rattle.func_model.proofs.Pieces.{opening_alone}
use Rattle.func_model.proofs.alone.AloneRun.new.Goals as goal

pub returns : goal.returns
returns g c =
    let s = c.args.setup.now in
    let facts = setup_facts s c.requires.sound in
    let contents = c.in_ok-contents in
    record { stands = opening_alone s contents.contents facts.some_cycle (omega (arith, facts.cycles)) contents.ensures.opened (omega (arith, contents.ensures.room)) }

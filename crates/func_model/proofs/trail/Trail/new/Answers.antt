use Rattle.std.proofs.Common.{arith, subst, sym}
use Rattle.circular_buffer.specs.Buffer.{Buffer}
use Rattle.mono_model.specs.declared.final_state.End.TheVariants as end
use Rattle.mono_model.proofs.Sound.{setup_facts}
use Rattle.func_model.specs.declared.performed.PastStep.{PastStep}
use Rattle.func_model.specs.Trail.{TrailStandsFor}
use Rattle.func_model.proofs.Trails.{opening_stands}
use Rattle.func_model.proofs.trail.Trail.new.Goals as goal

pub returns-clause-stands : goal.returns-clause-stands
returns-clause-stands g c =
    let facts = setup_facts c.args.setup.now c.requires.sound in
    subst (λ (b : Buffer PastStep). TrailStandsFor c.args.setup.now (record { contents = c.in_ok-contents.contents; steps = b; at = 0; floor = 0; end = end.Running; cycles = c.args.setup.now.cycles; limit = c.args.setup.now.output }))
    (sym c.in-Ok.ensures)
    (opening_stands c.args.setup.now c.in_ok-contents.contents c.args.history facts.some_cycle (omega (arith, facts.cycles)) c.in_ok-contents.ensures.opened c.in_ok-contents.ensures.room)

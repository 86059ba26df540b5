use Rattle.std.proofs.Common.{refl, sym, ◌∙◌}
use Rattle.time_model.specs.Turning.{placed}
use Rattle.time_model.proofs.Sides.{turned_due}
use Rattle.time_model.proofs.state.TimingState.turn_due.Goals as goal

pub returns-else-is_try-clause-due : goal.returns-else-is_try-clause-due
returns-else-is_try-clause-due g c = λ s k allowed h.
    turned_due g.P.Pipeline.piped g.met.P.Pipeline.laws s k (placed c.args.next.now c.args.self.now) h (placed c.turn.new.next (record c.args.self.now { pipeline = c.turn.new.self })) c.turn.result
    allowed c.requires.goes c.requires.free (sym c.is_try.ensures.tries ∙ c.if-is_try.false) c.turn.ensures.made refl

use Rattle.std.proofs.Common.{rules, sym, ◌∙◌}
use Rattle.time_model.specs.Standing.{wants_in}
use Rattle.time_model.proofs.Sides.{waiting_step}
use Rattle.time_model.proofs.state.TimingState.wants.Goals as goal

pub returns-then-is_try-clause-wants : goal.returns-then-is_try-clause-wants
unfolding wants_in
returns-then-is_try-clause-wants g c = search rules

pub returns-then-is_try-clause-stays : goal.returns-then-is_try-clause-stays
returns-then-is_try-clause-stays g c = λ is s k allowed h.
    waiting_step g.P.Pipeline.piped g.met.P.Pipeline.laws s k c.args.self.now h (sym (returns-then-is_try-clause-wants g c) ∙ is)

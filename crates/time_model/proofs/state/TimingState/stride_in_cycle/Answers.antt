use Rattle.time_model.specs.Running.{IsInner}
use Rattle.time_model.specs.Turns.{is_ending}
use Rattle.std.proofs.Common.{rules}
use Rattle.time_model.proofs.Running.{step_told, step_untold}
use Rattle.time_model.proofs.Striding.{HasStrode, inner_strode, inner_standing}
use Rattle.time_model.proofs.state.TimingState.stride_in_cycle.Given as given
use Rattle.time_model.proofs.state.TimingState.stride_in_cycle.Goals as goal

pub returns-then-is_some-clause-told : goal.returns-then-is_some-clause-told
returns-then-is_some-clause-told g c =
    step_told (IsInner g.P.Pipeline.piped) c.args.self.now c.tell_owed.new.self c.tell_owed.result (is_ending (g.P.Pipeline.piped.seen c.args.self.now.at)) (record { made = c.tell_owed.ensures.made; inner = c.requires.inner })

pub returns-then-is_some-clause-untold : goal.returns-then-is_some-clause-untold
returns-then-is_some-clause-untold g c =
    step_untold (IsInner g.P.Pipeline.piped) c.args.self.now c.tell_owed.new.self c.tell_owed.result (is_ending (g.P.Pipeline.piped.seen c.args.self.now.at)) (record { made = c.tell_owed.ensures.made; inner = c.requires.inner })

made : (g : given.Over) (c : goal.After-tell g) → HasStrode (IsInner g.P.Pipeline.piped) c.args.self.now (record { pipeline = c.phases-orders.new.self; at = c.phases-orders.new.next; telling = c.tell.new.self }) c.tell.result
made g c =
    inner_strode g.P.Pipeline.piped g.met.P.Pipeline.laws c.args.self.now.telling c.tell.new.self c.tell.result c.args.self.now.pipeline c.args.self.now.at c.phases-orders.new.self c.phases-orders.new.next c.phases-orders.result
    (search rules) c.phases-orders.ensures.strode c.tell.ensures.told c.tell.ensures.behind

pub returns-clause-told : goal.returns-clause-told
returns-clause-told g c = (made g c).ordered

pub returns-clause-untold : goal.returns-clause-untold
returns-clause-untold g c = (made g c).silent

pub returns-clause-standing : goal.returns-clause-standing
returns-clause-standing g c =
    inner_standing g.P.Pipeline.piped g.met.P.Pipeline.laws c.args.self.now (record { pipeline = c.phases-orders.new.self; at = c.phases-orders.new.next; telling = c.tell.new.self }) c.tell.result c.requires.standing
    (made g c)

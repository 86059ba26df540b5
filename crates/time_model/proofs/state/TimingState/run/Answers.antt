use Rattle.std.proofs.Common.{◌-◌, true, false, sym, subst, arith}
use Rattle.time_model.specs.Running.{Steps}
use Rattle.time_model.specs.Standing.{IsStanding}
use Rattle.time_model.specs.Turns.{is_ending}
use Rattle.time_model.proofs.Running.{HasRun, run_start, run_strides, run_steps, run_ends, run_untold, silent_on, run_on}
use Rattle.time_model.proofs.state.TimingState.run.Given as given
use Rattle.time_model.proofs.state.TimingState.run.Goals as goal
use Rattle.time_model.proofs.state.TimingState.run.Goals.{then-left-gt0+in_default+else-ends_cycle, else-left-gt0, After-step}

pub loop-left-init : goal.loop-left-init
loop-left-init g c = run_start (Steps g.P.Pipeline.piped) (IsStanding g.P.Pipeline.piped) c.args.strides c.args.self.now c.requires.standing

pub returns-in-Some-clause-made : goal.returns-in-Some-clause-made
returns-in-Some-clause-made g c =
    run_on (Steps g.P.Pipeline.piped) c.loop-left.invariant.silent c.in-Some.ensures.told

pub loop-left-preserved-then-left-lt-PATIENT : goal.loop-left-preserved-then-left-lt-PATIENT
loop-left-preserved-then-left-lt-PATIENT g c =
    run_strides (Steps g.P.Pipeline.piped) (IsStanding g.P.Pipeline.piped) c.args.strides c.loop-left.left c.args.self.now c.loop-left.self c.pass_idle.new.self (omega (arith, c.if-left-gt0.true)) c.loop-left.invariant
    (silent_on (Steps g.P.Pipeline.piped) c.in_default.ensures.untold c.pass_idle.ensures.silent) c.pass_idle.ensures.standing

pub loop-left-preserved-else-left-lt-PATIENT : goal.loop-left-preserved-else-left-lt-PATIENT
loop-left-preserved-else-left-lt-PATIENT g c =
    run_strides (Steps g.P.Pipeline.piped) (IsStanding g.P.Pipeline.piped) c.args.strides c.loop-left.left c.args.self.now c.loop-left.self c.stride.new.self (omega (arith, c.if-left-gt0.true)) c.loop-left.invariant
    c.in_default.ensures.untold c.in_default.ensures.standing

-- the run before a step
before : (g : given.Over) (c : After-step g) → HasRun (Steps g.P.Pipeline.piped) (IsStanding g.P.Pipeline.piped) c.args.strides c.if-left-gt0.left c.args.self.now c.if-left-gt0.self
before g c =
    let steps = Steps g.P.Pipeline.piped in
    let stands = IsStanding g.P.Pipeline.piped in
    elim c.if-left-gt0.branch [
      | then-left-gt0+in_default+else-ends_cycle w ↦
          subst (λ left. HasRun steps stands c.args.strides left c.args.self.now c.if-left-gt0.self) (sym w.left-is)
          (subst (HasRun steps stands c.args.strides (c.loop-left.left - 1) c.args.self.now) (sym w.self-is)
          (run_strides steps stands c.args.strides c.loop-left.left c.args.self.now c.loop-left.self w.stride.new.self (omega (arith, w.if-left-gt0.true)) c.loop-left.invariant
          w.in_default.ensures.untold w.in_default.ensures.standing))
      | else-left-gt0 w ↦
          subst (λ left. HasRun steps stands c.args.strides left c.args.self.now c.if-left-gt0.self) (sym w.left-is)
          (subst (HasRun steps stands c.args.strides c.loop-left.left c.args.self.now) (sym w.self-is) c.loop-left.invariant)
    ]

pub returns-in-Some-step-clause-made : goal.returns-in-Some-step-clause-made
returns-in-Some-step-clause-made g c =
    run_ends (Steps g.P.Pipeline.piped) (IsStanding g.P.Pipeline.piped) c.args.strides c.if-left-gt0.left c.args.self.now c.if-left-gt0.self c.step.new.self c.in-Some-step.turn (before g (goal.at.returns-in-Some-step-clause-made g c).After-step)
    c.in-Some-step.ensures.made

pub returns-then-ends-clause-made : goal.returns-then-ends-clause-made
returns-then-ends-clause-made g c =
    run_untold (Steps g.P.Pipeline.piped) (IsStanding g.P.Pipeline.piped) c.args.strides c.if-left-gt0.left c.args.self.now c.if-left-gt0.self c.step.new.self true (is_ending (g.P.Pipeline.piped.seen c.if-left-gt0.self.at)) c.if-ends.ensures.ends
    (before g (goal.at.returns-then-ends-clause-made g c).After-step) c.in_default-step.ensures.made

pub returns-else-ends-clause-made : goal.returns-else-ends-clause-made
returns-else-ends-clause-made g c =
    run_untold (Steps g.P.Pipeline.piped) (IsStanding g.P.Pipeline.piped) c.args.strides c.if-left-gt0.left c.args.self.now c.if-left-gt0.self c.step.new.self false (is_ending (g.P.Pipeline.piped.seen c.if-left-gt0.self.at)) c.if-ends.ensures.ends
    (before g (goal.at.returns-else-ends-clause-made g c).After-step) c.in_default-step.ensures.made

pub loop-left-preserved : goal.loop-left-preserved
loop-left-preserved g c =
    run_steps (Steps g.P.Pipeline.piped) (IsStanding g.P.Pipeline.piped) c.args.strides c.if-left-gt0.left c.args.self.now c.if-left-gt0.self c.step.new.self (is_ending (g.P.Pipeline.piped.seen c.if-left-gt0.self.at))
    (omega (arith, c.if-left-eq0.false)) (before g (goal.at.loop-left-preserved g c).After-step) c.in_default-step.ensures.made c.in_default-step.ensures.standing

use Rattle.std.proofs.Common.{refl, sym, ◌∙◌, subst}
use Rattle.mono_model.specs.Split.{tick}
use Rattle.split_core.specs.InCycle.{IsOut}
use Rattle.split_core.specs.Plays.{Plays}
use Rattle.split_core.proofs.OnDemand.{plays_on, plays_event, plays_none, plays_standing}
use Rattle.split_core.proofs.Playing.{at_next_boundary}
use Rattle.split_core.proofs.Cycling.{rounds_play}
use Rattle.split_core.proofs.InCycle.{in_start, out_any, starts_there, hand_free, next_cycle}
use Rattle.split_core.proofs.state.SplitState.cycle_on.Goals as goal
use Rattle.split_core.proofs.state.SplitState.cycle_on.Goals.{then-is_clear, else-is_clear}

pub leave_cycle-requires : goal.leave_cycle-requires
leave_cycle-requires g c = record { standing = c.requires.standing; clear = c.is_clear.ensures.clear c.if-is_clear.true }

pub to_boundary-requires : goal.to_boundary-requires
to_boundary-requires g c =
    let timed = g.T.Timing.timed in
    let laws = g.met.T.Timing.laws in
    let went : Plays timed c.args.self.now c.if-is_clear.self = elim c.if-is_clear.branch [
      | then-is_clear w ↦ subst (Plays timed c.args.self.now) (sym w.self-is) w.leave_cycle.ensures.plays
      | else-is_clear w ↦ subst (Plays timed c.args.self.now) (sym w.self-is) (plays_event timed laws tick c.args.self.now w.tick.new.self w.tick.new.self w.tick.ensures.stepped (plays_none timed laws w.tick.new.self))
    ] in
    record { standing = plays_standing timed laws c.args.self.now c.if-is_clear.self c.requires.standing went }

pub returns : goal.returns
returns g c =
    let timed = g.T.Timing.timed in
    let laws = g.met.T.Timing.laws in
    let went : Plays timed c.args.self.now c.if-is_clear.self = elim c.if-is_clear.branch [
      | then-is_clear w ↦ subst (Plays timed c.args.self.now) (sym w.self-is) w.leave_cycle.ensures.plays
      | else-is_clear w ↦ subst (Plays timed c.args.self.now) (sym w.self-is) (plays_event timed laws tick c.args.self.now w.tick.new.self w.tick.new.self w.tick.ensures.stepped (plays_none timed laws w.tick.new.self))
    ] in
    record {
      plays = plays_on timed laws c.args.self.now c.if-is_clear.self c.to_boundary.new.self went (rounds_play timed laws c.if-is_clear.self c.to_boundary.new.self c.to_boundary.ensures.stands);
      next = λ s x sound reached h boundary goes.
          let starts = starts_there timed laws s sound x reached boundary goes in
          let here = in_start timed laws s sound x.steps starts x c.args.self.now reached h refl in
          let out : IsOut timed s x.steps c.if-is_clear.self = elim c.if-is_clear.branch [
            | then-is_clear w ↦ subst (IsOut timed s x.steps) (sym w.self-is) (w.leave_cycle.ensures.out s x.steps sound starts here)
            | else-is_clear w ↦ subst (IsOut timed s x.steps) (sym w.self-is)
                (out_any timed laws s sound x.steps starts c.args.self.now w.tick.new.self w.tick.ensures.stepped (h.hand ∙ hand_free timed laws s sound x reached boundary goes) here)
          ] in
          next_cycle timed laws s sound x reached boundary goes c.if-is_clear.self c.to_boundary.new.self out c.to_boundary.ensures.stands;
      boundary = at_next_boundary timed laws c.if-is_clear.self c.to_boundary.new.self (plays_standing timed laws c.args.self.now c.if-is_clear.self c.requires.standing went) c.to_boundary.ensures.stands;
    }

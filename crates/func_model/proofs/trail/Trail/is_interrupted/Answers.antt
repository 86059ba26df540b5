use Rattle.std.proofs.Common.{Bool, ◌&&◌, not, if◌then◌else◌, ap, sym, ◌∙◌}
use Rattle.mono_model.specs.Arch.{interrupted}
use Rattle.mono_model.specs.Final.{has_ended}
use Rattle.func_model.specs.History.{walk}
use Rattle.func_model.proofs.Seeing.{found_as}
use Rattle.func_model.proofs.trail.Trail.is_interrupted.Goals as goal

pub returns-then-is_pending : goal.returns-then-is_pending
returns-then-is_pending g c = record {
  due = λ s h.
      let a = walk s c.args.self.now.at in
      found_as s c.args.self.now c.timer_pending-is_pending.result h c.timer_pending-is_pending.ensures.pending
      ∙ ap (λ (b : Bool). if (b && not (has_ended c.args.self.now.end)) then interrupted a else a) c.if-is_pending.true
      ∙ ap (λ (b : Bool). if not b then interrupted a else a) (sym c.has_ended.ensures.ended);
}

pub returns-else-is_pending : goal.returns-else-is_pending
returns-else-is_pending g c = record {
  due = λ s h.
      let a = walk s c.args.self.now.at in
      found_as s c.args.self.now c.timer_pending-is_pending.result h c.timer_pending-is_pending.ensures.pending
      ∙ ap (λ (b : Bool). if (b && not (has_ended c.args.self.now.end)) then interrupted a else a) c.if-is_pending.false
      ∙ ap (λ (b : Bool). if b then interrupted a else a) (sym c.if-is_pending.false);
}

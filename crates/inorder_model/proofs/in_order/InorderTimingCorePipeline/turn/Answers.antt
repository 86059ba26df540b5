use Rattle.std.proofs.Common.{◌≡◌, ℕ, true, false, [], ◌∷◌, refl, ap, ◌∙◌}
use Rattle.rollback_cmds.specs.declared.order.Order.TheVariants.{Stop}
use Rattle.mono_model.specs.Demand.{is_try}
use Rattle.inorder_machine.specs.Demand.{seen_at}
use Rattle.inorder_side.specs.Turn.{timing_inorder_turn}
use Rattle.inorder_model.specs.declared.at.At.TheVariants.{Stopping, Halted, Trying}
use Rattle.inorder_model.specs.declared.at.At.{At}
use Rattle.inorder_model.specs.At.{at_in}
use Rattle.inorder_model.proofs.Turns.{turned_by, at_turned}
use Rattle.inorder_model.proofs.in_order.InorderTimingCorePipeline.turn.Goals as goal

pub returns-in-Stopping : goal.returns-in-Stopping
unfolding timing_inorder_turn
returns-in-Stopping c = record {
  made = at_turned Stopping c.args.next.now c.args.self.now c.args.self.now Halted _ c.in-Stopping.is (turned_by c.args.self.now Stopping c.args.self.now Halted _ (λ s l e h small.
      record { inorder = h; at = refl; orders = c.one.ensures.one ∙ ap (λ (n : ℕ). Stop n ∷ []) (c.to_commit.ensures.number s l.timing h.core) }));
}

pub returns-in-Halted : goal.returns-in-Halted
unfolding timing_inorder_turn
returns-in-Halted c = record {
  made = at_turned Halted c.args.next.now c.args.self.now c.args.self.now c.args.next.now _ c.in-Halted.is
      (turned_by c.args.self.now Halted c.args.self.now c.args.next.now _ (λ s l e h small. record { inorder = h; at = ap at_in c.in-Halted.is; orders = c.none-in-Halted.ensures.none }));
}

-- no try comes next
never : (at : At) → at ≡ Trying → is_try (seen_at (at_in at)) ≡ false → ⊥
never at is plain = let on : is_try (seen_at (at_in at)) ≡ true = ap (λ (a : At). is_try (seen_at (at_in a))) is in cc

pub returns-in-Trying : goal.returns-in-Trying
returns-in-Trying c = absurd (never c.args.next.now c.in-Trying.is c.requires.plain)

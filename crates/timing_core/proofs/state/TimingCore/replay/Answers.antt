use Rattle.std.proofs.Common.{◌≡◌, ℕ, ◌+◌, ◌%◌, ◌^◌, ◌∙◌, [], ◌∷◌, refl, ap, arith}
use Rattle.rollback_cmds.specs.declared.order.Order.TheVariants.{Time}
use Rattle.mono_model.specs.Machine as machine
use Rattle.timing_side.specs.Timing.{cut_to}
use Rattle.timing_core.specs.CoreStandsFor.{CoreStandsFor}
use Rattle.timing_core.proofs.Sums.{risen}
use Rattle.timing_core.proofs.Keeping.{keeps_counts}
use Rattle.timing_core.proofs.state.TimingCore.replay.Goals as goal

pub returns-clause-kept : goal.returns-clause-kept
unfolding cut_to
returns-clause-kept c = λ s t k small.
    let f : CoreStandsFor s (cut_to [] t) c.flush.new.self = c.flush.ensures.kept s t k (omega arith) in
    let count : (c.flush.new.self.counts.replays + 1) % 2 ^ 64 ≡ t.counts.replays + 1 =
    risen _ _ t.counts.replays 1 refl (ap (λ (n : machine.Counts). n.replays) f.counts) (omega arith) (omega arith) in
    keeps_counts s (cut_to [] t) c.flush.new.self f _ _ (λ i. record (f.counts i) { replays = count i })

pub returns-clause-order : goal.returns-clause-order
unfolding cut_to
returns-clause-order c = λ s t k small.
    let f : CoreStandsFor s (cut_to [] t) c.flush.new.self = c.flush.ensures.kept s t k (omega arith) in
    c.one.ensures.one
    ∙ ap (λ (n : ℕ). Time n c.flush.new.self.cycle ∷ []) f.to_commit
    ∙ ap (λ (n : ℕ). Time t.to_commit n ∷ []) f.cycle

use Rattle.std.proofs.Common.{◌≡◌, ◌+◌, ◌%◌, ◌^◌, ℕ, [], ◌∷◌, refl, false, true, ap, ◌∙◌, arith, sym, subst}
use Rattle.rollback_cmds.specs.declared.order.Order.TheVariants.{Interrupt}
use Rattle.timing_side.specs.Timing.{Phase, cut_to}
use Rattle.timing_side.specs.Interrupt.{is_pending}
use Rattle.mono_model.specs.Machine as machine
use Rattle.timing_core.specs.CoreStandsFor.{CoreStandsFor}
use Rattle.timing_core.proofs.Sums.{risen}
use Rattle.timing_core.proofs.Keeping.{keeps_counts, keeps_irq}
use Rattle.timing_core.proofs.Phases.{interrupts}
use Rattle.timing_core.proofs.state.TimingCore.interrupt.Goals as goal

pub returns-then-not-pending-clause-kept : goal.returns-then-not-pending-clause-kept
returns-then-not-pending-clause-kept c = λ s t k small.
    let off : is_pending t ≡ false = cc in
    let P : Phase → Type 0 = λ p. CoreStandsFor s p.timing c.args.self.now in
    subst P (sym (interrupts t false off)) k

pub returns-then-not-pending-clause-orders : goal.returns-then-not-pending-clause-orders
returns-then-not-pending-clause-orders c = λ s t k small.
    let off : is_pending t ≡ false = cc in
    c.none.ensures.none ∙ ap (λ (p : Phase). p.orders) (sym (interrupts t false off))

pub returns-clause-kept : goal.returns-clause-kept
unfolding cut_to
returns-clause-kept c = λ s t k small.
    let on : is_pending t ≡ true = cc in
    let f : CoreStandsFor s (cut_to [] t) c.flush.new.self = c.flush.ensures.kept s t k (omega arith) in
    let count : (c.flush.new.self.counts.interrupts + 1) % 2 ^ 64 ≡ t.counts.interrupts + 1 =
    risen _ _ t.counts.interrupts 1 refl (ap (λ (n : machine.Counts). n.interrupts) f.counts) (omega arith) (omega arith) in
    let off : CoreStandsFor s (record (cut_to [] t) { irq_on = false }) (record c.flush.new.self { irq = record c.flush.new.self.irq { on = false } }) =
    keeps_irq s (cut_to [] t) c.flush.new.self f false false c.flush.new.self.irq.cmp t.cmp refl f.cmp in
    subst (λ (p : Phase). CoreStandsFor s p.timing (record c.flush.new.self { irq = record c.flush.new.self.irq { on = false }; counts = record c.flush.new.self.counts { interrupts = (c.flush.new.self.counts.interrupts + 1) % 2 ^ 64 } })) (sym (interrupts t true on))
    (keeps_counts s (record (cut_to [] t) { irq_on = false }) _ off _ _ (λ i. record (f.counts i) { interrupts = count i }))

pub returns-clause-orders : goal.returns-clause-orders
unfolding cut_to
returns-clause-orders c = λ s t k small.
    let on : is_pending t ≡ true = cc in
    let f : CoreStandsFor s (cut_to [] t) c.flush.new.self = c.flush.ensures.kept s t k (omega arith) in
    c.one.ensures.one ∙ ap (λ (n : ℕ). Interrupt n ∷ []) f.to_commit ∙ ap (λ (p : Phase). p.orders) (sym (interrupts t true on))

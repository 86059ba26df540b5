use Rattle.std.proofs.Common.{◌≡◌, ◌≤◌, IfSome, ℕ, ◌+◌, ◌-◌, ◌%◌, ◌^◌, [], ◌∷◌, take, length, Option, List, refl, ap, sym, ◌∙◌, subst, length-take-le, arith}
use Rattle.reorder_buffer.specs.declared.slot.Slot.{Slot}
use Rattle.mono_model.specs.declared.setup.Setup.{Setup}
use Rattle.mono_model.specs.Machine as machine
use Rattle.rollback_cmds.specs.declared.order.Order.TheVariants.{Set}
use Rattle.timing_side.specs.Timing.{Timing, cut_to}
use Rattle.timing_side.specs.Complete.{completed_phase}
use Rattle.timing_core.specs.declared.complete.Redirect.{Redirect}
use Rattle.timing_core.specs.Small.{IsSmall}
use Rattle.timing_core.specs.CoreStandsFor.{CoreStandsFor}
use Rattle.timing_core.specs.Finishing.{completed_in}
use Rattle.timing_core.proofs.Sums.{risen}
use Rattle.timing_core.proofs.Keeping.{keeps_counts}
use Rattle.timing_core.proofs.state.TimingCore.redirect.Goals as goal

pub returns-in_default-clause-kept : goal.returns-in_default-clause-kept
returns-in_default-clause-kept c = λ s t small k count.
    subst (λ (r : Option Redirect). CoreStandsFor s (completed_phase (completed_in r c.args.self.now.flight.slots) t).timing c.args.self.now) (sym c.in_default.is) k

pub returns-in_default-clause-orders : goal.returns-in_default-clause-orders
returns-in_default-clause-orders c = λ s t small k count.
    c.none.ensures.none ∙ ap (λ (r : Option Redirect). (completed_phase (completed_in r c.args.self.now.flight.slots) t).orders) (sym c.in_default.is)

-- a flush of slots of which as many were there
cut_same : (t : Timing) (slots front : List Slot) → length slots ≡ length t.slots → cut_to front (record t { slots = slots }) ≡ cut_to front t
unfolding cut_to
cut_same t slots front count = λ i. record (cut_to front t) { counts = record t.counts { squashed = t.counts.squashed + (count i - length front) } }

-- the state behind the flush
flushed : (c : goal.After-one) (s : Setup) (t : Timing) → IsSmall t → CoreStandsFor s (record t { slots = c.args.self.now.flight.slots }) c.args.self.now →
    length c.args.self.now.flight.slots ≡ length t.slots → CoreStandsFor s (cut_to (take c.in-Some.redirect.kept c.args.self.now.flight.slots) t) c.flush.new.self
flushed c s t small k count =
    let slots : List Slot = c.args.self.now.flight.slots in
    let front : List Slot = take c.in-Some.redirect.kept slots in
    let P : Timing → Type 0 = λ x. CoreStandsFor s x c.flush.new.self in
    subst P (cut_same t slots front count) (c.flush.ensures.kept s (record t { slots = slots }) k (omega arith))

pub returns-clause-kept : goal.returns-clause-kept
unfolding cut_to
returns-clause-kept c = λ s t small k same.
    let slots : List Slot = c.args.self.now.flight.slots in
    let front : List Slot = take c.in-Some.redirect.kept slots in
    let f = flushed c s t small k same in
    let count : (c.flush.new.self.counts.mispredicted + 1) % 2 ^ 64 ≡ t.counts.mispredicted + 1 =
    risen _ _ t.counts.mispredicted 1 refl (ap (λ (n : machine.Counts). n.mispredicted) f.counts) (omega arith) (omega arith) in
    subst (λ (r : Option Redirect). CoreStandsFor s (completed_phase (completed_in r slots) t).timing (record c.flush.new.self { counts = record c.flush.new.self.counts { mispredicted = (c.flush.new.self.counts.mispredicted + 1) % 2 ^ 64 } })) (sym c.in-Some.is)
    (keeps_counts s (cut_to front t) c.flush.new.self f _ _ (λ i. record (f.counts i) { mispredicted = count i }))

pub returns-clause-orders : goal.returns-clause-orders
unfolding cut_to
returns-clause-orders c = λ s t small k same.
    let slots : List Slot = c.args.self.now.flight.slots in
    let kept : ℕ = c.in-Some.redirect.kept in
    let front : List Slot = take kept slots in
    let f = flushed c s t small k same in
    let within = subst (λ (r : Option Redirect). IfSome r (λ x. x.kept ≤ length slots)) c.in-Some.is c.requires.within in
    let many : length front ≡ kept = length-take-le kept slots within in
    let number : (c.flush.new.self.to_commit + c.from.result) % 2 ^ 64 ≡ t.to_commit + length front =
    risen _ _ t.to_commit (length front) (ap (λ (n : ℕ). (c.flush.new.self.to_commit + n) % 2 ^ 64) (c.from.ensures ∙ sym many)) f.to_commit (omega arith) (omega arith) in
    c.one.ensures.one ∙ ap (λ (n : ℕ). Set n c.in-Some.redirect.addr ∷ []) number ∙ ap (λ (r : Option Redirect). (completed_phase (completed_in r slots) t).orders) (sym c.in-Some.is)

use Rattle.std.proofs.Common.{◌≡◌, List, length, refl, ap, sym, ◌∙◌, subst}
use Rattle.reorder_buffer.specs.declared.slot.Slot.{Slot}
use Rattle.timing_side.specs.Complete.{Completed, completes, completed_phase}
use Rattle.timing_core.specs.CoreStandsFor.{CoreStandsFor}
use Rattle.timing_core.specs.Finishing.{completed_in}
use Rattle.timing_core.proofs.Keeping.{keeps_slots}
use Rattle.timing_core.proofs.state.TimingCore.complete_until.Goals as goal

pub returns-clause-kept : goal.returns-clause-kept
returns-clause-kept c = λ s t k small.
    let flight = c.finish_due-redirect.new.flight in
    let is : completes c.args.until t.slots ≡ completed_in c.finish_due-redirect.result flight.slots = sym (λ i. completes c.args.until (k.slots i)) ∙ c.finish_due-redirect.ensures.all in
    subst (λ (x : Completed). CoreStandsFor s (completed_phase x t).timing c.redirect.new.self) (sym is)
    (c.redirect.ensures.kept s t small (keeps_slots s t c.args.self.now k flight flight.slots c.finish_due-redirect.ensures.room refl) (c.finish_due-redirect.ensures.count ∙ ap (λ (l : List Slot). length l) k.slots))

pub returns-clause-orders : goal.returns-clause-orders
returns-clause-orders c = λ s t k small.
    let flight = c.finish_due-redirect.new.flight in
    let is : completes c.args.until t.slots ≡ completed_in c.finish_due-redirect.result flight.slots = sym (λ i. completes c.args.until (k.slots i)) ∙ c.finish_due-redirect.ensures.all in
    c.redirect.ensures.orders s t small (keeps_slots s t c.args.self.now k flight flight.slots c.finish_due-redirect.ensures.room refl) (c.finish_due-redirect.ensures.count ∙ ap (λ (l : List Slot). length l) k.slots)
    ∙ ap (λ (x : Completed). (completed_phase x t).orders) (sym is)

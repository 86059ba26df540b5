use Rattle.std.proofs.Common.{◌≡◌, ℕ, ◌&&◌, nat_lt, true, false, is_none, List, ap, sym, ◌∙◌}
use Rattle.std.proofs.lemmas.Bool.{and_parts}
use Rattle.reorder_buffer.specs.declared.slot.Slot.{Slot}
use Rattle.timing_side.specs.Slots.{is_waiting_state}
use Rattle.timing_side.specs.Issue.{has_operands, class_allows}
use Rattle.in_flight.specs.Flight.{older_at}
use Rattle.inorder_side.specs.Timing.{in_execute}
use Rattle.inorder_side.specs.Issue.{is_past_fetch, found_in_order}
use Rattle.inorder_model.proofs.Slots.{is_idle, idle_older}
use Rattle.inorder_model.proofs.Deciding.{allows_in_order, waiting_is}
use Rattle.inorder_model.proofs.timing.InorderTimingCore.may_issue.Goals as goal

pub returns-then-not-is_past_fetch-clause-may : goal.returns-then-not-is_past_fetch-clause-may
returns-then-not-is_past_fetch-clause-may c = λ s l h.
    let slot = c.args.slot.now in
    let older = older_at l.timing.slots c.args.place in
    let off : c.is_past_fetch.result ≡ false = c.if-not-is_past_fetch.true in
    let past : false ≡ is_past_fetch l.timing.cycle slot =
    sym off ∙ c.is_past_fetch.ensures.passed ∙ ap (λ (n : ℕ). is_past_fetch n slot) (c.cycle.ensures.cycle s l.timing h.core) in
    λ i. past i && is_none (in_execute older) && has_operands (found_in_order l.memory older) slot && class_allows slot.class slot.access (found_in_order l.memory older)

pub returns-then-not-is_idle-clause-may : goal.returns-then-not-is_idle-clause-may
returns-then-not-is_idle-clause-may c = λ s l h.
    let slot = c.args.slot.now in
    let place = c.args.place in
    let slots = c.args.self.now.core.flight.slots in
    let older = older_at l.timing.slots place in
    let on : c.is_past_fetch.result ≡ true = c.if-not-is_past_fetch.false in
    let here : true ≡ is_past_fetch c.cycle.result slot = sym on ∙ c.is_past_fetch.ensures.passed in
    let past : true ≡ is_past_fetch l.timing.cycle slot = here ∙ ap (λ (n : ℕ). is_past_fetch n slot) (c.cycle.ensures.cycle s l.timing h.core) in
    let waits = (and_parts (is_waiting_state slot.state) (nat_lt slot.fetched c.cycle.result) (sym here)).0 in
    let off : c.is_idle.result ≡ false = c.if-not-is_idle.true in
    let idle : false ≡ is_none (in_execute older) =
    sym off ∙ c.is_idle.ensures.idle ∙ idle_older slots place slot c.requires.there c.requires.last waits ∙ ap (λ (x : List Slot). is_idle (older_at x place)) h.core.slots in
    λ i. past i && idle i && has_operands (found_in_order l.memory older) slot && class_allows slot.class slot.access (found_in_order l.memory older)

pub returns-then-has_operands-clause-may : goal.returns-then-has_operands-clause-may
returns-then-has_operands-clause-may c = λ s l h.
    let slot = c.args.slot.now in
    let place = c.args.place in
    let slots = c.args.self.now.core.flight.slots in
    let older = older_at l.timing.slots place in
    let on : c.is_past_fetch.result ≡ true = c.if-not-is_past_fetch.false in
    let here : true ≡ is_past_fetch c.cycle.result slot = sym on ∙ c.is_past_fetch.ensures.passed in
    let past : true ≡ is_past_fetch l.timing.cycle slot = here ∙ ap (λ (n : ℕ). is_past_fetch n slot) (c.cycle.ensures.cycle s l.timing h.core) in
    let waits = (and_parts (is_waiting_state slot.state) (nat_lt slot.fetched c.cycle.result) (sym here)).0 in
    let still : c.is_idle.result ≡ true = c.if-not-is_idle.false in
    let idle : true ≡ is_none (in_execute older) =
    sym still ∙ c.is_idle.ensures.idle ∙ idle_older slots place slot c.requires.there c.requires.last waits ∙ ap (λ (x : List Slot). is_idle (older_at x place)) h.core.slots in
    let has : true ≡ has_operands (found_in_order l.memory older) slot =
    sym c.if-has_operands.true ∙ c.has_operands.ensures.operands waits ∙ (λ i. has_operands (found_in_order (h.memory i) (older_at (h.core.slots i) place)) slot) in
    let allows : c.class_allows.result ≡ class_allows slot.class slot.access (found_in_order l.memory older) =
    c.class_allows.ensures.allowed ∙ ap (λ (x : List Slot). class_allows slot.class slot.access (older_at x place)) h.core.slots
    ∙ sym (allows_in_order l.memory older slot.class slot.access) in
    λ i. past i && idle i && has i && allows i

pub returns-then-has_operands-clause-waits : goal.returns-then-has_operands-clause-waits
returns-then-has_operands-clause-waits c = λ may.
    let slot = c.args.slot.now in
    let on : c.is_past_fetch.result ≡ true = c.if-not-is_past_fetch.false in
    waiting_is slot.state (and_parts (is_waiting_state slot.state) (nat_lt slot.fetched c.cycle.result) (sym c.is_past_fetch.ensures.passed ∙ on)).0

pub returns-else-has_operands-clause-may : goal.returns-else-has_operands-clause-may
returns-else-has_operands-clause-may c = λ s l h.
    let slot = c.args.slot.now in
    let place = c.args.place in
    let slots = c.args.self.now.core.flight.slots in
    let older = older_at l.timing.slots place in
    let on : c.is_past_fetch.result ≡ true = c.if-not-is_past_fetch.false in
    let here : true ≡ is_past_fetch c.cycle.result slot = sym on ∙ c.is_past_fetch.ensures.passed in
    let past : true ≡ is_past_fetch l.timing.cycle slot = here ∙ ap (λ (n : ℕ). is_past_fetch n slot) (c.cycle.ensures.cycle s l.timing h.core) in
    let waits = (and_parts (is_waiting_state slot.state) (nat_lt slot.fetched c.cycle.result) (sym here)).0 in
    let still : c.is_idle.result ≡ true = c.if-not-is_idle.false in
    let idle : true ≡ is_none (in_execute older) =
    sym still ∙ c.is_idle.ensures.idle ∙ idle_older slots place slot c.requires.there c.requires.last waits ∙ ap (λ (x : List Slot). is_idle (older_at x place)) h.core.slots in
    let has : false ≡ has_operands (found_in_order l.memory older) slot =
    sym c.if-has_operands.false ∙ c.has_operands.ensures.operands waits ∙ (λ i. has_operands (found_in_order (h.memory i) (older_at (h.core.slots i) place)) slot) in
    c.if-has_operands.false ∙ (λ i. past i && idle i && has i && class_allows slot.class slot.access (found_in_order l.memory older))

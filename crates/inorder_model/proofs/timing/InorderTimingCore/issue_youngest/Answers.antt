use Rattle.std.proofs.Common.{◌≡◌, ℕ, ◌+◌, ◌-◌, ◌%◌, ◌^◌, true, false, IfSome, Option, List, length, refl, ap, sym, ◌∙◌, subst, arith}
use Rattle.std.specs.Prelude.{slice_get, slice_set}
use Rattle.reorder_buffer.specs.declared.slot.Slot.{Slot}
use Rattle.reorder_buffer.specs.declared.slot.SlotState.TheVariants.{Waiting, Until}
use Rattle.reorder_buffer.specs.Window.{Contents}
use Rattle.mono_model.specs.declared.params.Params.{Params}
use Rattle.timing_side.specs.Timing.{Timing}
use Rattle.timing_core.specs.CoreStandsFor.{CoreStandsFor}
use Rattle.timing_core.proofs.Sums.{risen}
use Rattle.in_flight.specs.Flight.{older_at}
use Rattle.inorder_machine.specs.Issue.{execute_latency}
use Rattle.inorder_model.proofs.Relations.{no_slots, issued_none, issued_at, issue_goes, issued_stays}
use Rattle.inorder_model.proofs.timing.InorderTimingCore.issue_youngest.Goals as goal

pub returns-then-count-eq0-clause-kept : goal.returns-then-count-eq0-clause-kept
returns-then-count-eq0-clause-kept c = λ s l h small.
    let none = no_slots l.timing.slots (omega (arith, ap (λ (slots : List Slot). length slots) h.core.slots, ap (λ (f : Contents). length f.slots) c.flight.ensures.flight, c.len-count.ensures.count, c.if-count-eq0.true)) in
    subst (λ (t : Timing). CoreStandsFor s t c.args.self.now.core) (sym (issued_none s l none)) h.core

pub returns-then-not-may_issue-clause-kept : goal.returns-then-not-may_issue-clause-kept
returns-then-not-may_issue-clause-kept c = λ s l h small.
    let place : ℕ = c.len-count.result - 1 in
    let slot = c.at-slot.result in
    let there = ap (λ (slots : List Slot). slice_get slots place) (sym h.core.slots) ∙ ap (λ (f : Contents). slice_get f.slots place) (sym c.flight-2.ensures.flight) ∙ c.at-slot.ensures.slot in
    let last : length l.timing.slots ≡ place + 1 =
    omega (arith, ap (λ (slots : List Slot). length slots) h.core.slots, ap (λ (f : Contents). length f.slots) c.flight.ensures.flight, c.len-count.ensures.count, c.if-count-eq0.false) in
    let off : c.may_issue.result ≡ false = c.if-not-may_issue.true in
    subst (λ (t : Timing). CoreStandsFor s t c.args.self.now.core) (sym (issued_stays s l place slot there last (sym (c.may_issue.ensures.may s l h) ∙ off))) h.core

pub begin-requires-clause-waiting : goal.begin-requires-clause-waiting
begin-requires-clause-waiting c =
    let place : ℕ = c.len-count.result - 1 in
    let there = ap (λ (f : Contents). slice_get f.slots place) (sym c.flight-2.ensures.flight) ∙ c.at-slot.ensures.slot in
    let on : c.may_issue.result ≡ true = c.if-not-may_issue.false in
    subst (λ (o : Option Slot). IfSome o (λ slot. slot.state ≡ Waiting)) (sym there) (c.may_issue.ensures.waits on)

pub returns-clause-kept : goal.returns-clause-kept
returns-clause-kept c = λ s l h small.
    let place : ℕ = c.len-count.result - 1 in
    let slot = c.at-slot.result in
    let there = ap (λ (slots : List Slot). slice_get slots place) (sym h.core.slots) ∙ ap (λ (f : Contents). slice_get f.slots place) (sym c.flight-2.ensures.flight) ∙ c.at-slot.ensures.slot in
    let last : length l.timing.slots ≡ place + 1 =
    omega (arith, ap (λ (slots : List Slot). length slots) h.core.slots, ap (λ (f : Contents). length f.slots) c.flight.ensures.flight, c.len-count.ensures.count, c.if-count-eq0.false) in
    let on : c.may_issue.result ≡ true = c.if-not-may_issue.false in
    let latency : c.from.result ≡ execute_latency s.params slot.class =
    c.from.ensures ∙ c.execute_latency-latency.ensures.latency ∙ ap (λ (p : Params). execute_latency p slot.class) (c.params.ensures.params ∙ h.core.params) in
    let until : (c.cycle.result + c.from.result) % 2 ^ 64 ≡ l.timing.cycle + execute_latency s.params slot.class =
    risen _ _ l.timing.cycle c.from.result refl (c.cycle.ensures.cycle s l.timing h.core) (omega (arith, small.cycle)) (omega arith)
    ∙ ap (λ (n : ℕ). l.timing.cycle + n) latency in
    let same = issued_at s l place slot there last
    ∙ ap (λ (x : Slot). record l.timing { slots = slice_set l.timing.slots place x }) (issue_goes s l (older_at l.timing.slots place) slot (sym (c.may_issue.ensures.may s l h) ∙ on))
    ∙ ap (λ (n : ℕ). record l.timing { slots = slice_set l.timing.slots place (record slot { state = Until n }) }) (sym until) in
    subst (λ (t : Timing). CoreStandsFor s t c.begin.new.self) (sym same) (c.begin.ensures.kept s l.timing slot h.core there)

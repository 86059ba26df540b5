use Rattle.std.proofs.Common.{ℕ, ◌+◌, ◌∙◌, ap, subst, length, arith}
use Rattle.in_flight.proofs.Snapshots.{still}
use Rattle.timing_side.specs.Issue.{busy_divisions}
use Rattle.timing_core.specs.Units.{used_in}
use Rattle.timing_core.proofs.Issuing.{HasWalked, walks_from_start, walks_to, walks_on, walks_to_end, walks_to_late, starts_there, still_past}
use Rattle.timing_core.proofs.state.TimingCore.issue_fetched.Goals as goal

pub loop-place-init : goal.loop-place-init
loop-place-init c = record {
  few = c.requires.few;
  latest = c.requires.latest;
  ready = c.snapshot-ready.ensures.all;
  walked = λ s t k small. walks_from_start s t c.dividing-busy.result c.args.self.now (used_in c.none-used.result) k c.none-used.ensures.none small.order;
}

pub overflow_add-from : goal.overflow_add-from
overflow_add-from c =
    let there = starts_there c.loop-place.self.flight.slots c.in-Some.place c.in-Some.ensures.found in
    let within = there.1 in
    omega (arith, within, c.loop-place.invariant.few)

pub loop-place-preserved : goal.loop-place-preserved
loop-place-preserved c = record {
  few = omega (arith, c.turn-used.ensures.size, c.loop-place.invariant.few);
  latest = still_past c.args.latest c.loop-place.self c.turn-used.new.self c.turn-used.ensures.params c.turn-used.ensures.cycle c.loop-place.invariant.latest;
  ready = still _ _ (c.in-Some.place + 1) c.next.new.snapshot (λ k behind. c.turn-used.ensures.behind k (omega (arith, behind))) c.in-Some.ensures.left;
  walked = λ s t k small.
      let core = c.loop-place.self in let place = c.in-Some.place in let busy = c.dividing-busy.result in let used = used_in c.loop-place.used in
      let here = walks_to s t busy core c.loop-place.from place used (c.loop-place.invariant.walked s t k small) c.in-Some.ensures.behind c.in-Some.ensures.first in
      let there = starts_there core.flight.slots place c.in-Some.ensures.found in
      let now = record t { slots = core.flight.slots; caches = here.caches } in
      walks_on s t busy core c.turn-used.new.self place used (used_in c.turn-used.result) there.0 here there.2
      (c.turn-used.ensures.kept s now there.0 here.kept small.cycle there.2)
      (c.turn-used.ensures.used s now there.0 here.kept small.cycle there.2);
}

pub loop-place-smaller : goal.loop-place-smaller
loop-place-smaller c =
    let there = starts_there c.loop-place.self.flight.slots c.in-Some.place c.in-Some.ensures.found in
    let within = there.1 in
    omega (arith, within, c.in-Some.ensures.behind, c.turn-used.ensures.size)

pub returns-then-slot-latest : goal.returns-then-slot-latest
returns-then-slot-latest c = record {
  kept = λ s t k small.
      let core = c.loop-place.self in let place = c.in-Some.place in let busy = c.dividing-busy.result in let used = used_in c.loop-place.used in
      let here = walks_to s t busy core c.loop-place.from place used (c.loop-place.invariant.walked s t k small) c.in-Some.ensures.behind c.in-Some.ensures.first in
      let counted = c.dividing-busy.ensures.count ∙ ap busy_divisions k.slots in
      walks_to_late s t core place c.args.latest used c.at-slot.result (subst (λ (n : ℕ). HasWalked s t n core place used) counted here)
      c.at-slot.ensures.slot (omega (arith, c.if-slot-latest.true)) c.loop-place.invariant.latest;
}

pub returns : goal.returns
returns c = record {
  kept = λ s t k small.
      let core = c.loop-place.self in let busy = c.dividing-busy.result in let used = used_in c.loop-place.used in
      let end = c.loop-place.from + length core.flight.slots in
      let from_here = walks_to s t busy core c.loop-place.from end used (c.loop-place.invariant.walked s t k small) (omega arith)
      (λ n above below. c.in_default.ensures.none n above) in
      let counted = c.dividing-busy.ensures.count ∙ ap busy_divisions k.slots in
      walks_to_end s t core end used (subst (λ (n : ℕ). HasWalked s t n core end used) counted from_here) (omega arith);
}

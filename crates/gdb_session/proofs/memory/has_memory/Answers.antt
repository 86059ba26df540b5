use Rattle.std.proofs.Common.{◌≡◌, ℕ, ◌+◌, ◌<◌, List, Some, get_or, length, refl, arith, ap, ◌∙◌, sym}
use Rattle.std.proofs.lemmas.Option.{get_or_from_slice_get}
use Rattle.func_model.specs.Position.{byte_at}
use borrow.Author.Count.{below_more}
use Rattle.gdb_session.proofs.Asked.{memory_other, memory_same, other_byte, same_byte, seen}
use Rattle.gdb_session.proofs.memory.has_memory.Goals as goal

pub loop-place-init : goal.loop-place-init
loop-place-init g c = record { same = refl; each = λ s h k below. absurd (omega (arith, below)) }

pub returns-then-ne-clause-same : goal.returns-then-ne-clause-same
returns-then-ne-clause-same g c = λ s h.
    let at : ℕ = c.args.debugger.now.at in
    let bytes : List ℕ = c.args.bytes.now in
    let addr : ℕ = c.args.address in
    let place : ℕ = c.loop-place.place in
    let wanted = get_or_from_slice_get bytes place c.at.result 0 c.at.ensures.byte in
    let found = seen s c.args.debugger.now c.loop-place.debugger c.byte_after.result (addr + place) c.loop-place.invariant.same c.byte_after.ensures.byte h in
    let other = other_byte c.byte_after.result c.at.result c.if-ne.ensures in
    let within : place < length bytes = omega (arith, c.loop-place-test.true) in
    sym (memory_other s at addr c.args.size place bytes (omega arith) within (λ same. other (sym found ∙ same ∙ ap Some wanted)))

pub loop-place-preserved : goal.loop-place-preserved
loop-place-preserved g c = record {
  same = c.byte_after.ensures.same ∙ c.loop-place.invariant.same;
  each = λ s h.
      let bytes : List ℕ = c.args.bytes.now in
      let addr : ℕ = c.args.address in
      let place : ℕ = c.loop-place.place in
      let wanted = get_or_from_slice_get bytes place c.at.result 0 c.at.ensures.byte in
      let found = seen s c.args.debugger.now c.loop-place.debugger c.byte_after.result (addr + place) c.loop-place.invariant.same c.byte_after.ensures.byte h in
      let same = same_byte c.byte_after.result c.at.result c.if-ne.ensures in
      below_more (λ (k : ℕ). byte_at s c.args.debugger.now.at (addr + k) ≡ Some (get_or bytes k 0)) place
      (c.loop-place.invariant.each s h) (found ∙ same ∙ sym (ap Some wanted));
}

pub returns-clause-same : goal.returns-clause-same
returns-clause-same g c = λ s h.
    sym (memory_same s c.args.debugger.now.at c.args.address c.args.size c.args.bytes.now (omega arith)
    (λ k below. c.loop-place.invariant.each s h k (omega (arith, below, c.loop-place-test.false))))

pub returns-clause-unchanged : goal.returns-clause-unchanged
returns-clause-unchanged g c = c.loop-place.invariant.same

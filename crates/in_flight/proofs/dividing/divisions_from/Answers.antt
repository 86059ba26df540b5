use Rattle.std.proofs.Common.{◌≡◌, suc, ◌+◌, ◌-◌, subst, arith, take}
use Rattle.timing_side.specs.Issue.{busy_divisions}
use Rattle.in_flight.proofs.Divisions.{divisions-more, divisions_within}
use Rattle.in_flight.proofs.dividing.divisions_from.Goals as goal

pub overflow_add-divisions : goal.overflow_add-divisions
overflow_add-divisions c =
    let slots = c.args.window.now.slots in
    let place = c.loop-place.place - 1 in
    let e : c.loop-place.place ≡ suc place = omega (arith, c.loop-place-test.true) in
    let counted = subst (λ k. c.loop-place.divisions + busy_divisions (take k slots) ≡ busy_divisions slots) e c.loop-place.invariant.counted in
    let more = divisions-more slots place c.slot_at.result.1 c.slot_at.ensures.slot in
    omega (arith, counted, more, divisions_within slots, c.divisions_in-divisions.ensures, c.len-place.ensures.count, c.len-place.type_inv)

pub loop-place-preserved : goal.loop-place-preserved
loop-place-preserved c =
    let slots = c.args.window.now.slots in
    let place = c.loop-place.place - 1 in
    let e : c.loop-place.place ≡ suc place = omega (arith, c.loop-place-test.true) in
    let counted = subst (λ k. c.loop-place.divisions + busy_divisions (take k slots) ≡ busy_divisions slots) e c.loop-place.invariant.counted in
    let more = divisions-more slots place c.slot_at.result.1 c.slot_at.ensures.slot in
    record {
      behind = omega (arith, c.loop-place-test.true);
      counted = omega (arith, counted, more, c.divisions_in-divisions.ensures);
    }

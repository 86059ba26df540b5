use Rattle.std.proofs.Common.{◌≡◌, ◌∙◌, ◌+◌, ◌≤◌, ◌<◌, arith, length, sym}
use Rattle.cycle_watch.proofs.Staying.{none_stays, stays_later, stays_not, stays_now}
use Rattle.cycle_watch.proofs.holes.stays_in.Goals as goal

pub returns-then-is_at-clause-stays : goal.returns-then-is_at-clause-stays
returns-then-is_at-clause-stays g c =
    let f = c.args.facts.now in
    let last = c.args.last.now in
    let w = (g.S.Watched.sight c.args.side.now).window in
    let place = c.loop-place.place in
    let were : f.left + place < length last.marks.items = omega (arith, c.requires.kept.were) in
    let are : place < length w = omega (arith, c.requires.kept.are) in
    let below : place < f.kept = omega arith in
    stays_now last f w c.args.stage place were are below c.was_at.result c.was_at.ensures.at c.is_at.result c.is_at.ensures.at c.if-was_at.true c.if-is_at.true
    ∙ sym c.loop-place.invariant

pub returns-else-is_at-clause-stays : goal.returns-else-is_at-clause-stays
returns-else-is_at-clause-stays g c =
    let f = c.args.facts.now in
    let last = c.args.last.now in
    let w = (g.S.Watched.sight c.args.side.now).window in
    let place = c.loop-place.place in
    let were : f.left + place < length last.marks.items = omega (arith, c.requires.kept.were) in
    let are : place < length w = omega (arith, c.requires.kept.are) in
    let below : place < f.kept = omega arith in
    stays_not last f w c.args.stage place were are below c.was_at.result c.was_at.ensures.at c.is_at.result c.is_at.ensures.at c.if-was_at.true c.if-is_at.false
    ∙ sym c.loop-place.invariant

pub loop-place-preserved : goal.loop-place-preserved
loop-place-preserved g c =
    let f = c.args.facts.now in
    let last = c.args.last.now in
    let w = (g.S.Watched.sight c.args.side.now).window in
    let place = c.loop-place.place in
    let were : f.left + place < length last.marks.items = omega (arith, c.requires.kept.were) in
    let are : place < length w = omega (arith, c.requires.kept.are) in
    let below : place < f.kept = omega arith in
    c.loop-place.invariant ∙ stays_later last f w c.args.stage place were are below c.was_at.result c.was_at.ensures.at c.if-was_at.false

pub returns-clause-stays : goal.returns-clause-stays
returns-clause-stays g c =
    let all : c.args.facts.now.kept ≤ c.loop-place.place = omega arith in
    none_stays c.args.last.now c.args.facts.now (g.S.Watched.sight c.args.side.now).window c.args.stage c.loop-place.place all ∙ sym c.loop-place.invariant

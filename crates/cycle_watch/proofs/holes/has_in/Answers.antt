use Rattle.std.proofs.Common.{◌≡◌, ◌∙◌, ◌≤◌, ◌<◌, arith, length, sym}
use Rattle.cycle_watch.proofs.Staying.{has_next, has_none, has_now}
use Rattle.cycle_watch.proofs.holes.has_in.Goals as goal

pub returns-then-is_at : goal.returns-then-is_at
returns-then-is_at g c =
    let w = (g.S.Watched.sight c.args.side.now).window in
    let within : c.loop-place.place < length w = omega arith in
    record { has = sym (c.loop-place.invariant ∙ has_now c.args.stage w c.loop-place.place c.is_at.result within c.is_at.ensures.at c.if-is_at.true) }

pub loop-place-preserved : goal.loop-place-preserved
loop-place-preserved g c =
    let w = (g.S.Watched.sight c.args.side.now).window in
    let within : c.loop-place.place < length w = omega arith in
    c.loop-place.invariant ∙ has_next c.args.stage w c.loop-place.place c.is_at.result within c.is_at.ensures.at c.if-is_at.false

pub returns : goal.returns
returns g c =
    let w = (g.S.Watched.sight c.args.side.now).window in
    let all : length w ≤ c.loop-place.place = omega arith in
    record { has = sym (c.loop-place.invariant ∙ has_none c.args.stage w c.loop-place.place all) }

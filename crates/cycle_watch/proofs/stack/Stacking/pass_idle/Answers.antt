use Rattle.std.proofs.Common.{◌≡◌, ◌<◌, arith}
use Rattle.cycle_watch.specs.Facts.{at_cycle}
use Rattle.cycle_watch.proofs.Counting.{HasStacked, MayStack, heads_of, may_stack}
use Rattle.cycle_watch.proofs.Stretches.{PassesIdle, all_counted, all_stand, more_passed, none_passed}
use Rattle.cycle_watch.proofs.stack.Stacking.pass_idle.Goals as goal

pub loop-self-init : goal.loop-self-init
loop-self-init g c =
    let after = g.S.Watched.sight c.args.side.now in
    none_passed heads_of HasStacked (MayStack after) after c.args.self.now c.requires.within c.requires.standing

pub count_alike-requires : goal.count_alike-requires
count_alike-requires g c =
    let after = g.S.Watched.sight c.args.side.now in
    let now = c.loop-self.self in
    let below : now.heads.last.cycle < after.cycle = omega arith in
    let st = c.loop-self.invariant.standing below in
    record {
      standing = st;
      before = below;
      told = c.idle_facts-facts.ensures.told (at_cycle now.heads.last.cycle after) st.between.stands.keeps (omega (arith, st.between.few)) st.between.goes;
    }

pub loop-self-preserved : goal.loop-self-preserved
loop-self-preserved g c =
    let after = g.S.Watched.sight c.args.side.now in
    let now = c.loop-self.self in
    let next = c.count_alike.new.self in
    let below : now.heads.last.cycle < after.cycle = omega arith in
    let did : PassesIdle heads_of HasStacked after now next = record { stands = c.count_alike.ensures.stands; counted = λ it. c.count_alike.ensures.counted } in
    more_passed heads_of HasStacked (MayStack after) after c.args.self.now now next c.loop-self.invariant below did c.count_alike.ensures.further c.count_alike.ensures.within
    (λ less. may_stack after now next (c.loop-self.invariant.standing below) c.count_alike.ensures.further did)

pub loop-self-smaller : goal.loop-self-smaller
loop-self-smaller g c = omega (arith, c.count_alike.ensures.further, c.count_alike.ensures.within)

pub returns : goal.returns
returns g c =
    let after = g.S.Watched.sight c.args.side.now in
    let now = c.loop-self.self in
    let has = c.loop-self.invariant in
    let ended : now.heads.last.cycle ≡ after.cycle = omega (arith, has.within) in
    record {
      stands = all_stand heads_of HasStacked (MayStack after) after c.args.self.now now has ended;
      counted = all_counted heads_of HasStacked (MayStack after) after c.args.self.now now has ended tt;
      none = has.none;
    }

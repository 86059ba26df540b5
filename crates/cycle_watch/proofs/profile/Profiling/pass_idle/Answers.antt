use Rattle.std.proofs.Common.{◌≡◌, ◌<◌, arith}
use Rattle.cycle_watch.specs.Facts.{at_cycle}
use Rattle.cycle_watch.proofs.ProfileBetween.{HasProfiled, MayProfile, heads_of}
use Rattle.cycle_watch.proofs.Stretches.{all_counted, all_stand, between_later, more_passed, none_passed}
use Rattle.cycle_watch.proofs.profile.Profiling.pass_idle.Goals as goal

pub loop-self-init : goal.loop-self-init
loop-self-init g c =
    let after = g.S.Watched.sight c.args.side.now in
    none_passed heads_of HasProfiled (MayProfile after) after c.args.self.now c.requires.within (λ less. record { between = c.requires.standing less; each = c.requires.each })

pub spend_alike-requires : goal.spend_alike-requires
spend_alike-requires g c =
    let after = g.S.Watched.sight c.args.side.now in
    let now = c.loop-self.self in
    let below : now.heads.last.cycle < after.cycle = omega arith in
    let may = c.loop-self.invariant.standing below in
    record {
      standing = may.between;
      before = below;
      told = c.idle_facts-facts.ensures.told (at_cycle now.heads.last.cycle after) may.between.stands.keeps (omega (arith, may.between.few)) may.between.goes;
      each = may.each;
    }

pub loop-self-preserved : goal.loop-self-preserved
loop-self-preserved g c =
    let after = g.S.Watched.sight c.args.side.now in
    let now = c.loop-self.self in
    let next = c.spend_alike.new.self in
    let did = c.spend_alike.ensures in
    let below : now.heads.last.cycle < after.cycle = omega arith in
    more_passed heads_of HasProfiled (MayProfile after) after c.args.self.now now next c.loop-self.invariant below (record { stands = did.stands; counted = did.profiled }) did.further did.within
    (λ less. record { between = between_later after now.heads next.heads (c.loop-self.invariant.standing below).between did.further did.stands; each = did.each })

pub loop-self-smaller : goal.loop-self-smaller
loop-self-smaller g c = omega (arith, c.spend_alike.ensures.further, c.spend_alike.ensures.within)

pub returns : goal.returns
returns g c =
    let after = g.S.Watched.sight c.args.side.now in
    let now = c.loop-self.self in
    let has = c.loop-self.invariant in
    let ended : now.heads.last.cycle ≡ after.cycle = omega (arith, has.within) in
    record {
      stands = all_stand heads_of HasProfiled (MayProfile after) after c.args.self.now now has ended;
      profiled = all_counted heads_of HasProfiled (MayProfile after) after c.args.self.now now has ended;
      none = has.none;
    }

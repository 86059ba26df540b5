use Rattle.std.proofs.Common.{◌++◌, ap, length-append, sym, subst, arith}
use Rattle.insight_model.specs.Cycles.{cycles_from}
use Rattle.cycle_watch.specs.declared.heads.Heads.{Heads}
use Rattle.cycle_watch.specs.declared.stack.Stacking.{Stacking}
use Rattle.cycle_watch.specs.Known.{MayPass, StandsAt}
use Rattle.cycle_watch.specs.Passing.{facts_since}
use Rattle.cycle_watch.proofs.Counting.{HasStacked, heads_of}
use Rattle.cycle_watch.proofs.Looking.{heads_sum, may_look, since_count, stacks_between, stands_last}
use Rattle.cycle_watch.proofs.Stretches.{counted_last}
use Rattle.cycle_watch.proofs.Stacked.{has_room}
use Rattle.cycle_watch.proofs.stack.Stacking.look.Goals as goal

pub facts-facts-requires : goal.facts-facts-requires
facts-facts-requires g c =
    let st = c.requires.standing in
    record { followed = record { before = st.before; keeps = st.stands.keeps; follows = st.went.follows } }

pub count-requires : goal.count-requires
count-requires g c =
    let st = c.requires.standing in
    let after = g.S.Watched.sight c.args.side.now in
    let told = c.facts-facts.ensures.told st.before st.stands.keeps st.went.follows in
    record {
      standing = may_look st.pipeline st.params st.before after st.known st.more c.args.self.now.heads c.facts-facts.result st.stands st.went told;
      left = omega (arith, told.left, st.went.follows.leave);
      few = omega (arith, c.facts-facts.ensures.few, st.stands.keeps.room.marks);
      room = has_room st.pipeline st.params st.run c.args.self.now.counts st.counted (omega (arith, st.all, st.went.small, st.went.cycle));
    }

pub pass-requires : goal.pass-requires
pass-requires g c =
    let st = c.requires.standing in
    let after = g.S.Watched.sight c.args.side.now in
    let told = c.facts-facts.ensures.told st.before st.stands.keeps st.went.follows in
    let M : Heads → Type 0 = λ h. MayPass h after c.facts-facts.result in
    record {
      standing = subst M (sym c.count.ensures.heads)
          (may_look st.pipeline st.params st.before after st.known st.more c.args.self.now.heads c.facts-facts.result st.stands st.went told);
    }

pub pass_idle-requires : goal.pass_idle-requires
pass_idle-requires g c =
    let st = c.requires.standing in
    let after = g.S.Watched.sight c.args.side.now in
    let told = c.facts-facts.ensures.told st.before st.stands.keeps st.went.follows in
    let S : Heads → Type 0 = λ h. StandsAt st.pipeline st.params st.before st.known h in
    let stands = c.pass.ensures.stands st.pipeline st.params st.before st.known (subst S (sym c.count.ensures.heads) st.stands) st.went.follows told in
    let counted = c.count.ensures.counted st.pipeline st.params st.before st.known st.run st.stands st.went.follows told st.counted in
    record {
      standing = stacks_between st.params st.before after st.known st.more st.pipeline st.run c.pass.new.self c.count.new.self.counts st.went st.all stands counted;
      within = omega (arith, stands.keeps.cycle, st.went.cycle);
    }

pub returns-clause-stands : goal.returns-clause-stands
returns-clause-stands g c = λ kind p before known more stands went.
    let after = g.S.Watched.sight c.args.side.now in
    let told = c.facts-facts.ensures.told before stands.keeps went.follows in
    let S : Heads → Type 0 = λ h. StandsAt kind p before known h in
    let there = c.pass.ensures.stands kind p before known (subst S (sym c.count.ensures.heads) stands) went.follows told in
    stands_last p before after known more c.pass.new.self c.pass_idle.new.self.heads kind went there c.pass_idle.ensures.stands
    (λ ended. ap (λ (s : Stacking). s.heads) (c.pass_idle.ensures.none ended))

pub returns-clause-counted : goal.returns-clause-counted
returns-clause-counted g c = λ kind p before known more run stands went counted.
    let after = g.S.Watched.sight c.args.side.now in
    let told = c.facts-facts.ensures.told before stands.keeps went.follows in
    let S : Heads → Type 0 = λ h. StandsAt kind p before known h in
    let there = c.pass.ensures.stands kind p before known (subst S (sym c.count.ensures.heads) stands) went.follows told in
    let one = c.count.ensures.counted kind p before known run stands went.follows told counted in
    let mid : Stacking = record { heads = c.pass.new.self; counts = c.count.new.self.counts } in
    counted_last p before after known more heads_of HasStacked tt kind run mid c.pass_idle.new.self went there one c.pass_idle.ensures.counted c.pass_idle.ensures.none

pub returns-clause-sum : goal.returns-clause-sum
returns-clause-sum g c =
    let st = c.requires.standing in
    let after = g.S.Watched.sight c.args.side.now in
    let told = c.facts-facts.ensures.told st.before st.stands.keeps st.went.follows in
    let S : Heads → Type 0 = λ h. StandsAt st.pipeline st.params st.before st.known h in
    let there = c.pass.ensures.stands st.pipeline st.params st.before st.known (subst S (sym c.count.ensures.heads) st.stands) st.went.follows told in
    let one = c.count.ensures.counted st.pipeline st.params st.before st.known st.run st.stands st.went.follows told st.counted in
    let mid : Stacking = record { heads = c.pass.new.self; counts = c.count.new.self.counts } in
    let all =
    counted_last st.params st.before after st.known st.more heads_of HasStacked tt st.pipeline st.run mid c.pass_idle.new.self st.went there one c.pass_idle.ensures.counted c.pass_idle.ensures.none in
    let run = cycles_from st.pipeline st.params st.known (facts_since st.more st.before after) in
    omega (
      arith,
      heads_sum st.pipeline st.params (st.run ++ run) c.pass_idle.new.self.counts all,
      length-append st.run run,
      since_count st.pipeline st.params st.known st.before after st.more,
      st.all,
      st.went.cycle,
    )

use Rattle.std.proofs.Common.{◌++◌, ap, length-append, arith}
use Rattle.insight_model.specs.Cycles.{cycles_from}
use Rattle.cycle_watch.specs.declared.profile.Profiling.{Profiling}
use Rattle.cycle_watch.specs.Passing.{facts_since}
use Rattle.mono_model.specs.Setup.{caches_params}
use Rattle.cycle_watch.proofs.Looking.{may_look, since_count, stands_last}
use Rattle.cycle_watch.proofs.ProfileBetween.{HasProfiled, heads_of}
use Rattle.cycle_watch.proofs.Stretches.{counted_last, stands_between}
use Rattle.cycle_watch.proofs.ProfileText.{cycles_sum}
use Rattle.cycle_watch.proofs.profile.Profiling.look.Goals as goal

pub facts-facts-requires : goal.facts-facts-requires
facts-facts-requires g c =
    let st = c.requires.standing in
    record { followed = record { before = st.before; keeps = st.stands.keeps; follows = st.went.follows } }

pub count_cycle-requires : goal.count_cycle-requires
count_cycle-requires g c =
    let st = c.requires.standing in
    let after = g.S.Watched.sight c.args.side.now in
    let told = c.facts-facts.ensures.told st.before st.stands.keeps st.went.follows in
    record {
      standing = may_look st.pipeline st.params st.before after st.known st.more c.args.self.now.heads c.facts-facts.result st.stands st.went told;
      few = omega (arith, c.facts-facts.ensures.few, st.stands.keeps.room.marks);
      each = st.profiled.accessed.counted.each;
    }

pub pass_idle-requires : goal.pass_idle-requires
pass_idle-requires g c =
    let st = c.requires.standing in
    let after = g.S.Watched.sight c.args.side.now in
    let told = c.facts-facts.ensures.told st.before st.stands.keeps st.went.follows in
    let stands = c.count_cycle.ensures.stands st.pipeline st.params st.before st.known st.stands st.went.follows told in
    record {
      standing = stands_between st.params st.before after st.known st.more st.pipeline c.count_cycle.new.self.heads st.went stands;
      within = omega (arith, stands.keeps.cycle, st.went.cycle);
      each = c.count_cycle.ensures.each;
    }

pub returns-clause-stands : goal.returns-clause-stands
returns-clause-stands g c = λ kind p before known more stands went.
    let after = g.S.Watched.sight c.args.side.now in
    let told = c.facts-facts.ensures.told before stands.keeps went.follows in
    let there = c.count_cycle.ensures.stands kind p before known stands went.follows told in
    stands_last p before after known more c.count_cycle.new.self.heads c.pass_idle.new.self.heads kind went there c.pass_idle.ensures.stands
    (λ ended. ap (λ (s : Profiling). s.heads) (c.pass_idle.ensures.none ended))

pub returns-clause-profiled : goal.returns-clause-profiled
returns-clause-profiled g c = λ image kind p before known more run stands went profiled.
    let after = g.S.Watched.sight c.args.side.now in
    let told = c.facts-facts.ensures.told before stands.keeps went.follows in
    let there = c.count_cycle.ensures.stands kind p before known stands went.follows told in
    let one = c.count_cycle.ensures.profiled image kind p before known run stands went.follows told profiled in
    counted_last p before after known more heads_of HasProfiled image kind run c.count_cycle.new.self c.pass_idle.new.self went there one (c.pass_idle.ensures.profiled image) c.pass_idle.ensures.none

pub returns-clause-sum : goal.returns-clause-sum
returns-clause-sum g c =
    let st = c.requires.standing in
    let after = g.S.Watched.sight c.args.side.now in
    let told = c.facts-facts.ensures.told st.before st.stands.keeps st.went.follows in
    let there = c.count_cycle.ensures.stands st.pipeline st.params st.before st.known st.stands st.went.follows told in
    let one = c.count_cycle.ensures.profiled st.image st.pipeline st.params st.before st.known st.run st.stands st.went.follows told st.profiled in
    let all =
    counted_last st.params st.before after st.known st.more heads_of HasProfiled st.image st.pipeline st.run c.count_cycle.new.self c.pass_idle.new.self st.went there one (c.pass_idle.ensures.profiled st.image) c.pass_idle.ensures.none in
    let run = cycles_from st.pipeline st.params st.known (facts_since st.more st.before after) in
    let many = length-append st.run run in
    let since = since_count st.pipeline st.params st.known st.before after st.more in
    omega (
      arith,
      cycles_sum st.image (caches_params st.params) st.pipeline (st.run ++ run) c.pass_idle.new.self all (omega (arith, many, since, st.all, st.went.cycle, st.went.small)),
      many,
      since,
      st.all,
      st.went.cycle,
    )

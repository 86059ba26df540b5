use Rattle.std.proofs.Common.{subst}
use Rattle.cache_timing.specs.declared.cache.Line.{Line}
use Rattle.cache_timing.specs.CacheStandsFor.{IsPut}
use Rattle.cache_timing.proofs.Accesses.{CacheStandsFor-hit, touch-hit}
use Rattle.cache_timing.proofs.cache.Cache.hit.Goals as goal

pub returns-clause-met : goal.returns-clause-met
returns-clause-met c = λ p back sets keeps.
    touch-hit c.args.self.now p back sets c.args.set c.args.way c.args.held c.args.writes keeps c.requires.place c.requires.set_within
    c.requires.way_within c.requires.held

pub returns-clause-kept : goal.returns-clause-kept
returns-clause-kept c = λ p back sets keeps.
    let Put : Line → Type 0 = IsPut c.args.self.now c.put.new.self c.args.set c.args.way in
    CacheStandsFor-hit c.args.self.now c.put.new.self p back sets c.args.set c.args.way c.args.held c.args.writes keeps c.requires.place
    (subst Put c.touched.ensures c.put.ensures) c.requires.set_within c.requires.way_within c.requires.held

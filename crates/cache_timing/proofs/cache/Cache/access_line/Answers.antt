use Rattle.std.proofs.Common.{◌≡◌, ℕ, subst}
use Rattle.cache_timing.specs.declared.cache.Touch.TheVariants as touch
use Rattle.cache_timing.specs.Cache.{touched_line}
use Rattle.cache_timing.specs.CacheStandsFor.{CacheStandsFor}
use Rattle.cache_timing.proofs.cache.Cache.access_line.Goals as goal

pub returns-in-Some-clause-met : goal.returns-in-Some-clause-met
returns-in-Some-clause-met c = λ p back sets keeps.
    let Met : ℕ → Type 0 = λ n. (touched_line p n c.args.writes sets).touch ≡ touch.Hit in
    subst Met c.in-Some.ensures.its_own (c.hit.ensures.met p back sets keeps)

pub returns-in-Some-clause-kept : goal.returns-in-Some-clause-kept
returns-in-Some-clause-kept c = λ p back sets keeps.
    let Kept : ℕ → Type 0 = λ n. CacheStandsFor c.hit.new.self p back (touched_line p n c.args.writes sets).sets in
    subst Kept c.in-Some.ensures.its_own (c.hit.ensures.kept p back sets keeps)

use Rattle.std.proofs.Common.{◌∙◌, ap, sym}
use Rattle.cache_timing.specs.declared.cache.Touch.TheVariants as touch
use Rattle.cache_timing.proofs.Accesses.{IsMiss, last_age, CacheStandsFor-miss, touch-miss}
use Rattle.cache_timing.proofs.cache.Cache.miss.Goals as goal

miss_of : (c : goal.After-put) → IsMiss c.args.self.now c.args.set c.oldest-way.result c.args.line.number
miss_of c = record {
  place = c.requires.place;
  within = c.requires.set_within;
  here = c.oldest-way.ensures.within;
  oldest = last_age c.args.self.now c.args.set c.oldest-way.result c.requires.some_way c.oldest-way.ensures.oldest;
  missing = c.requires.missing;
}

pub returns-clause-met : goal.returns-clause-met
returns-clause-met c = λ p back sets keeps.
    touch-miss c.args.self.now p back sets c.args.set c.oldest-way.result c.args.line.number c.args.line.dirty keeps (miss_of c)
    ∙ ap (λ dropped. touch.Miss dropped) (sym (c.dirty_address-dropped.ensures p back sets keeps))

pub returns-clause-kept : goal.returns-clause-kept
returns-clause-kept c = λ p back sets keeps.
    CacheStandsFor-miss c.args.self.now c.put.new.self p back sets c.args.set c.oldest-way.result c.args.line keeps (miss_of c) c.put.ensures c.requires.fits

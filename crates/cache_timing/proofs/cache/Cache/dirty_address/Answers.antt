use Rattle.std.proofs.Common.{◌∙◌, sym}
use Rattle.cache_timing.proofs.Accesses.{dirty-at}
use Rattle.cache_timing.proofs.cache.Cache.dirty_address.Goals as goal

pub returns-in-Some : goal.returns-in-Some
returns-in-Some c = λ p back sets keeps.
    dirty-at c.args.self.now p back sets c.args.set c.args.way c.in-Some.line keeps c.requires.set_within c.requires.way_within
    (sym c.line_at.ensures ∙ c.in-Some.is) c.if-line.true

use Rattle.std.proofs.Common.{◌≡◌, ◌≢◌, ℕ, ◌<◌, Some}
use Rattle.cache_timing.specs.declared.cache.Line.{Line}
use Rattle.cache_timing.specs.CacheStandsFor.{line_at}
use Rattle.cache_timing.proofs.cache.Cache.find.Given as goal

abbrev pub invariant-loop-way : goal.invariant-loop-way
invariant-loop-way l = (way : ℕ) (held : Line) → way < l.way → line_at l.self l.set way ≡ Some held → held.number ≢ l.number

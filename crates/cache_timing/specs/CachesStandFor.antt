-- What the caches of a machine stand for together.
use Rattle.std.specs.Prelude.{◌≡◌, ◌≢◌, ℕ, ◌/◌, ◌%◌, false, List}
use Rattle.cache_timing.specs.declared.params.CacheParams.{CacheParams}
use Rattle.cache_timing.specs.declared.params.AllCaches.{AllCaches}
use Rattle.cache_timing.specs.declared.cache.Line.{Line}
use Rattle.cache_timing.specs.declared.last_line.LastLine.{LastLine}
use Rattle.cache_timing.specs.declared.caches.Caches.{Caches}
use Rattle.cache_timing.specs.Caches.{CachesState}
use Rattle.cache_timing.specs.CacheStandsFor.{CacheStandsFor, IsFirst}

-- the line is one of a cache with these lists, and the first of its set, where it is a line at all
abbrev pub IsLatest : LastLine → CacheParams → (ℕ → List Line) → Type 0
IsLatest line p sets =
    line.length ≢ 0 → (line.length ≡ p.line) × IsFirst (sets (line.addr / p.line % p.sets)) (line.addr / p.line)

-- the caches have these sizes and this policy, and stand for this state; the line fetched last is the first of its set
pub record CachesStandFor (it : Caches) (p : AllCaches) (s : CachesState) : Type 0 where
  pub sizes : it.params ≡ p
  pub icache : CacheStandsFor it.icache p.icache false s.icache
  pub dcache : CacheStandsFor it.dcache p.dcache p.back s.dcache
  pub l2 : CacheStandsFor it.l2 p.l2 false s.l2
  pub counts : it.counts ≡ s.counts
  pub fetched : IsLatest it.fetched p.icache s.icache

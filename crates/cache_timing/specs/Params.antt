-- The numbers that a cache can have.
use Rattle.std.specs.Prelude.{◌≤◌, IsTrue}
use Rattle.std.specs.Int.{is_power_of_two}
use Rattle.cache_timing.specs.declared.params.CacheParams.{CacheParams}
use Rattle.cache_timing.specs.declared.params.AllCaches.{AllCaches}

pub record IsInRange (p : CacheParams) : Type 0 where
  pub line_least : 4 ≤ p.line
  pub line_most : p.line ≤ 256
  pub line : IsTrue (is_power_of_two p.line)
  pub sets_most : p.sets ≤ 65536
  pub sets : IsTrue (is_power_of_two p.sets)
  pub ways_most : p.ways ≤ 16
  pub miss_most : p.miss ≤ 1000

pub record AreInRange (p : AllCaches) : Type 0 where
  pub icache : IsInRange p.icache
  pub icache_sets_most : p.icache.sets ≤ 4096
  pub dcache : IsInRange p.dcache
  pub dcache_sets_most : p.dcache.sets ≤ 4096
  pub l2 : IsInRange p.l2
  pub l2_hit_most : p.l2_hit ≤ 1000

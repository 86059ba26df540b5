-- Two caches of the first level and a second level behind both (Hennessy and Patterson, Computer Architecture, section 2.1):
-- which level an access reaches, how many cycles it adds, and what is counted.
use Rattle.std.specs.Prelude.{ℕ, ◌+◌, ◌-◌, ◌^◌, min, true, false, List, Option, Some, None}
use Rattle.cache_timing.specs.declared.params.AllCaches.{AllCaches}
use Rattle.cache_timing.specs.declared.cache.Line.{Line}
use Rattle.cache_timing.specs.declared.cache.Touch.{Touch}
use Rattle.cache_timing.specs.declared.cache.Touch.TheVariants as touch
use Rattle.cache_timing.specs.declared.counts.CacheCounts.{CacheCounts}
use Rattle.cache_timing.specs.Cache.{no_lines, Touched, touched}

-- the lists of the sets of each cache, and what was counted
pub record CachesState : Type 0 where
  pub icache : ℕ → List Line
  pub dcache : ℕ → List Line
  pub l2 : ℕ → List Line
  pub counts : CacheCounts

-- before the first access
abbrev pub cold : CachesState
cold = record {
  icache = no_lines;
  dcache = no_lines;
  l2 = no_lines;
  counts = record {
    icache_accesses = 0;
    icache_misses = 0;
    dcache_accesses = 0;
    dcache_misses = 0;
    l2_accesses = 0;
    l2_misses = 0;
    writebacks = 0;
  };
}

-- the state after an access, and the cycles that it adds
pub record Served : Type 0 where
  pub state : CachesState
  pub cycles : ℕ

-- one more, in 64 bits: a count stands still at its largest value
abbrev pub risen : ℕ → ℕ
risen count = min (count + 1) (2 ^ 64 - 1)

-- the accesses of a cache after one more: it counts where there is the cache
abbrev pub accesses_after : Touch → ℕ → ℕ
accesses_after touch.None count = count
accesses_after touch.Hit count = risen count
accesses_after (touch.Miss dropped) count = risen count

-- its misses after that access
abbrev pub misses_after : Touch → ℕ → ℕ
misses_after touch.None count = count
misses_after touch.Hit count = count
misses_after (touch.Miss dropped) count = risen count

-- the counts after an access to each of the caches, and after a line was written back
abbrev pub icache_counted : Touch → CacheCounts → CacheCounts
icache_counted t counts =
    record counts { icache_accesses = accesses_after t counts.icache_accesses; icache_misses = misses_after t counts.icache_misses }

abbrev pub dcache_counted : Touch → CacheCounts → CacheCounts
dcache_counted t counts =
    record counts { dcache_accesses = accesses_after t counts.dcache_accesses; dcache_misses = misses_after t counts.dcache_misses }

abbrev pub l2_counted : Touch → CacheCounts → CacheCounts
l2_counted t counts = record counts { l2_accesses = accesses_after t counts.l2_accesses; l2_misses = misses_after t counts.l2_misses }

abbrev pub writeback_counted : CacheCounts → CacheCounts
writeback_counted counts = record counts { writebacks = risen counts.writebacks }

-- the state after an access to each of the caches
abbrev pub icache_touched : CachesState → Touched → CachesState
icache_touched s t = record s { icache = t.sets; counts = icache_counted t.touch s.counts }

abbrev pub dcache_touched : CachesState → Touched → CachesState
dcache_touched s t = record s { dcache = t.sets; counts = dcache_counted t.touch s.counts }

abbrev pub l2_touched : CachesState → Touched → CachesState
l2_touched s t = record s { l2 = t.sets; counts = l2_counted t.touch s.counts }

-- Each miss of the first level accesses the second with the same address. It adds the cycles of a hit or of a miss there, in
-- place of its own, which it adds where there is no second level. No line of the second level is ever dirty.
abbrev pub miss_cycles : AllCaches → ℕ → Touch → ℕ
miss_cycles p own touch.None = own
miss_cycles p own touch.Hit = p.l2_hit
miss_cycles p own (touch.Miss dropped) = p.l2.miss

abbrev pub missed : AllCaches → ℕ → CachesState → ℕ → Served
missed p own s addr =
    let t = touched p.l2 false s.l2 addr false in
    record { state = l2_touched s t; cycles = miss_cycles p own t.touch }

-- A dirty line that was dropped then accesses the second level with the line's first address, and adds no cycles.
abbrev pub drained : AllCaches → Option ℕ → CachesState → CachesState
drained p None s = s
drained p (Some first) s = (missed p 0 (record s { counts = writeback_counted s.counts }) first).state

-- Behind an access of the first level: a hit adds nothing, nor does a cache that isn't there.
abbrev pub followed : AllCaches → ℕ → ℕ → Touch → CachesState → Served
followed p own addr touch.None s = record { state = s; cycles = 0 }
followed p own addr touch.Hit s = record { state = s; cycles = 0 }
followed p own addr (touch.Miss dropped) s =
    let m = missed p own s addr in record m { state = drained p dropped m.state }

-- the fetch of an instruction
unfoldable pub fetched : AllCaches → CachesState → ℕ → Served
fetched p s addr =
    let t = touched p.icache false s.icache addr false in
    followed p p.icache.miss addr t.touch (icache_touched s t)

-- a load from RAM
unfoldable pub loaded : AllCaches → CachesState → ℕ → Served
loaded p s addr =
    let t = touched p.dcache p.back s.dcache addr false in
    followed p p.dcache.miss addr t.touch (dcache_touched s t)

-- A store to RAM makes its line dirty under write-back. Its miss adds no cycles.
unfoldable pub stored : AllCaches → CachesState → ℕ → CachesState
stored p s addr =
    let t = touched p.dcache p.back s.dcache addr true in
    (followed p p.dcache.miss addr t.touch (dcache_touched s t)).state

-- The accesses of the caches in a cycle, each with the address of its instruction; what each of them counted; and the
-- misses of loads (Hennessy and Patterson, Computer Architecture, section 2.1).
use Rattle.std.specs.Prelude.{ℕ, ◌-◌, ◌&&◌, is_some, Bool, if◌then◌else◌, Option, Some, None, List, [], ◌∷◌, ◌++◌, map, take, drop, length, replicate, option_to_list, filter_map, flat_map}
use Rattle.std.specs.Option.{option_map_or}
use Rattle.cache_timing.specs.declared.params.AllCaches.{AllCaches}
use Rattle.cache_timing.specs.declared.counts.CacheCounts.{CacheCounts}
use Rattle.cache_timing.specs.Caches.{CachesState, cold, fetched, loaded, stored}
use Rattle.mono_model.specs.declared.params.Params.{Params}
use Rattle.insight_model.specs.declared.pipeline.Pipeline.{Pipeline}
use Rattle.insight_model.specs.declared.pipeline.Pipeline.TheVariants.{Window, Inorder}
use Rattle.insight_model.specs.Sight.{Progress, waiting, executing, accessing, done, Shown, is_waiting_at, is_executing_at, is_accessing_at, ram_load, ram_store}
use Rattle.insight_model.specs.Facts.{Facts, Kept}

-- What a cache is accessed for, and at which address.
pub data CacheUse : Type 0 where
  fetches : ℕ → CacheUse
  loads : ℕ → CacheUse
  stores : ℕ → CacheUse

pub record CacheAccess : Type 0 where
  -- the address of its instruction
  pub by : ℕ
  pub what : CacheUse

-- it began to execute
abbrev pub has_begun : Kept → Bool
has_begun k = is_waiting_at k.before.progress && is_executing_at k.after.progress

-- A load accesses the cache as it begins; in order, as it goes from Execute to Memory.
abbrev pub comes_to_memory : Pipeline → Kept → Bool
comes_to_memory Window k = has_begun k
comes_to_memory Inorder k = is_executing_at k.before.progress && is_accessing_at k.after.progress

abbrev pub load_made : Pipeline → Kept → Option ℕ
load_made pipeline k = if comes_to_memory pipeline k then ram_load k.after else None

-- those that left and didn't trap
abbrev pub retired_in : Facts → List Shown
retired_in f = if f.trapped then take (length f.left - 1) f.left else f.left

abbrev pub store_access : Shown → Option CacheAccess
store_access shown = option_map_or (λ addr. Some (record { by = shown.addr; what = stores addr })) (ram_store shown) None

abbrev pub load_access : Pipeline → Kept → Option CacheAccess
load_access pipeline k = option_map_or (λ addr. Some (record { by = k.after.addr; what = loads addr })) (load_made pipeline k) None

-- the first record appended makes none if its miss was waited for, nor does one that could not be fetched
abbrev pub fetched_anew : Facts → List Shown
fetched_anew f = if f.paid then drop 1 f.appended else f.appended

abbrev pub fetch_at_address : ℕ → CacheAccess
fetch_at_address addr = record { by = addr; what = fetches addr }

abbrev pub fetch_access : Shown → Option CacheAccess
fetch_access shown = option_map_or (λ word. Some (fetch_at_address shown.addr)) shown.word None

-- the accesses of a cycle, in their order
unfoldable pub accesses : Pipeline → Facts → List CacheAccess
accesses pipeline f =
    filter_map store_access (retired_in f)
    ++ filter_map (load_access pipeline) f.kept
    ++ filter_map fetch_access (fetched_anew f)
    ++ map fetch_at_address (option_to_list f.missed)

abbrev pub used : AllCaches → CachesState → CacheUse → CachesState
used p caches (fetches addr) = (fetched p caches addr).state
used p caches (loads addr) = (loaded p caches addr).state
used p caches (stores addr) = stored p caches addr

-- what an access counted
pub record Change : Type 0 where
  pub by : ℕ
  pub counts : CacheCounts

abbrev pub rise : CacheCounts → CacheCounts → CacheCounts
rise before after = record {
  icache_accesses = after.icache_accesses - before.icache_accesses;
  icache_misses = after.icache_misses - before.icache_misses;
  dcache_accesses = after.dcache_accesses - before.dcache_accesses;
  dcache_misses = after.dcache_misses - before.dcache_misses;
  l2_accesses = after.l2_accesses - before.l2_accesses;
  l2_misses = after.l2_misses - before.l2_misses;
  writebacks = after.writebacks - before.writebacks;
}

abbrev pub changes_from : AllCaches → CachesState → List CacheAccess → List Change
changes_from p caches [] = []
changes_from p caches (made ∷ rest) =
    let after = used p caches made.what in
    record { by = made.by; counts = rise caches.counts after.counts } ∷ changes_from p after rest

-- what the accesses of a run counted, in caches that start cold
unfoldable pub changes : AllCaches → Pipeline → List Facts → List Change
changes p pipeline cycles = changes_from p cold (flat_map (accesses pipeline) cycles)

-- How many cycles a load's miss adds, from its access on; 0 before it, and of all else. In the window it has its value
-- when its latency and the miss are over; in order it leaves Memory then.
abbrev pub until_at : Progress → ℕ
until_at waiting = 0
until_at (executing e o) = e
until_at (accessing e o) = e
until_at (done o) = 0

abbrev pub miss_after : Pipeline → Params → ℕ → Kept → ℕ → ℕ
miss_after pipeline p cycle k known =
    if is_some (load_made pipeline k) then until_at k.after.progress - cycle - p.mem_latency else known

abbrev pub kept_misses : Pipeline → Params → ℕ → List Kept → List ℕ → List ℕ
kept_misses pipeline p cycle [] misses = []
kept_misses pipeline p cycle (k ∷ kept) [] = []
kept_misses pipeline p cycle (k ∷ kept) (miss ∷ misses) = miss_after pipeline p cycle k miss ∷ kept_misses pipeline p cycle kept misses

-- the misses of the records in the window, by those before the cycle
unfoldable pub misses_after : Pipeline → Params → Facts → List ℕ → List ℕ
misses_after pipeline p f misses =
    kept_misses pipeline p f.cycle f.kept (drop (length f.left) misses) ++ replicate (length f.appended) 0

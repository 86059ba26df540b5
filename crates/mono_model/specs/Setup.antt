-- What a run depends on, and which of its values a run may have.
use Rattle.std.specs.Prelude.{ℕ, ◌==◌, ◌&&◌, ◌||◌, not, nat_le, Bool, length}
use Rattle.fsim_base.specs.declared.access.RamRange.{RamRange}
use Rattle.branch_predictor.specs.declared.params.PredParams.{PredParams}
use Rattle.cache_timing.specs.declared.params.CacheParams.{CacheParams}
use Rattle.cache_timing.specs.declared.params.AllCaches.{AllCaches}
use Rattle.elf_image.specs.Sound.{is_sound}
use Rattle.mono_model.specs.Ranges.{is_between, is_power_between, is_ram, is_unit, is_cache}
use Rattle.mono_model.specs.declared.params.Params.{Params}
use Rattle.mono_model.specs.declared.setup.Setup.{Setup}

-- the addresses of RAM
abbrev pub ram_range : Params → RamRange
ram_range p = record { base = p.ram_base; size = p.ram_size }

-- the sizes of the predictor
abbrev pub predictor_params : Params → PredParams
predictor_params p = record { kind = p.predictor_kind; counters = p.predictor_counters; history = p.predictor_history; targets = p.predictor_targets }

-- the sizes and costs of the caches
abbrev pub icache_params : Params → CacheParams
icache_params p = record { line = p.icache_line; sets = p.icache_sets; ways = p.icache_ways; miss = p.icache_miss }

abbrev pub dcache_params : Params → CacheParams
dcache_params p = record { line = p.dcache_line; sets = p.dcache_sets; ways = p.dcache_ways; miss = p.dcache_miss }

abbrev pub l2_params : Params → CacheParams
l2_params p = record { line = p.l2_line; sets = p.l2_sets; ways = p.l2_ways; miss = p.l2_miss }

abbrev pub caches_params : Params → AllCaches
caches_params p = record { icache = icache_params p; dcache = dcache_params p; back = p.dcache_back; l2 = l2_params p; l2_hit = p.l2_hit }

-- a machine of version 1 has no second level of caches, and writes each store through
abbrev pub is_of_version_1 : Params → Bool
is_of_version_1 p = p.version == 1 && p.l2_ways == 0 && not p.dcache_back

-- the version is 1 or 2, and version 1 has nothing that came with version 2
abbrev pub is_version : Params → Bool
is_version p = is_of_version_1 p || p.version == 2

-- the parameters are in the ranges of a machine file, key by key
abbrev pub are_core : Params → Bool
are_core p =
    is_between 1 8 p.core_fetch && is_between 1 8 p.core_commit && is_between 1 32 p.core_front
    && is_between 1 256 p.core_window && is_between 1 256 p.core_stations

abbrev pub are_units : Params → Bool
are_units p =
    is_unit p.alu_count p.alu_latency && is_unit p.mul_count p.mul_latency
    && is_unit p.div_count p.div_latency && is_unit p.mem_count p.mem_latency

abbrev pub is_predictor : Params → Bool
is_predictor p =
    is_power_between 1 65536 p.predictor_counters && nat_le p.predictor_history 16
    && (p.predictor_targets == 0 || is_power_between 1 65536 p.predictor_targets)

abbrev pub are_caches : Params → Bool
are_caches p =
    is_cache 4096 p.icache_line p.icache_sets p.icache_ways p.icache_miss
    && is_cache 4096 p.dcache_line p.dcache_sets p.dcache_ways p.dcache_miss
    && is_cache 65536 p.l2_line p.l2_sets p.l2_ways p.l2_miss && nat_le p.l2_hit 1000

unfoldable pub are_params : Params → Bool
are_params p =
    is_version p && is_ram p.ram_base p.ram_size && are_core p && are_units p
    && is_predictor p && are_caches p

-- the most bytes of input and of output, cycles and entries under way that a run may have
abbrev pub input_limit : ℕ
input_limit = 16777216

abbrev pub output_limit : ℕ
output_limit = 16777216

abbrev pub cycle_limit : ℕ
cycle_limit = 1099511627776

abbrev pub ring_limit : ℕ
ring_limit = 65536

-- a run may have this setup
unfoldable pub is_setup : Setup → Bool
is_setup s =
    is_sound s.image (ram_range s.params) && are_params s.params && nat_le (length s.input) input_limit
    && is_between 1 cycle_limit s.cycles && nat_le s.output output_limit && is_between 1 ring_limit s.ring

-- The plain machine: that of a machine file with no keys, and of a run without one.
use Rattle.std.specs.Prelude.{false}
use Rattle.branch_predictor.specs.declared.params.PredKind.TheVariants.{Static}
use Rattle.mono_model.specs.declared.params.Params.{Params}

abbrev pub plain_params : Params
plain_params = record {
  version = 1;
  ram_base = 0x80000000;
  ram_size = 16777216;
  core_fetch = 1;
  core_commit = 1;
  core_front = 1;
  core_window = 1;
  core_stations = 256;
  alu_count = 1;
  alu_latency = 1;
  mul_count = 1;
  mul_latency = 1;
  div_count = 1;
  div_latency = 1;
  mem_count = 1;
  mem_latency = 1;
  predictor_kind = Static;
  predictor_counters = 1024;
  predictor_history = 8;
  predictor_targets = 0;
  icache_line = 64;
  icache_sets = 64;
  icache_ways = 0;
  icache_miss = 20;
  dcache_line = 64;
  dcache_sets = 64;
  dcache_ways = 0;
  dcache_miss = 20;
  dcache_back = false;
  l2_line = 64;
  l2_sets = 512;
  l2_ways = 0;
  l2_hit = 10;
  l2_miss = 100;
}

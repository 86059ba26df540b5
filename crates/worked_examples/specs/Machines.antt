-- Machine files: the keys that differ from the defaults, as a file has them.
use Rattle.std.specs.Prelude.{true}
use Rattle.branch_predictor.specs.declared.params.PredKind.TheVariants.{Bimodal, Gshare}
use Rattle.mono_model.specs.declared.params.Params.{Params}
use Rattle.worked_examples.specs.Setups.{plain_machine}

-- core.window = 8
abbrev pub window_of_eight : Params
window_of_eight = record plain_machine { core_window = 8 }

-- core.window = 8, predictor.kind = "bimodal", predictor.targets = 16
abbrev pub bimodal_window_of_eight : Params
bimodal_window_of_eight = record plain_machine { core_window = 8; predictor_kind = Bimodal; predictor_targets = 16 }

-- predictor.kind = "bimodal", predictor.targets = 16
abbrev pub bimodal_plain_machine : Params
bimodal_plain_machine = record plain_machine { predictor_kind = Bimodal; predictor_targets = 16 }

-- core.window = 3, dcache.line = 16, dcache.sets = 1, dcache.ways = 1, dcache.miss = 10
abbrev pub one_line_cache : Params
one_line_cache = record plain_machine {
  core_window = 3;
  dcache_line = 16;
  dcache_sets = 1;
  dcache_ways = 1;
  dcache_miss = 10;
}

-- dcache.line = 16, dcache.sets = 1, dcache.ways = 1, dcache.miss = 10
abbrev pub one_line_cache_plain_machine : Params
one_line_cache_plain_machine = record plain_machine {
  dcache_line = 16;
  dcache_sets = 1;
  dcache_ways = 1;
  dcache_miss = 10;
}

-- version = 2, core.window = 3, dcache.line = 16, dcache.sets = 1, dcache.ways = 1, dcache.miss = 10, l2.line = 16,
-- l2.sets = 16, l2.ways = 1, l2.hit = 4, l2.miss = 10
abbrev pub one_line_cache_with_second_level : Params
one_line_cache_with_second_level = record plain_machine {
  version = 2;
  core_window = 3;
  dcache_line = 16;
  dcache_sets = 1;
  dcache_ways = 1;
  dcache_miss = 10;
  l2_line = 16;
  l2_sets = 16;
  l2_ways = 1;
  l2_hit = 4;
  l2_miss = 10;
}

-- version = 2, dcache.line = 16, dcache.sets = 1, dcache.ways = 1, dcache.miss = 10, dcache.policy = "back"
abbrev pub write_back_cache : Params
write_back_cache = record plain_machine {
  version = 2;
  dcache_line = 16;
  dcache_sets = 1;
  dcache_ways = 1;
  dcache_miss = 10;
  dcache_back = true;
}

-- core.window = 8, div.latency = 10, mem.latency = 6
abbrev pub slow_division_and_memory : Params
slow_division_and_memory = record plain_machine { core_window = 8; div_latency = 10; mem_latency = 6 }

-- core.window = 16, core.commit = 8, div.latency = 20
abbrev pub wide_commit_behind_division : Params
wide_commit_behind_division = record plain_machine { core_window = 16; core_commit = 8; div_latency = 20 }

-- core.fetch = 4, core.commit = 4, core.front = 5, core.window = 64, core.stations = 32, alu.count = 3, mul.latency = 3,
-- div.latency = 20, mem.count = 2, mem.latency = 2, predictor.kind = "gshare", predictor.counters = 4096,
-- predictor.history = 12, predictor.targets = 512, icache.ways = 4, dcache.ways = 4
abbrev pub wide_machine : Params
wide_machine = record plain_machine {
  core_fetch = 4;
  core_commit = 4;
  core_front = 5;
  core_window = 64;
  core_stations = 32;
  alu_count = 3;
  mul_latency = 3;
  div_latency = 20;
  mem_count = 2;
  mem_latency = 2;
  predictor_kind = Gshare;
  predictor_counters = 4096;
  predictor_history = 12;
  predictor_targets = 512;
  icache_ways = 4;
  dcache_ways = 4;
}

-- icache.ways = 1
abbrev pub instruction_cache : Params
instruction_cache = record plain_machine { icache_ways = 1 }

-- core.fetch = 4, core.commit = 4, core.window = 16
abbrev pub four_wide_window_of_sixteen : Params
four_wide_window_of_sixteen = record plain_machine { core_fetch = 4; core_commit = 4; core_window = 16 }

-- core.window = 8, icache.line = 16, icache.sets = 4, icache.ways = 1
abbrev pub small_instruction_cache : Params
small_instruction_cache = record plain_machine { core_window = 8; icache_line = 16; icache_sets = 4; icache_ways = 1 }

-- core.fetch = 2, core.window = 8, icache.line = 4, icache.sets = 1, icache.ways = 1, icache.miss = 5
abbrev pub one_word_instruction_cache : Params
one_word_instruction_cache = record plain_machine {
  core_fetch = 2;
  core_window = 8;
  icache_line = 4;
  icache_sets = 1;
  icache_ways = 1;
  icache_miss = 5;
}

-- core.fetch = 4, core.commit = 4, core.window = 16, alu.count = 2, mul.latency = 4, div.count = 2, div.latency = 20
abbrev pub two_dividers : Params
two_dividers = record plain_machine {
  core_fetch = 4;
  core_commit = 4;
  core_window = 16;
  alu_count = 2;
  mul_latency = 4;
  div_count = 2;
  div_latency = 20;
}

-- core.fetch = 4, core.window = 16, core.stations = 2, div.latency = 5
abbrev pub two_stations : Params
two_stations = record plain_machine { core_fetch = 4; core_window = 16; core_stations = 2; div_latency = 5 }

-- core.window = 8, predictor.kind = "gshare", predictor.counters = 16, predictor.history = 4, predictor.targets = 16
abbrev pub gshare_of_four_outcomes : Params
gshare_of_four_outcomes = record plain_machine {
  core_window = 8;
  predictor_kind = Gshare;
  predictor_counters = 16;
  predictor_history = 4;
  predictor_targets = 16;
}

-- core.window = 8, predictor.kind = "bimodal", predictor.counters = 1, predictor.targets = 16
abbrev pub one_counter : Params
one_counter = record plain_machine {
  core_window = 8;
  predictor_kind = Bimodal;
  predictor_counters = 1;
  predictor_targets = 16;
}

-- core.window = 8, predictor.kind = "bimodal", predictor.targets = 1
abbrev pub one_target : Params
one_target = record plain_machine { core_window = 8; predictor_kind = Bimodal; predictor_targets = 1 }

-- core.fetch = 4, core.commit = 2, core.front = 3, core.window = 12, predictor.kind = "bimodal", predictor.targets = 16
abbrev pub bimodal_fetch_of_four : Params
bimodal_fetch_of_four = record plain_machine {
  core_fetch = 4;
  core_commit = 2;
  core_front = 3;
  core_window = 12;
  predictor_kind = Bimodal;
  predictor_targets = 16;
}

-- core.window = 8, dcache.line = 16, dcache.sets = 1, dcache.ways = 2, dcache.miss = 10
abbrev pub two_way_data_cache : Params
two_way_data_cache = record plain_machine {
  core_window = 8;
  dcache_line = 16;
  dcache_sets = 1;
  dcache_ways = 2;
  dcache_miss = 10;
}

-- core.fetch = 4, core.commit = 4, core.window = 16, mem.count = 2, mem.latency = 3, dcache.line = 16, dcache.sets = 4,
-- dcache.ways = 1, dcache.miss = 10
abbrev pub two_memory_units : Params
two_memory_units = record plain_machine {
  core_fetch = 4;
  core_commit = 4;
  core_window = 16;
  mem_count = 2;
  mem_latency = 3;
  dcache_line = 16;
  dcache_sets = 4;
  dcache_ways = 1;
  dcache_miss = 10;
}

-- version = 2, core.window = 8, dcache.line = 16, dcache.sets = 1, dcache.ways = 1, dcache.policy = "back", l2.line = 16,
-- l2.sets = 1, l2.ways = 2, l2.hit = 4, l2.miss = 10
abbrev pub write_back_before_second_level : Params
write_back_before_second_level = record plain_machine {
  version = 2;
  core_window = 8;
  dcache_line = 16;
  dcache_sets = 1;
  dcache_ways = 1;
  dcache_back = true;
  l2_line = 16;
  l2_sets = 1;
  l2_ways = 2;
  l2_hit = 4;
  l2_miss = 10;
}

-- version = 2, core.window = 8, dcache.line = 16, dcache.sets = 1, dcache.ways = 1, l2.line = 16, l2.sets = 1,
-- l2.ways = 2, l2.hit = 4, l2.miss = 10
abbrev pub write_through_before_second_level : Params
write_through_before_second_level = record plain_machine {
  version = 2;
  core_window = 8;
  dcache_line = 16;
  dcache_sets = 1;
  dcache_ways = 1;
  l2_line = 16;
  l2_sets = 1;
  l2_ways = 2;
  l2_hit = 4;
  l2_miss = 10;
}

-- version = 2, core.window = 8, icache.line = 16, icache.sets = 1, icache.ways = 1, dcache.line = 16, dcache.sets = 1,
-- dcache.ways = 1, l2.line = 16, l2.sets = 4, l2.ways = 2, l2.hit = 4, l2.miss = 10
abbrev pub both_caches_before_second_level : Params
both_caches_before_second_level = record plain_machine {
  version = 2;
  core_window = 8;
  icache_line = 16;
  icache_sets = 1;
  icache_ways = 1;
  dcache_line = 16;
  dcache_sets = 1;
  dcache_ways = 1;
  l2_line = 16;
  l2_sets = 4;
  l2_ways = 2;
  l2_hit = 4;
  l2_miss = 10;
}

-- core.fetch = 4, core.commit = 4, core.window = 16, mul.latency = 8
abbrev pub slow_multiplier : Params
slow_multiplier = record plain_machine { core_fetch = 4; core_commit = 4; core_window = 16; mul_latency = 8 }

-- core.fetch = 4, core.commit = 4, core.window = 32, alu.count = 4, predictor.kind = "bimodal", predictor.targets = 16
abbrev pub bimodal_window_of_thirty_two : Params
bimodal_window_of_thirty_two = record plain_machine {
  core_fetch = 4;
  core_commit = 4;
  core_window = 32;
  alu_count = 4;
  predictor_kind = Bimodal;
  predictor_targets = 16;
}

-- Machine files for the in-order machine: the keys that differ from the defaults. It always has room for four records.
use Rattle.mono_model.specs.declared.params.Params.{Params}
use Rattle.worked_examples.specs.Setups.{plain_machine}

abbrev pub in_order_machine : Params
in_order_machine = record plain_machine { core_window = 4 }

-- mem.latency = 3
abbrev pub slow_memory : Params
slow_memory = record in_order_machine { mem_latency = 3 }

-- div.latency = 8, mul.latency = 3
abbrev pub slow_units : Params
slow_units = record in_order_machine { div_latency = 8; mul_latency = 3 }

-- dcache.line = 16, dcache.sets = 1, dcache.ways = 1, dcache.miss = 10
abbrev pub one_line_cache_in_order : Params
one_line_cache_in_order = record in_order_machine {
  dcache_line = 16;
  dcache_sets = 1;
  dcache_ways = 1;
  dcache_miss = 10;
}

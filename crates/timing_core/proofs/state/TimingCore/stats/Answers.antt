use Rattle.mono_model.specs.Setup.{caches_params}
use Rattle.timing_core.proofs.state.TimingCore.stats.Goals as goal

pub returns : goal.returns
returns c = record {
  stats = λ s t k.
      let caches = c.counts-caches.ensures.counts (caches_params s.params) t.caches k.caches in
      λ i. record {
        version = (k.params i).version;
        cycles = k.cycle i;
        instructions = k.retired i;
        exceptions = (k.counts i).exceptions;
        interrupts = (k.counts i).interrupts;
        replays = (k.counts i).replays;
        fetched = (k.counts i).fetched;
        squashed = (k.counts i).squashed;
        branches = (k.counts i).branches;
        mispredicted = (k.counts i).mispredicted;
        icache_accesses = (caches i).icache_accesses;
        icache_misses = (caches i).icache_misses;
        dcache_accesses = (caches i).dcache_accesses;
        dcache_misses = (caches i).dcache_misses;
        l2_accesses = (caches i).l2_accesses;
        l2_misses = (caches i).l2_misses;
        writebacks = (caches i).writebacks;
        output = k.output i;
      };
}

use Rattle.std.proofs.Common.{◌*◌}
use Rattle.cache_timing.proofs.Start.{CacheStandsFor-start}
use Rattle.cache_timing.proofs.cache.Cache.new.Goals as goal

pub returns : goal.returns
returns c = record {
  empty = CacheStandsFor-start _ (c.args.p.sets * c.args.p.ways) c.in_ok-lines.ensures c.in_ok-ages.ensures c.in_ok-latest.ensures c.requires.in_range.ways_most;
}

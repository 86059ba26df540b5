use Rattle.std.proofs.Common.{◌∙◌, ap}
use Rattle.cache_timing.specs.Caches.{dcache_counted}
use Rattle.cache_timing.proofs.caches.Caches.touch_dcache.Goals as goal

pub returns-clause-state : goal.returns-clause-state
returns-clause-state c = λ p s k. record {
  sizes = k.sizes;
  icache = k.icache;
  dcache = c.access-touch.ensures.sets p.dcache p.back s.dcache k.dcache;
  l2 = k.l2;
  counts =
      c.count_dcache.ensures ∙ ap (dcache_counted c.access-touch.result) k.counts
      ∙ ap (λ touch. dcache_counted touch s.counts) (c.access-touch.ensures.touch p.dcache p.back s.dcache k.dcache);
  fetched = k.fetched;
}

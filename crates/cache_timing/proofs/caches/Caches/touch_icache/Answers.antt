use Rattle.std.proofs.Common.{◌≢◌, false, ◌∙◌, ap, subst}
use Rattle.cache_timing.specs.declared.params.CacheParams.{CacheParams}
use Rattle.cache_timing.specs.Caches.{icache_counted}
use Rattle.cache_timing.proofs.Latest.{IsLatest-around}
use Rattle.cache_timing.proofs.caches.Caches.touch_icache.Goals as goal

pub returns-clause-state : goal.returns-clause-state
returns-clause-state c = λ p s k. record {
  sizes = k.sizes;
  icache = c.access-touch.ensures.sets p.icache false s.icache k.icache;
  dcache = k.dcache;
  l2 = k.l2;
  counts =
      c.count_icache.ensures ∙ ap (icache_counted c.access-touch.result) k.counts
      ∙ ap (λ touch. icache_counted touch s.counts) (c.access-touch.ensures.touch p.icache false s.icache k.icache);
  fetched =
      let Some : CacheParams → Type 0 = λ q. q.ways ≢ 0 in
      IsLatest-around c.access-touch.new.self c.line_around-self.result p.icache false s.icache c.args.addr false (c.access-touch.ensures.sets p.icache false s.icache k.icache).sizes
      (subst Some k.icache.sizes c.requires.some_way) c.line_around-self.ensures.addr c.line_around-self.ensures.length;
}

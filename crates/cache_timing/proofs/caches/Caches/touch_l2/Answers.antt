use Rattle.std.proofs.Common.{false, ◌∙◌, ap}
use Rattle.cache_timing.specs.Caches.{l2_counted}
use Rattle.cache_timing.proofs.caches.Caches.touch_l2.Goals as goal

pub returns-clause-state : goal.returns-clause-state
returns-clause-state c = λ p s k. record {
  sizes = k.sizes;
  icache = k.icache;
  dcache = k.dcache;
  l2 = c.access-touch.ensures.sets p.l2 false s.l2 k.l2;
  counts =
      c.count_l2.ensures ∙ ap (l2_counted c.access-touch.result) k.counts
      ∙ ap (λ touch. l2_counted touch s.counts) (c.access-touch.ensures.touch p.l2 false s.l2 k.l2);
  fetched = k.fetched;
}

use Rattle.std.proofs.Common.{◌≢◌, false, ◌∙◌, ap, refl, sym, subst}
use Rattle.cache_timing.specs.declared.cache.Touch.TheVariants as touch
use Rattle.cache_timing.specs.declared.params.CacheParams.{CacheParams}
use Rattle.cache_timing.specs.Caches.{Served, icache_counted}
use Rattle.cache_timing.specs.CachesStandFor.{CachesStandFor}
use Rattle.cache_timing.proofs.Latest.{IsLatest-around, fetched-hit}
use Rattle.cache_timing.proofs.caches.Caches.fetch_elsewhere.Goals as goal

pub returns-then-is_latest-clause-state : goal.returns-then-is_latest-clause-state
returns-then-is_latest-clause-state c = λ p s k.
    let After : Served → Type 0 =
    λ served.
    CachesStandFor (record c.args.self.now { counts = c.count_icache_hit.new.self; fetched = c.line_around-self.result }) p served.state in
    let Some : CacheParams → Type 0 = λ q. q.ways ≢ 0 in
    subst After (sym (fetched-hit p s c.args.addr (c.if-is_latest.ensures.hit refl p.icache false s.icache k.icache)))
    (record {
      sizes = k.sizes;
      icache = c.if-is_latest.ensures.kept refl p.icache false s.icache k.icache;
      dcache = k.dcache;
      l2 = k.l2;
      counts = c.count_icache_hit.ensures ∙ ap (icache_counted touch.Hit) k.counts;
      fetched =
          IsLatest-around c.args.self.now.icache c.line_around-self.result p.icache false s.icache c.args.addr false k.icache.sizes
          (subst Some k.icache.sizes c.requires.some_way) c.line_around-self.ensures.addr c.line_around-self.ensures.length;
    })

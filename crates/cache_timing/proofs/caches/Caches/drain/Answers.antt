use Rattle.std.proofs.Common.{ℕ, Option, ◌∙◌, ap, sym, subst}
use Rattle.cache_timing.specs.Caches.{drained, writeback_counted}
use Rattle.cache_timing.specs.CachesStandFor.{CachesStandFor}
use Rattle.cache_timing.proofs.caches.Caches.drain.Goals as goal

pub returns-in-Some : goal.returns-in-Some
returns-in-Some c = λ p s k.
    let After : Option ℕ → Type 0 = λ dropped. CachesStandFor c.miss.new.self p (drained p dropped s) in
    subst After (sym c.in-Some.is)
    (c.miss.ensures.state p (record s { counts = writeback_counted s.counts })
    (record {
      sizes = k.sizes;
      icache = k.icache;
      dcache = k.dcache;
      l2 = k.l2;
      counts = c.count_writeback.ensures ∙ ap writeback_counted k.counts;
      fetched = k.fetched;
    }))

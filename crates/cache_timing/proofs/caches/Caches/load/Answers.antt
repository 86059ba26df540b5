use Rattle.std.proofs.Common.{◌≡◌, false, ◌∙◌, arith, ap, refl, sym, subst}
use Rattle.cache_timing.specs.declared.cache.Touch.TheVariants as touch
use Rattle.cache_timing.specs.declared.params.AllCaches.{AllCaches}
use Rattle.cache_timing.specs.Caches.{CachesState, Served, loaded, dcache_counted}
use Rattle.cache_timing.specs.CachesStandFor.{CachesStandFor}
use Rattle.cache_timing.proofs.Accesses.{touched-none}
use Rattle.cache_timing.proofs.Latest.{loaded-hit, loaded-none}
use Rattle.cache_timing.proofs.caches.Caches.load.Goals as goal

pub returns-then-is_latest-clause-state : goal.returns-then-is_latest-clause-state
returns-then-is_latest-clause-state c = λ p s k.
    let After : Served → Type 0 = λ served. CachesStandFor (record c.args.self.now { counts = c.count_dcache_hit.new.self }) p served.state in
    subst After (sym (loaded-hit p s c.args.addr (c.if-is_latest.ensures.hit refl p.dcache p.back s.dcache k.dcache)))
    (record {
      sizes = k.sizes;
      icache = k.icache;
      dcache = c.if-is_latest.ensures.kept refl p.dcache p.back s.dcache k.dcache;
      l2 = k.l2;
      counts = c.count_dcache_hit.ensures ∙ ap (dcache_counted touch.Hit) k.counts;
      fetched = k.fetched;
    })

-- without the cache nothing is changed or added
nothing : (c : goal.Then-is_absent) (p : AllCaches) (s : CachesState) → CachesStandFor c.args.self.now p s →
    loaded p s c.args.addr ≡ record { state = s; cycles = 0 }
nothing c p s k =
    loaded-none p s c.args.addr
    (touched-none c.args.self.now.dcache p.dcache p.back s.dcache c.args.addr false k.dcache (grind (arith, c.if-is_absent.ensures)))

pub returns-then-is_absent-clause-cycles : goal.returns-then-is_absent-clause-cycles
returns-then-is_absent-clause-cycles c = λ p s k. ap (λ (served : Served). served.cycles) (sym (nothing c p s k))

pub returns-then-is_absent-clause-state : goal.returns-then-is_absent-clause-state
returns-then-is_absent-clause-state c = λ p s k.
    let After : Served → Type 0 = λ served. CachesStandFor c.args.self.now p served.state in
    subst After (sym (nothing c p s k)) k

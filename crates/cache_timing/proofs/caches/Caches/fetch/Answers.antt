use Rattle.std.proofs.Common.{◌≡◌, false, ◌∙◌, arith, ap, refl, sym, subst}
use Rattle.cache_timing.specs.declared.cache.Touch.TheVariants as touch
use Rattle.cache_timing.specs.declared.params.AllCaches.{AllCaches}
use Rattle.cache_timing.specs.Cache.{touched}
use Rattle.cache_timing.specs.Caches.{CachesState, Served, fetched, icache_counted}
use Rattle.cache_timing.specs.CachesStandFor.{CachesStandFor}
use Rattle.cache_timing.proofs.Accesses.{touched-none}
use Rattle.cache_timing.proofs.Latest.{IsAgain, IsAgain-latest, IsRead, access-front, front_ways, IsLatest-touched, fetched-hit, fetched-none}
use Rattle.cache_timing.proofs.caches.Caches.fetch.Goals as goal

-- the address lies in the line fetched last
again : (c : goal.After-count_icache_hit) (p : AllCaches) (s : CachesState) → CachesStandFor c.args.self.now p s →
    IsAgain c.args.self.now.fetched p.icache s.icache c.args.addr
again c p s k =
    IsAgain-latest c.args.self.now.fetched p.icache s.icache c.args.addr k.fetched (c.if-holds.ensures.some refl) (c.if-holds.ensures.same refl)

read : (c : goal.After-count_icache_hit) (p : AllCaches) (s : CachesState) → CachesStandFor c.args.self.now p s →
    IsRead c.args.self.now.icache p.icache false (touched p.icache false s.icache c.args.addr false)
read c p s k = access-front c.args.self.now.icache p.icache false s.icache c.args.addr false k.icache refl (again c p s k).front

pub returns-then-holds-clause-cycles : goal.returns-then-holds-clause-cycles
returns-then-holds-clause-cycles c = λ p s k. ap (λ (served : Served). served.cycles) (sym (fetched-hit p s c.args.addr (read c p s k).0))

pub returns-then-holds-clause-state : goal.returns-then-holds-clause-state
returns-then-holds-clause-state c = λ p s k.
    let After : Served → Type 0 = λ served. CachesStandFor (record c.args.self.now { counts = c.count_icache_hit.new.self }) p served.state in
    let front : IsAgain c.args.self.now.fetched p.icache s.icache c.args.addr = again c p s k in
    subst After (sym (fetched-hit p s c.args.addr (read c p s k).0))
    (record {
      sizes = k.sizes;
      icache = (read c p s k).1;
      dcache = k.dcache;
      l2 = k.l2;
      counts = c.count_icache_hit.ensures ∙ ap (icache_counted touch.Hit) k.counts;
      fetched =
          IsLatest-touched c.args.self.now.fetched p.icache false s.icache c.args.addr false
          (front_ways c.args.self.now.icache p.icache false s.icache c.args.addr k.icache front.front) front.length front.same;
    })

-- without the cache nothing is changed or added
nothing : (c : goal.Then-is_absent) (p : AllCaches) (s : CachesState) → CachesStandFor c.args.self.now p s →
    fetched p s c.args.addr ≡ record { state = s; cycles = 0 }
nothing c p s k =
    fetched-none p s c.args.addr
    (touched-none c.args.self.now.icache p.icache false s.icache c.args.addr false k.icache (grind (arith, c.if-is_absent.ensures)))

pub returns-then-is_absent-clause-cycles : goal.returns-then-is_absent-clause-cycles
returns-then-is_absent-clause-cycles c = λ p s k. ap (λ (served : Served). served.cycles) (sym (nothing c p s k))

pub returns-then-is_absent-clause-state : goal.returns-then-is_absent-clause-state
returns-then-is_absent-clause-state c = λ p s k.
    let After : Served → Type 0 = λ served. CachesStandFor c.args.self.now p served.state in
    subst After (sym (nothing c p s k)) k

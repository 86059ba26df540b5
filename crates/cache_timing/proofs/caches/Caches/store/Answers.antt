use Rattle.std.proofs.Common.{◌≡◌, true, arith, sym, subst}
use Rattle.cache_timing.specs.Caches.{stored}
use Rattle.cache_timing.specs.CachesStandFor.{CachesStandFor}
use Rattle.cache_timing.proofs.Accesses.{touched-none}
use Rattle.cache_timing.proofs.Latest.{stored-none}
use Rattle.cache_timing.proofs.caches.Caches.store.Goals as goal

pub returns-then-is_absent : goal.returns-then-is_absent
returns-then-is_absent c = record {
  state = λ p s k.
      let same : stored p s c.args.addr ≡ s =
      stored-none p s c.args.addr
      (touched-none c.args.self.now.dcache p.dcache p.back s.dcache c.args.addr true k.dcache (grind (arith, c.if-is_absent.ensures))) in
      subst (CachesStandFor c.args.self.now p) (sym same) k;
}

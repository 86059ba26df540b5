use Rattle.insight_model.specs.Accesses.{fetches}
use Rattle.std.proofs.Common.{ap, refl}
use Rattle.cycle_watch.specs.declared.profile.Profiling.{Profiling}
use Rattle.cycle_watch.proofs.Making.{one_made}
use Rattle.cycle_watch.proofs.profile.Profiling.fetch.Goals as goal

pub returns-clause-made : goal.returns-clause-made
returns-clause-made c =
    one_made c.args.by (fetches c.args.by) c.args.self.now (record c.args.self.now { caches = c.fetch.new.self }) c.charge.new.self c.counts-before.result c.counts-after.result
    c.counts-before.ensures.counts c.fetch.ensures.state c.counts-after.ensures.counts refl refl (ap (λ (x : Profiling). x.caches) c.charge.ensures.rest) c.charge.ensures.counted

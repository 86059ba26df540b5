use Rattle.std.proofs.Common.{◌∙◌, sym, ap, subst, List}
use Rattle.trace_ring.specs.declared.line.View.{View}
use Rattle.trace_ring.specs.Line.{Allowed, seen}
use Rattle.trace_ring.proofs.LineSteps.{pushes}
use Rattle.trace_ring.proofs.outlet.send.Goals as goal

pub try_push_as-requires-clause-rule : goal.try_push_as-requires-clause-rule
try_push_as-requires-clause-rule g c =
    let may = g.L.Law.allows in
    let was = seen c.args.pass.now in
    let same = c.loop.invariant.1 in
    let all : Allowed (may was.setup) was.values c.loop.group = subst (λ (zs : List g.row.T.Denot). Allowed (may was.setup) was.values zs) (sym c.loop.invariant.2) c.requires.allowed in
    pushes may _ _ _ _ (ap (λ (u : View g.row.T.Denot). u.role) same ∙ c.requires.role)
    (subst (λ (u : View g.row.T.Denot). Allowed (may u.setup) u.values c.loop.group) (sym same) all)

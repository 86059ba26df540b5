use Rattle.std.proofs.Common.{rules, ◌∙◌, ◌+◌, ◌<◌, ◌≡◌, ◌++◌, ◌∷◌, [], ℕ, List, length, sym, ap, subst, arith}
use Rattle.trace_ring.specs.Line.{seen, OutletAt, IsOutlet, Allowed}
use Rattle.trace_ring.proofs.Handing.{joined, waits}
use Rattle.trace_ring.proofs.outlet.Outlet.put.Goals as goal

pub invariant_of-self-else-len-self : goal.invariant_of-self-else-len-self
invariant_of-self-else-len-self g c =
    let o = c.self.inside in
    let may = subst (λ (a : OutletAt g.row.T.Denot). g.L.Law.allows a.setup a.values c.args.value) (sym c.self.view_is) c.requires.allowed in
    let room : length ((seen o.pass).values ++ o.outgoing) < o.known + o.bound = subst (λ (a : OutletAt g.row.T.Denot). length a.values < a.known + a.bound) (sym c.self.view_is) c.requires.room in
    let few : length (o.outgoing ++ c.args.value ∷ []) < o.size = omega (arith, c.if-len-self.false, c.len.ensures.len, ap (λ (zs : List g.row.T.Denot). length zs) c.push.ensures.pushed) in
    let on = waits g.L.Law.allows (seen o.pass) o.outgoing o.size o.bound o.pushed o.known c.self.invariant.2 c.args.value may room few in (
      c.self.invariant.0,
      c.self.invariant.1,
      subst (λ (n : ℕ). IsOutlet g.L.Law.allows (seen o.pass) c.push.new.self o.size o.bound n o.known) (sym c.one_more-self-inside.ensures.more)
          (subst (λ (zs : List g.row.T.Denot). IsOutlet g.L.Law.allows (seen o.pass) zs o.size o.bound (o.pushed + 1) o.known) (sym c.push.ensures.pushed) on),
    )

pub send-requires : goal.send-requires
send-requires g c =
    let o = c.self.inside in
    let may = subst (λ (a : OutletAt g.row.T.Denot). g.L.Law.allows a.setup a.values c.args.value) (sym c.self.view_is) c.requires.allowed in
    let all = joined g.L.Law.allows (seen o.pass) o.outgoing o.size o.bound o.pushed o.known c.self.invariant.2 c.args.value may in (
      search rules,
      (
        search rules,
        (
          c.self.invariant.2.pushes,
          subst (λ (zs : List g.row.T.Denot). Allowed (g.L.Law.allows (seen o.pass).setup) (seen o.pass).values zs) (sym c.push.ensures.pushed) all,
        ),
      ),
    )

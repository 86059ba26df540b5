use Rattle.std.proofs.Common.{rules, ◌∙◌, ap, subst, sym, ◌+◌, ℕ}
use Rattle.trace_ring.specs.Line.{seen, InletAt, inlet_at, has_taken, IsInlet}
use Rattle.trace_ring.proofs.Handing.{handed_on, may_come, handed_seen}
use Rattle.trace_ring.proofs.inlet.Inlet.next.Goals as goal

pub invariant_of-self : goal.invariant_of-self
invariant_of-self g c =
    let i = c.self.inside in
    let on = handed_on g.L.Law.allows (seen i.pass) i.arrived i.handed i.taken c.self.invariant.2 c.in_ok-value.value c.in_ok-value.ensures.value in
    (c.self.invariant.0, c.tell.ensures.told, subst (λ (n : ℕ). IsInlet g.L.Law.allows (seen i.pass) i.arrived (i.handed + 1) n) (sym c.one_more-self-inside.ensures.more) on)

pub returns-clause-allowed : goal.returns-clause-allowed
returns-clause-allowed g c =
    let i = c.self.inside in
    subst (λ (a : InletAt g.row.T.Denot). g.L.Law.allows a.setup a.values c.in_ok-value.value) (c.self.view_is ∙ c.fill.ensures.same)
    (may_come g.L.Law.allows (seen i.pass) i.arrived i.handed i.taken c.self.invariant.2 c.in_ok-value.value c.in_ok-value.ensures.value)

pub returns-clause-taken : goal.returns-clause-taken
returns-clause-taken g c =
    let i = c.self.inside in
    let x = c.in_ok-value.value in
    ap (λ (n : ℕ). inlet_at (seen i.pass) n) c.one_more-self-inside.ensures.more
    ∙ handed_seen g.L.Law.allows (seen i.pass) i.arrived i.handed i.taken c.self.invariant.2 x c.in_ok-value.ensures.value
    ∙ ap (λ (a : InletAt g.row.T.Denot). has_taken a x) (c.self.view_is ∙ c.fill.ensures.same)

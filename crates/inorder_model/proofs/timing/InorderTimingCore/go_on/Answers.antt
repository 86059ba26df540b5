use Rattle.std.proofs.Common.{◌≡◌, ℕ, ◌+◌, Some, refl, ap, ◌∙◌, arith}
use Rattle.mono_model.specs.declared.params.Params.{Params}
use Rattle.mono_model.specs.Issue.{cached}
use Rattle.timing_core.proofs.Issuing.{end_cycle}
use Rattle.inorder_machine.specs.Execute.{memory_latency}
use Rattle.inorder_side.specs.Phases.{with_caches}
use Rattle.inorder_model.proofs.Relations.{cached_small}
use Rattle.inorder_model.proofs.timing.InorderTimingCore.go_on.Goals as goal

pub returns-clause-kept : goal.returns-clause-kept
returns-clause-kept c = λ s l h small.
    let slot = c.args.leaving.now.slot in
    let t = l.timing in
    let d = cached s slot.cause slot.access t.caches in
    let cold = with_caches d.state t in
    let kept = c.access-added.ensures.kept s t h.core in
    let latency : c.from.result ≡ memory_latency s.params slot.class =
    c.from.ensures ∙ c.memory_latency-latency.ensures.latency ∙ ap (λ (p : Params). memory_latency p slot.class) (c.params.ensures.params ∙ kept.params) in
    let added = c.from-2.ensures ∙ c.access-added.ensures.cycles s t h.core in
    let ends = end_cycle _ _ c.cycle.result t.cycle c.from.result c.from-2.result refl refl
    (c.cycle.ensures.cycle s cold kept) small.cycle (omega arith) (omega arith) in
    record {
      core = c.complete_first.ensures.kept s cold kept (cached_small d.state t small);
      memory = ap Some (ends ∙ ap (λ (n : ℕ). t.cycle + n + c.from-2.result) latency ∙ ap (λ (n : ℕ). t.cycle + memory_latency s.params slot.class + n) added);
    }

pub returns-clause-orders : goal.returns-clause-orders
returns-clause-orders c = λ s l h small.
    let slot = c.args.leaving.now.slot in
    let d = cached s slot.cause slot.access l.timing.caches in
    c.complete_first.ensures.orders s (with_caches d.state l.timing) (c.access-added.ensures.kept s l.timing h.core) (cached_small d.state l.timing small)

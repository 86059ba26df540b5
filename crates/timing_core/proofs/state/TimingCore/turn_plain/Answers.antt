use Rattle.std.proofs.Common.{◌≡◌, ℕ, ◌+◌, ◌%◌, ◌^◌, ◌∙◌, refl, ap, sym, subst, arith}
use Rattle.std.proofs.lemmas.Option.{slice_get_within}
use Rattle.fsim_base.specs.declared.instruction.Class.{Class}
use Rattle.cache_timing.specs.Caches.{Served}
use Rattle.cache_timing.specs.CachesStandFor.{CachesStandFor}
use Rattle.mono_model.specs.declared.params.Params.{Params}
use Rattle.mono_model.specs.Setup.{caches_params}
use Rattle.mono_model.specs.Issue.{latency_of, with_used, cached, no_miss}
use Rattle.timing_core.specs.Units.{used_in}
use Rattle.timing_core.proofs.Issuing.{goes_nowhere, end_cycle}
use Rattle.timing_core.proofs.Turning.{rest_kept, rest_counted, begin_counted, begin_kept, begin_behind}
use Rattle.timing_core.proofs.state.TimingCore.turn_plain.Goals as goal

pub begin-requires-clause-within : goal.begin-requires-clause-within
begin-requires-clause-within c = slice_get_within c.args.self.now.flight.slots c.args.place c.args.slot.now c.requires.there

pub returns-then-not-may_compute-clause-kept : goal.returns-then-not-may_compute-clause-kept
returns-then-not-may_compute-clause-kept c =
    rest_kept c.args.self.now c.args.place c.args.busy c.args.used c.args.slot.now c.requires.there (sym c.may_compute.ensures.begins ∙ c.if-not-may_compute.true)

pub returns-then-not-may_compute-clause-used : goal.returns-then-not-may_compute-clause-used
returns-then-not-may_compute-clause-used c =
    rest_counted c.args.self.now c.args.place c.args.busy c.args.used c.args.slot.now c.requires.there (sym c.may_compute.ensures.begins ∙ c.if-not-may_compute.true)

pub returns-clause-kept : goal.returns-clause-kept
returns-clause-kept c =
    let core = c.args.self.now in let found = c.args.slot.now in let plain = c.requires.plain in
    let until : ℕ = (core.cycle + c.from-latency.result) % 2 ^ 64 in
    begin_kept core c.args.place c.args.busy c.args.used found c.requires.there c.begin.new.self until c.begin.ensures.begun
    (sym c.may_compute.ensures.begins ∙ c.if-not-may_compute.false) core.caches
    (λ s t k small.
    let latency : c.from-latency.result ≡ latency_of s.params found.class =
    c.from-latency.ensures ∙ ap (λ (p : Params). p.alu_latency) k.params ∙ ap (latency_of s.params) (sym plain.0) in
    let none : cached s found.cause found.access t.caches ≡ no_miss t.caches = goes_nowhere s found t.caches plain.1 in
    let ends : until ≡ t.cycle + c.from-latency.result + 0 =
    end_cycle until _ core.cycle t.cycle c.from-latency.result 0 refl (omega arith) k.cycle small (omega arith) (omega arith) in (
      ends ∙ ap (λ (n : ℕ). t.cycle + n + 0) latency ∙ ap (λ (d : Served). t.cycle + latency_of s.params found.class + d.cycles) (sym none),
      subst (λ (d : Served). CachesStandFor core.caches (caches_params s.params) d.state) (sym none) k.caches,
    ))

pub returns-clause-used : goal.returns-clause-used
returns-clause-used c =
    begin_counted c.args.self.now c.args.place c.args.busy c.args.used c.args.slot.now c.requires.there (sym c.may_compute.ensures.begins ∙ c.if-not-may_compute.false) c.with_alu.result
    (c.with_alu.ensures.counted ∙ ap (λ (kind : Class). with_used kind (used_in c.args.used)) (sym c.requires.plain.0))

pub returns-clause-behind : goal.returns-clause-behind
returns-clause-behind c =
    let until : ℕ = (c.args.self.now.cycle + c.from-latency.result) % 2 ^ 64 in
    begin_behind c.args.self.now c.args.place c.args.busy c.args.used c.args.slot.now c.requires.there c.begin.new.self until c.begin.ensures.begun c.requires.ready

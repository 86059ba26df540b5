use Rattle.std.proofs.Common.{◌≡◌, ℕ, ◌+◌, ◌%◌, ◌^◌, ◌∙◌, refl, ap, sym, arith}
use Rattle.std.proofs.lemmas.Option.{slice_get_within}
use Rattle.mono_model.specs.declared.params.Params.{Params}
use Rattle.mono_model.specs.Issue.{latency_of, cached}
use Rattle.timing_core.proofs.Issuing.{end_cycle}
use Rattle.timing_core.proofs.Turning.{rest_kept, rest_counted, begin_counted, begin_kept, begin_behind}
use Rattle.timing_core.proofs.state.TimingCore.turn_any.Goals as goal

pub begin-requires-clause-within : goal.begin-requires-clause-within
begin-requires-clause-within c = slice_get_within c.args.self.now.flight.slots c.args.place c.args.slot.now c.requires.there

pub returns-then-not-may_begin-clause-kept : goal.returns-then-not-may_begin-clause-kept
returns-then-not-may_begin-clause-kept c =
    rest_kept c.args.self.now c.args.place c.args.busy c.args.used c.args.slot.now c.requires.there (sym c.may_begin.ensures.begins ∙ c.if-not-may_begin.true)

pub returns-then-not-may_begin-clause-used : goal.returns-then-not-may_begin-clause-used
returns-then-not-may_begin-clause-used c =
    rest_counted c.args.self.now c.args.place c.args.busy c.args.used c.args.slot.now c.requires.there (sym c.may_begin.ensures.begins ∙ c.if-not-may_begin.true)

pub returns-clause-kept : goal.returns-clause-kept
returns-clause-kept c =
    let core = c.args.self.now in let found = c.args.slot.now in
    let until : ℕ = ((core.cycle + c.from-latency.result) % 2 ^ 64 + c.from.result) % 2 ^ 64 in
    begin_kept core c.args.place c.args.busy c.args.used found c.requires.there c.begin.new.self until c.begin.ensures.begun
    (sym c.may_begin.ensures.begins ∙ c.if-not-may_begin.false) c.load_cycles-added.new.caches
    (λ s t k small.
    let latency : c.from-latency.result ≡ latency_of s.params found.class =
    c.from-latency.ensures ∙ c.latency_of.ensures.latency ∙ ap (λ (p : Params). latency_of p found.class) k.params in
    let added : c.from.result ≡ (cached s found.cause found.access t.caches).cycles = c.from.ensures ∙ c.load_cycles-added.ensures.cycles s t.caches k.caches in
    let ends : until ≡ t.cycle + c.from-latency.result + c.from.result =
    end_cycle until _ core.cycle t.cycle c.from-latency.result c.from.result refl refl k.cycle small (omega arith) (omega arith) in (
      ends ∙ ap (λ (n : ℕ). t.cycle + n + c.from.result) latency ∙ ap (λ (n : ℕ). t.cycle + latency_of s.params found.class + n) added,
      c.load_cycles-added.ensures.state s t.caches k.caches,
    ))

pub returns-clause-used : goal.returns-clause-used
returns-clause-used c =
    begin_counted c.args.self.now c.args.place c.args.busy c.args.used c.args.slot.now c.requires.there (sym c.may_begin.ensures.begins ∙ c.if-not-may_begin.false) c.with.result c.with.ensures.counted

pub returns-clause-behind : goal.returns-clause-behind
returns-clause-behind c =
    let until : ℕ = ((c.args.self.now.cycle + c.from-latency.result) % 2 ^ 64 + c.from.result) % 2 ^ 64 in
    begin_behind c.args.self.now c.args.place c.args.busy c.args.used c.args.slot.now c.requires.there c.begin.new.self until c.begin.ensures.begun c.requires.ready

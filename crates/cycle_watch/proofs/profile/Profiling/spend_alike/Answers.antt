use Rattle.std.proofs.Common.{◌≡◌, ◌∙◌, ◌+◌, ◌-◌, ◌<◌, [], ◌∷◌, ◌++◌, ℕ, ap, refl, sym, subst, arith}
use Rattle.mono_model.specs.Setup.{caches_params}
use Rattle.insight_model.specs.declared.pipeline.Pipeline.TheVariants.{Window}
use Rattle.insight_model.specs.Cycles.{cycles_from}
use Rattle.cycle_watch.specs.declared.heads.Heads.{Heads}
use Rattle.cycle_watch.specs.declared.profile.Profiling.{Profiling}
use Rattle.cycle_watch.specs.Facts.{at_cycle}
use Rattle.cycle_watch.specs.Known.{StandsAt}
use Rattle.cycle_watch.specs.Passing.{idle_between, known_later}
use Rattle.cycle_watch.specs.Profiled.{IsProfileOf, Passes, spent_event}
use Rattle.cycle_watch.proofs.Between.{follows_later, stands_later, told_later}
use Rattle.cycle_watch.proofs.ProfileIdle.{profiled_alike}
use Rattle.cycle_watch.proofs.ProfileMore.{passes_alone}
use Rattle.cycle_watch.proofs.profile.Profiling.spend_alike.Goals as goal

pub head-head-requires : goal.head-head-requires
head-head-requires g c = record { kept = omega (arith, c.requires.told.kept) }

-- where it stands then
pub returns-clause-further : goal.returns-clause-further
returns-clause-further g c = omega (arith, ap (λ (x : Profiling). x.heads.last.cycle) c.spend.ensures.rest, ap (λ (h : Heads). h.last.cycle) c.pass_alike-cycles.ensures.passed, c.pass_alike-cycles.ensures.some)

pub returns-clause-within : goal.returns-clause-within
returns-clause-within g c = omega (arith, ap (λ (x : Profiling). x.heads.last.cycle) c.spend.ensures.rest, ap (λ (h : Heads). h.last.cycle) c.pass_alike-cycles.ensures.passed, c.pass_alike-cycles.ensures.within)

pub returns-clause-stands : goal.returns-clause-stands
returns-clause-stands g c = λ p known stands.
    let after = g.S.Watched.sight c.args.side.now in
    let heads = c.args.self.now.heads in
    let new = c.pass_alike-cycles.new.self in
    let from = heads.last.cycle in
    let at = ap (λ (h : Heads). h.last.cycle) c.pass_alike-cycles.ensures.passed in
    let N : ℕ → Type 0 = λ n. StandsAt Window p (at_cycle n after) (known_later Window p known (idle_between from n after)) new in
    let H : Heads → Type 0 = λ h. StandsAt Window p (at_cycle h.last.cycle after) (known_later Window p known (idle_between from h.last.cycle after)) h in
    subst H (sym (ap (λ (x : Profiling). x.heads) c.spend.ensures.rest))
    (subst N (sym at)
    (stands_later p from after known heads stands (from + c.pass_alike-cycles.result) new (omega arith) c.requires.standing.goes c.pass_alike-cycles.ensures.passed))

pub returns-clause-profiled : goal.returns-clause-profiled
returns-clause-profiled g c = λ image p known run stands is.
    let st = c.requires.standing in
    let after = g.S.Watched.sight c.args.side.now in
    let self = c.args.self.now in
    let heads = self.heads in
    let from = heads.last.cycle in
    let cycles = c.pass_alike-cycles.result in
    let here = at_cycle from after in
    let follows = follows_later from after st.few st.within in
    let told = told_later here after (from + 1) c.args.facts.now c.requires.told in
    let at = ap (λ (h : Heads). h.last.cycle) c.pass_alike-cycles.ensures.passed in
    let last = ap (λ (x : Profiling). x.heads.last.cycle) c.spend.ensures.rest in
    let many : from + cycles - from ≡ cycles = omega arith in
    let order : from < from + cycles = omega (arith, c.pass_alike-cycles.ensures.some) in
    let new = c.spend.new.self in
    let head = c.head-head.result in
    let mid : Profiling = record self { heads = c.pass_alike-cycles.new.self } in
    let N : ℕ → Type 0 = λ n. IsProfileOf image (caches_params p) Window (run ++ cycles_from Window p known (idle_between from n after)) new in
    let P : ℕ → Type 0 = λ n. Passes (λ image. spent_event image head n ∷ []) [] [] self new in
    subst N (sym (last ∙ at))
    (profiled_alike image p from (from + cycles) after known heads head self new stands order st.started st.goes st.within c.pass_alike-cycles.ensures.turns
    (c.head-head.ensures.head Window p here known stands follows told) run is
    (subst P (sym many) (passes_alone head cycles self mid new refl refl refl c.spend.ensures.rest c.spend.ensures.counted)))

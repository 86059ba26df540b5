use Rattle.std.proofs.Common.{◌≡◌, ◌∙◌, ◌+◌, ap, length, refl, sym, subst, arith}
use Rattle.std.specs.Prelude.{filter_map, map}
use Rattle.std.proofs.lemmas.List.{length-map}
use Rattle.mono_model.specs.Setup.{caches_params}
use Rattle.insight_model.specs.declared.pipeline.Pipeline.{Pipeline}
use Rattle.insight_model.specs.Accesses.{load_access}
use Rattle.insight_model.specs.Cycles.{cycles_from, known_after}
use Rattle.insight_model.specs.Facts.{facts as cycle_facts}
use Rattle.insight_model.specs.Head.{head as head_of}
use Rattle.insight_model.specs.Sight.{Shown}
use Rattle.cycle_watch.specs.declared.heads.Heads.{Heads}
use Rattle.cycle_watch.specs.declared.mark.Mark.{Mark}
use Rattle.cycle_watch.specs.declared.profile.Profiling.{Profiling}
use Rattle.cycle_watch.specs.Facts.{access_in, at_cycle, window_in}
use Rattle.cycle_watch.specs.Known.{MayPass, StandsAt}
use Rattle.cycle_watch.specs.Shown.{shown_in}
use Rattle.cycle_watch.proofs.ProfileTold.{profiled_cycle, trap_leaves}
use Rattle.cycle_watch.proofs.profile.Profiling.count_cycle.Goals as goal

pub head-head-requires : goal.head-head-requires
head-head-requires g c = record { kept = omega (arith, c.requires.standing.told.kept) }

pub count_old-requires : goal.count_old-requires
count_old-requires g c =
    let may = c.requires.standing in
    let marks = c.args.self.now.heads.last.marks.items in
    let many : length marks ≡ length may.before.window =
    sym (length-map marks (λ (mark : Mark). shown_in mark.shown)) ∙ ap (length {A = Shown}) may.stands.keeps.window in
    record {
      each = c.requires.each;
      left = omega (arith, many, may.told.left, may.follows.kept);
      all = omega (arith, many, may.told.all);
      within = omega (arith, may.told.all, may.told.left, may.told.kept, may.follows.kept);
      trap = trap_leaves may.before (g.S.Watched.sight c.args.side.now) c.args.facts.now may.told may.follows;
    }

pub pass-requires : goal.pass-requires
pass-requires g c =
    let M : Heads → Type 0 = λ h. MayPass h (g.S.Watched.sight c.args.side.now) c.args.facts.now in
    record { standing = subst M (sym (ap (λ (x : Profiling). x.heads) c.count_old.ensures.rest)) c.requires.standing }

pub count_new-requires : goal.count_new-requires
count_new-requires g c = record { each = c.count_old.ensures.each }

pub returns-clause-stands : goal.returns-clause-stands
returns-clause-stands g c = λ kind p before known stands follows told.
    let after = g.S.Watched.sight c.args.side.now in
    let S : Heads → Type 0 = λ h. StandsAt kind p before known h in
    let N : Heads → Type 0 = λ h. StandsAt kind p (at_cycle (before.cycle + 1) after) (known_after kind p (cycle_facts before after) known) h in
    let there = c.pass.ensures.stands kind p before known (subst S (sym (ap (λ (x : Profiling). x.heads) c.count_old.ensures.rest)) stands) follows told in
    subst N (sym (ap (λ (x : Profiling). x.heads) c.count_new.ensures.rest)) there

pub returns-clause-profiled : goal.returns-clause-profiled
unfolding cycles_from
returns-clause-profiled g c = λ image kind p before known run stands follows told is.
    let after = g.S.Watched.sight c.args.side.now in
    let self = c.args.self.now in
    let facts = c.args.facts.now in
    let same = ap (λ (x : Profiling). x.heads) c.count_old.ensures.rest in
    let S : Heads → Type 0 = λ h. StandsAt kind p before known h in
    let on = subst S (sym same) stands in
    let there = c.pass.ensures.stands kind p before known on follows told in
    let heads = c.pass.new.self in
    let L : Pipeline → Type 0 = λ k. map access_in heads.last.loads.items ≡ filter_map (load_access k) (cycle_facts before after).kept in
    profiled_cycle before after facts told follows image (caches_params p) kind run c.head-head.result (head_of kind p (cycle_facts before after) known) (window_in self.heads.last.marks.items) (window_in heads.last.marks.items)
    (map access_in heads.last.loads.items) self c.count_old.new.self (record c.count_old.new.self { heads = heads }) c.count_new.new.self is
    (c.head-head.ensures.head kind p before known stands follows told) stands.keeps.window there.keeps.window
    (subst L on.watches.pipeline (c.pass.ensures.loads before on.keeps follows told))
    (omega (arith, told.all, c.requires.few))
    c.count_old.ensures.passed refl refl refl c.count_new.ensures.passed

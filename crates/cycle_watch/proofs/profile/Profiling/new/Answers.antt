use Rattle.std.proofs.Common.{◌≡◌, ◌∙◌, ◌+◌, ℕ, ap, subst, sym}
use Rattle.std.specs.Prelude.{replicate}
use Rattle.cache_timing.specs.Caches.{cold}
use Rattle.cache_timing.specs.CachesStandFor.{CachesStandFor}
use Rattle.cache_timing.specs.declared.params.AllCaches.{AllCaches}
use Rattle.cache_timing.specs.Params.{AreInRange}
use Rattle.mono_model.proofs.Sound.{setup_facts}
use Rattle.mono_model.specs.Setup.{caches_params}
use Rattle.cycle_watch.proofs.ProfileStart.{no_profile}
use Rattle.cycle_watch.proofs.profile.Profiling.new.Goals as goal

pub new-requires-2 : goal.new-requires-2
new-requires-2 g c = record { in_range = subst AreInRange (sym c.caches_params.ensures.sizes) (setup_facts c.args.setup.now c.requires.sound).caches }

pub returns-in-Ok-clause-profiled : goal.returns-in-Ok-clause-profiled
returns-in-Ok-clause-profiled g c =
    let none = c.new-4.result in
    let are : c.in-Ok.counts.items ≡ replicate (c.len.result + 1) none = c.in-Ok.ensures.items_if_clones_equal (λ y is. is) in
    let K : AllCaches → Type 0 = λ p. CachesStandFor c.in_ok-caches.caches p cold in
    no_profile c.args.setup.now.image (caches_params c.args.setup.now.params) c.args.pipeline _ none c.in_ok-rows.ensures.rows
    (are ∙ ap (λ (n : ℕ). replicate (n + 1) none) c.len.ensures.len) c.new-4.ensures.counts c.new-4.ensures.word c.new-4.ensures.spent
    (subst K c.caches_params.ensures.sizes c.in_ok-caches.ensures.cold)

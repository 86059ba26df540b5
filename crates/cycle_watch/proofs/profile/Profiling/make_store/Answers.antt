use Rattle.std.proofs.Common.{◌∙◌, ℕ, Some, None, Option, subst, sym}
use Rattle.std.specs.Prelude.{option_to_list}
use Rattle.std.specs.Option.{option_map_or}
use Rattle.insight_model.specs.Accesses.{stores}
use Rattle.cycle_watch.specs.Profiled.{Makes}
use Rattle.cycle_watch.proofs.Making.{makes_none}
use Rattle.cycle_watch.proofs.profile.Profiling.make_store.Goals as goal

pub returns-in-Some-clause-made : goal.returns-in-Some-clause-made
returns-in-Some-clause-made c =
    let M : Option ℕ → Type 0 = λ o. Makes (option_to_list (option_map_or (λ addr. Some (record { by = c.args.shown.now.addr; what = stores addr })) o None)) c.args.self.now c.store.new.self in
    subst M c.in-Some.ensures.addr c.store.ensures.made

pub returns-in_default-clause-made : goal.returns-in_default-clause-made
returns-in_default-clause-made c =
    let M : Option ℕ → Type 0 = λ o. Makes (option_to_list (option_map_or (λ addr. Some (record { by = c.args.shown.now.addr; what = stores addr })) o None)) c.args.self.now c.args.self.now in
    subst M (sym c.in_default.is ∙ c.ram_store.ensures.addr) (makes_none c.args.self.now)

use Rattle.std.proofs.Common.{◌≡◌, ◌∙◌, ℕ, true, is_some, Some, None, Option, [], ◌∷◌, sym}
use Rattle.std.specs.Prelude.{option_to_list}
use Rattle.std.specs.Option.{option_map_or}
use Rattle.insight_model.specs.Accesses.{CacheAccess, fetch_at_address}
use Rattle.cycle_watch.specs.declared.profile.Profiling.{Profiling}
use Rattle.cycle_watch.specs.Profiled.{Makes}
use Rattle.cycle_watch.proofs.profile.Profiling.make_fetch.Goals as goal

some_made : (word : Option ℕ) (made : CacheAccess) (old new : Profiling) → is_some word ≡ true → Makes (made ∷ []) old new → Makes (option_to_list (option_map_or (λ w. Some made) word None)) old new
some_made None made old new is makes = cc
some_made (Some word) made old new is makes = makes

pub returns-then-is_some-clause-made : goal.returns-then-is_some-clause-made
returns-then-is_some-clause-made c =
    some_made c.args.shown.now.word (fetch_at_address c.args.shown.now.addr) c.args.self.now c.fetch.new.self (sym c.is_some.ensures ∙ c.if-is_some.true) c.fetch.ensures.made

use Rattle.std.proofs.Common.{◌∙◌, List, [], ◌++◌, drop, ap, subst}
use Rattle.std.proofs.lemmas.List.{append-nil}
use Rattle.insight_model.specs.Profile.{Event, events_at, fetched}
use Rattle.cycle_watch.specs.declared.heads.Heads.{Heads}
use Rattle.cycle_watch.specs.declared.profile.Profiling.{Profiling}
use Rattle.cycle_watch.specs.Facts.{access_in, window_in}
use Rattle.cycle_watch.specs.Profiled.{Makes, Passes, fetched_after}
use Rattle.std.specs.Prelude.{filter_map, map, option_to_list}
use Rattle.elf_image.specs.declared.image.Image.{Image}
use Rattle.insight_model.specs.Accesses.{CacheAccess, fetch_access, fetch_at_address}
use Rattle.cycle_watch.proofs.ProfileMore.{passes_appends, passes_as, passes_both, passes_makes}
use Rattle.cycle_watch.proofs.RowLists.{Appends}
use Rattle.cycle_watch.proofs.profile.Profiling.count_new.Goals as goal

pub returns-clause-passed : goal.returns-clause-passed
returns-clause-passed c =
    let f = c.args.facts.now in
    let old = c.args.self.now in
    let one = c.make_loads.new.self in
    let two = c.count_appended.new.self in
    let three = c.make_fetches.new.self in
    let four = c.make_missed.new.self in
    let heads_one = ap (λ (x : Profiling). x.heads) c.make_loads.ensures.rest in
    let heads_two = ap (λ (x : Profiling). x.heads) c.count_appended.ensures.rest ∙ heads_one in
    let w = window_in old.heads.last.marks.items in
    let none : Image → List Event = λ image. [] in
    let N : Image → List Event = λ image. events_at image fetched (drop f.kept w) in
    let X = drop f.kept w in
    let L = map access_in old.heads.last.loads.items in
    let F = filter_map fetch_access (fetched_after f w) in
    let M = map fetch_at_address (option_to_list f.missed) in
    let NH : Heads → Type 0 = λ h. Appends (λ image. events_at image fetched (drop f.kept (window_in h.last.marks.items))) (drop f.kept (window_in h.last.marks.items)) one two in
    let FH : Heads → Type 0 = λ h. Makes (filter_map fetch_access (fetched_after f (window_in h.last.marks.items))) two three in
    let first : Passes none L [] old one = passes_makes L old one c.make_loads.ensures.made in
    let second : Passes N [] X one two = passes_appends N X one two c.count_appended.ensures.rest (subst NH heads_one (record { each = c.count_appended.ensures.counted })) in
    let third : Passes none F [] two three = passes_makes F two three (subst FH heads_two c.make_fetches.ensures.made) in
    let fourth : Passes none M [] three four = passes_makes M three four c.make_missed.ensures.made in
    passes_as (λ image. (N image ++ []) ++ []) N ((L ++ []) ++ F ++ M) (L ++ F ++ M) ((X ++ []) ++ []) X old four (λ image. append-nil (N image ++ []) ∙ append-nil (N image)) (ap (λ (ms : List CacheAccess). ms ++ F ++ M) (append-nil L))
    (append-nil (X ++ []) ∙ append-nil X)
    (passes_both (λ image. N image ++ []) none ((L ++ []) ++ F) M (X ++ []) [] old three four
    (passes_both N none (L ++ []) F X [] old two three (passes_both none N L [] [] X old one two first second) third) fourth)

use Rattle.std.proofs.Common.{List, [], ◌∷◌, ◌++◌, refl, ap, subst}
use Rattle.std.proofs.lemmas.List.{append-nil}
use Rattle.insight_model.specs.Profile.{Event}
use Rattle.cycle_watch.specs.declared.heads.Heads.{Heads}
use Rattle.cycle_watch.specs.declared.profile.Profiling.{Profiling}
use Rattle.cycle_watch.specs.Facts.{window_in}
use Rattle.cycle_watch.specs.Profiled.{Makes, Passes, events_before, retired_before, spent_event}
use Rattle.std.specs.Prelude.{filter_map}
use Rattle.elf_image.specs.declared.image.Image.{Image}
use Rattle.insight_model.specs.Accesses.{store_access}
use Rattle.cycle_watch.proofs.ProfileMore.{passes_as, passes_both, passes_counts, passes_makes}
use Rattle.cycle_watch.proofs.RowLists.{Counts, rest_on}
use Rattle.cycle_watch.proofs.profile.Profiling.count_old.Goals as goal

pub returns-clause-passed : goal.returns-clause-passed
returns-clause-passed c =
    let f = c.args.facts.now in
    let old = c.args.self.now in
    let one = c.spend.new.self in
    let two = c.count_before.new.self in
    let three = c.make_stores.new.self in
    let rest_two = rest_on old one two c.spend.ensures.rest c.count_before.ensures.rest in
    let w = window_in old.heads.last.marks.items in
    let A : Image → List Event = λ image. spent_event image c.args.head 1 ∷ [] in
    let B : Image → List Event = λ image. events_before image f w in
    let S = filter_map store_access (retired_before f w) in
    let BH : Heads → Type 0 = λ h. Counts (λ image. events_before image f (window_in h.last.marks.items)) one two in
    let SH : Heads → Type 0 = λ h. Makes (filter_map store_access (retired_before f (window_in h.last.marks.items))) two three in
    let first : Passes A [] [] old one = passes_counts A old one c.spend.ensures.rest (record { each = c.spend.ensures.counted }) in
    let second : Passes B [] [] one two =
    passes_counts B one two c.count_before.ensures.rest (subst BH (ap (λ (x : Profiling). x.heads) c.spend.ensures.rest) (record { each = c.count_before.ensures.counted })) in
    let third : Passes (λ image. []) S [] two three = passes_makes S two three (subst SH (ap (λ (x : Profiling). x.heads) rest_two) c.make_stores.ensures.made) in
    passes_as (λ image. (A image ++ B image) ++ []) (λ image. A image ++ B image) S S [] [] old three (λ image. append-nil (A image ++ B image)) refl refl
    (passes_both (λ image. A image ++ B image) (λ image. []) [] S [] [] old two three (passes_both A B [] [] [] [] old one two first second) third)

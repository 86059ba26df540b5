use Rattle.std.proofs.Common.{List, ◌++◌, ap, subst}
use Rattle.insight_model.specs.Profile.{Event, events_at, mispredicted, retired_events, squashed, trapped}
use Rattle.cycle_watch.specs.declared.heads.Heads.{Heads}
use Rattle.cycle_watch.specs.declared.profile.Profiling.{Profiling}
use Rattle.cycle_watch.specs.Facts.{window_in}
use Rattle.cycle_watch.specs.Profiled.{retired_before, squashed_before, trapped_before, wrong_before}
use Rattle.std.specs.Prelude.{flat_map, option_to_list}
use Rattle.elf_image.specs.declared.image.Image.{Image}
use Rattle.cycle_watch.proofs.RowLists.{Counts, counts_more, rest_on}
use Rattle.cycle_watch.proofs.profile.Profiling.count_before.Goals as goal

pub returns-clause-counted : goal.returns-clause-counted
returns-clause-counted c =
    let f = c.args.facts.now in
    let old = c.args.self.now in
    let one = c.count_retired.new.self in
    let two = c.count_trapped.new.self in
    let three = c.count_squashed.new.self in
    let four = c.count_mispredicted.new.self in
    let rest_two = rest_on old one two c.count_retired.ensures.rest c.count_trapped.ensures.rest in
    let rest_three = rest_on old two three rest_two c.count_squashed.ensures.rest in
    let A : Heads → Image → List Event = λ h image. flat_map (retired_events image) (retired_before f (window_in h.last.marks.items)) in
    let B : Heads → Image → List Event = λ h image. events_at image trapped (option_to_list (trapped_before f (window_in h.last.marks.items))) in
    let C : Heads → Image → List Event = λ h image. events_at image squashed (squashed_before f (window_in h.last.marks.items)) in
    let D : Heads → Image → List Event = λ h image. events_at image mispredicted (option_to_list (wrong_before f (window_in h.last.marks.items))) in
    let w = old.heads in
    let BH : Heads → Type 0 = λ h. Counts (B h) one two in
    let CH : Heads → Type 0 = λ h. Counts (C h) two three in
    let DH : Heads → Type 0 = λ h. Counts (D h) three four in
    let first : Counts (A w) old one = record { each = c.count_retired.ensures.counted } in
    let second : Counts (B w) one two = subst BH (ap (λ (x : Profiling). x.heads) c.count_retired.ensures.rest) (record { each = c.count_trapped.ensures.counted }) in
    let third : Counts (C w) two three = subst CH (ap (λ (x : Profiling). x.heads) rest_two) (record { each = c.count_squashed.ensures.counted }) in
    let fourth : Counts (D w) three four = subst DH (ap (λ (x : Profiling). x.heads) rest_three) (record { each = c.count_mispredicted.ensures.counted }) in
    (counts_more (λ image. A w image ++ B w image ++ C w image) (D w) old three four
    (counts_more (λ image. A w image ++ B w image) (C w) old two three (counts_more (A w) (B w) old one two first second) third) fourth).each

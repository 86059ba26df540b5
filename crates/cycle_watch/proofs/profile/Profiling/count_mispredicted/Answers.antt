use Rattle.std.proofs.Common.{◌≡◌, ℕ, Some, None, Option, List, [], ◌∷◌, ◌++◌, ap, subst}
use Rattle.insight_model.specs.Sight.{Shown}
use Rattle.insight_model.specs.Profile.{Event, events_at, mispredicted, once}
use Rattle.cycle_watch.specs.Facts.{window_in}
use Rattle.cycle_watch.specs.Profiled.{HasCounted, wrong_before}
use Rattle.std.specs.Prelude.{option_map, option_to_list}
use Rattle.elf_image.specs.declared.image.Image.{Image}
use Rattle.cycle_watch.proofs.profile.Profiling.count_mispredicted.Goals as goal

-- one event of an address, if there is one
one_of : (image : Image) (o : Option Shown) (addr : ℕ) → Some addr ≡ option_map (λ (rec : Shown). rec.addr) o → once image mispredicted addr ∷ [] ≡ events_at image mispredicted (option_to_list o)
one_of image None addr is = cc
one_of image (Some rec) addr is = let same : addr ≡ rec.addr = cc in ap (λ (a : ℕ). once image mispredicted a ∷ []) same

pub returns-in-Some-clause-counted : goal.returns-in-Some-clause-counted
returns-in-Some-clause-counted c = λ image all appended has.
    let self = c.args.self.now in
    let wrong = wrong_before c.args.facts.now (window_in self.heads.last.marks.items) in
    let E : List Event → Type 0 = λ es. HasCounted image (all ++ es) appended c.count.new.self in
    subst E (one_of image wrong c.in-Some.addr c.in-Some.ensures.addr) (c.count.ensures.counted image all appended has)

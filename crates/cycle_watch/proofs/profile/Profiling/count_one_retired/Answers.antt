use Rattle.std.proofs.Common.{◌≡◌, ◌∙◌, Bool, true, false, if◌then◌else◌, List, [], ◌∷◌, ◌++◌, append_assoc, sym, ap, subst}
use Rattle.insight_model.specs.Profile.{Event, is_taken, once, retired, retired_events, taken}
use Rattle.cycle_watch.specs.Shown.{shown_in}
use Rattle.cycle_watch.specs.Profiled.{HasCounted}
use Rattle.cycle_watch.proofs.profile.Profiling.count_one_retired.Goals as goal

pub returns-then-is_taken-clause-counted : goal.returns-then-is_taken-clause-counted
returns-then-is_taken-clause-counted c = λ image all appended has.
    let shown = shown_in c.args.shown.now in
    let is : is_taken shown ≡ true = sym c.is_taken.ensures.taken ∙ c.if-is_taken.true in
    let first = once image retired shown.addr ∷ [] in
    let second = once image taken shown.addr ∷ [] in
    let E : List Event → Type 0 = λ es. HasCounted image es appended c.count-then-is_taken.new.self in
    let events : first ++ second ≡ retired_events image shown = ap (λ (b : Bool). once image retired shown.addr ∷ (if b then second else [])) (sym is) in
    subst E (append_assoc all first second ∙ ap (λ (es : List Event). all ++ es) events)
    (c.count-then-is_taken.ensures.counted image (all ++ first) appended (c.count.ensures.counted image all appended has))

pub returns-else-is_taken-clause-counted : goal.returns-else-is_taken-clause-counted
returns-else-is_taken-clause-counted c = λ image all appended has.
    let shown = shown_in c.args.shown.now in
    let is : is_taken shown ≡ false = sym c.is_taken.ensures.taken ∙ c.if-is_taken.false in
    let E : List Event → Type 0 = λ es. HasCounted image (all ++ es) appended c.count.new.self in
    let events : once image retired shown.addr ∷ [] ≡ retired_events image shown =
    ap (λ (b : Bool). once image retired shown.addr ∷ (if b then once image taken shown.addr ∷ [] else [])) (sym is) in
    subst E events (c.count.ensures.counted image all appended has)

use Rattle.std.proofs.Common.{◌≡◌, ◌∙◌, ℕ, suc, ◌-◌, Some, None, Option, Bool, if◌then◌else◌, List, ◌++◌, length, take, refl, sym, ap, subst, arith}
use Rattle.std.proofs.lemmas.List.{append-nil, length-map}
use Rattle.insight_model.specs.Sight.{Shown}
use Rattle.insight_model.specs.Profile.{Event, events_at, trapped}
use Rattle.cycle_watch.specs.declared.mark.Mark.{Mark}
use Rattle.cycle_watch.specs.Facts.{window_in}
use Rattle.cycle_watch.specs.Shown.{shown_in}
use Rattle.cycle_watch.specs.Profiled.{HasCounted, trapped_before}
use Rattle.std.specs.Prelude.{option_to_list}
use Rattle.std.specs.List.{last_or}
use Rattle.cycle_watch.proofs.RowLists.{shown_at}
use Rattle.cycle_watch.proofs.Windows.{last_taken}
use Rattle.cycle_watch.proofs.profile.Profiling.count_trapped.Goals as goal

pub returns-then-facts-clause-counted : goal.returns-then-facts-clause-counted
returns-then-facts-clause-counted c = λ image all appended has.
    let self = c.args.self.now in
    let f = c.args.facts.now in
    let w = window_in self.heads.last.marks.items in
    let mark = c.mark.result.now in
    let many : length w ≡ length self.heads.last.marks.items = length-map self.heads.last.marks.items (λ (m : Mark). shown_in m.shown) in
    let some = c.requires.trap c.if-facts.true in
    let next : suc (f.left - 1) ≡ f.left = omega (arith, some) in
    let last : trapped_before f w ≡ Some (shown_in mark.shown) =
    ap (λ (b : Bool). if b then last_or None (take f.left w) else None) c.if-facts.true
    ∙ ap (λ (n : ℕ). last_or None (take n w)) (sym next) ∙ last_taken None w (f.left - 1) (omega (arith, many, some, c.requires.left))
    ∙ shown_at self self (f.left - 1) mark refl c.mark.ensures.mark in
    let E : Option Shown → Type 0 = λ o. HasCounted image (all ++ events_at image trapped (option_to_list o)) appended c.count.new.self in
    subst E (sym last) (c.count.ensures.counted image all appended has)

pub returns-else-facts-clause-counted : goal.returns-else-facts-clause-counted
returns-else-facts-clause-counted c = λ image all appended has.
    let self = c.args.self.now in
    let w = window_in self.heads.last.marks.items in
    let none : trapped_before c.args.facts.now w ≡ None = ap (λ (b : Bool). if b then last_or None (take c.args.facts.now.left w) else None) c.if-facts.false in
    let E : Option Shown → Type 0 = λ o. HasCounted image (all ++ events_at image trapped (option_to_list o)) appended self in
    let S : List Event → Type 0 = λ es. HasCounted image es appended self in
    subst E (sym none) (subst S (sym (append-nil all)) has)

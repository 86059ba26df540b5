-- What an empty stage is charged to.
use Rattle.std.proofs.Common.{◌≡◌, ◌∙◌, ℕ, ◌+◌, ◌≤◌, ◌<◌, Bool, true, false, if◌then◌else◌, Option, Some, None, List, drop, length, option_map, take, zip, refl, sym, ap, arith}
use Rattle.std.proofs.lemmas.List.{length-take-le}
use Rattle.std.specs.Prelude.{option_and_then, slice_get}
use Rattle.insight_model.specs.Cause.{Charge}
use Rattle.insight_model.specs.Sight.{Shown, Sight}
use Rattle.insight_model.specs.Facts.{Facts, Kept, facts as cycle_facts, pairs}
use Rattle.insight_model.specs.Hole.{Holes, flushed_holes, holes_after, moved_holes, moved_in, stall_of}
use Rattle.cycle_watch.specs.declared.facts.Facts.{Facts as FactsInCode}
use Rattle.cycle_watch.specs.declared.last.LastSight.{LastSight}
use Rattle.cycle_watch.specs.declared.mark.Mark.{Mark}
use Rattle.cycle_watch.specs.Facts.{IsTold, Keeps, charge_in, facts_in}
use Rattle.cycle_watch.specs.Known.{kept_of, misses_in}
use Rattle.cycle_watch.specs.Stages.{HasKept, kept_in}
use Rattle.cycle_watch.proofs.Passing.{got, window_length}
use Rattle.cycle_watch.proofs.Staying.{kept_at}
use Rattle.cycle_watch.proofs.Windows.{window_after_whole}

-- a stage that has one, one that is held up, and one that has the hole of the stage before it
pub moved_own : (has : Bool) (own before : Charge) (stall : Option Charge) → has ≡ true → moved_in has own before stall ≡ own
moved_own has own before stall is = ap (λ (b : Bool). moved_in b own before stall) is

pub moved_stall : (has : Bool) (own before : Charge) (stall : Kept × ℕ → Charge) (found : Option (Kept × ℕ)) (k : Kept × ℕ) → has ≡ false → found ≡ Some k →
    moved_in has own before (stall_of stall found) ≡ stall k
moved_stall has own before stall found k is stays = λ i. moved_in (is i) own before (stall_of stall (stays i))

pub moved_before : (has : Bool) (own before : Charge) (stall : Kept × ℕ → Charge) (found : Option (Kept × ℕ)) → has ≡ false → found ≡ None →
    moved_in has own before (stall_of stall found) ≡ before
moved_before has own before stall found is none = λ i. moved_in (is i) own before (stall_of stall (none i))

-- the one that stays, by its place
pub stays_at : (last : LastSight) (f : FactsInCode) (w : List Shown) (place : ℕ) (found : Option (Kept × ℕ)) → HasKept last f w → place < f.kept → slice_get (kept_in last f w) place ≡ found →
    (mark : Mark) × (is : Shown) × (slice_get last.marks.items (f.left + place) ≡ Some mark) × (slice_get w place ≡ Some is) × (found ≡ Some (kept_of mark is, mark.miss))
stays_at last f w place found kept below is =
    let were : f.left + place < length last.marks.items = omega (arith, kept.were, below) in
    let are : place < length w = omega (arith, kept.are, below) in
    let m = got last.marks.items (f.left + place) were in
    let x = got w place are in
    (m.0, x.0, m.1, x.1, sym is ∙ kept_at last f w place m.0 x.0 m.1 x.1 below)

-- the holes after a cycle, by what the code tells of it
pub holes_moved : (before after : Sight) (last : LastSight) (f : FactsInCode) (h : Holes) → Keeps before last → IsTold before after f → HasKept last f after.window →
    holes_after (cycle_facts before after) (misses_in last.marks.items) h
    ≡ (if f.stopped then h
    else moved_holes (facts_in before.window after.window f) (kept_in last f after.window) after.window (flushed_holes (option_map charge_in f.flush) h))
unfolding holes_after
holes_moved before after last f h keeps told kept =
    let all : length last.marks.items ≡ length before.window = window_length before last keeps in
    let left : length (take f.left before.window) ≡ f.left = length-take-le f.left before.window (omega (arith, kept.were, all)) in
    let whole = window_after_whole before.window after.window f.left f.kept (omega (arith, kept.were, all)) in
    let G : Facts = facts_in before.window after.window f in
    ap (λ (x : Facts). holes_after x (misses_in last.marks.items) h) (sym told.facts)
    ∙ (λ i. if f.stopped then h
    else moved_holes G (zip (pairs (drop f.left (sym keeps.window i)) (take f.kept after.window)) (drop (left i) (misses_in last.marks.items))) (whole i) (flushed_holes (option_map charge_in f.flush) h))

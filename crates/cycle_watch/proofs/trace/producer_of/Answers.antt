use Rattle.std.proofs.Common.{◌≡◌, ◌∙◌, ◌+◌, ◌-◌, ℕ, Bool, Some, None, true, false, length, if◌then◌else◌, ap, sym, subst, arith}
use Rattle.std.specs.Prelude.{option_map, slice_get}
use Rattle.std.proofs.lemmas.List.{length-map}
use Rattle.std.proofs.lemmas.Option.{slice_get-map}
use Rattle.mono_model.specs.Window.{is_register}
use Rattle.insight_model.specs.Sight.{writes_shown}
use Rattle.cycle_watch.specs.declared.mark.Mark.{Mark}
use Rattle.cycle_watch.specs.Shown.{shown_in}
use Rattle.cycle_watch.specs.Facts.{window_in}
use Rattle.cycle_watch.specs.Traced.{mark_in, marks_in}
use Rattle.cycle_watch.proofs.TraceMarks.{SearchedTo, as_many_marks, marked_at, searched_found, searched_more, searched_none, searched_start}
use Rattle.cycle_watch.proofs.trace.producer_of.Goals as goal

pub loop-younger-init : goal.loop-younger-init
loop-younger-init c =
    let items = c.args.told.now.marks.items in
    let w = window_in c.args.last.now.marks.items in
    let level = as_many_marks w items c.requires.marked in
    searched_start c.args.register (c.len-count.result - 0) (marks_in items) w (omega (arith, length-map items mark_in, c.len-count.ensures.count)) (omega (arith, level, c.len-count.ensures.count))

pub returns-then-gives_value : goal.returns-then-gives_value
returns-then-gives_value c =
    let items = c.args.told.now.marks.items in
    let marks = c.args.last.now.marks.items in
    let w = window_in marks in
    let place = c.len-count.result - 1 - c.loop-younger.younger in
    let x = shown_in c.mark.result.now.shown in
    let here : slice_get (marks_in items) place ≡ Some (mark_in c.at-mark.result) = slice_get-map mark_in items place ∙ ap (option_map mark_in) c.at-mark.ensures.mark in
    let there : slice_get w place ≡ Some x = slice_get-map (λ (m : Mark). shown_in m.shown) marks place ∙ ap (option_map (λ (m : Mark). shown_in m.shown)) c.mark.ensures.mark in
    let level : length (marks_in items) ≡ length w = length-map items mark_in ∙ as_many_marks w items c.requires.marked in
    let writes : writes_shown c.args.register x ≡ true =
    ap (is_register c.args.register) (sym (marked_at w items place c.at-mark.result x c.requires.marked c.at-mark.ensures.mark there)) ∙ sym c.writes_to.ensures.writes ∙ c.if-writes_to.true in
    record {
      producer = sym (searched_found c.args.register place (c.len-count.result - c.loop-younger.younger) (marks_in items) w (mark_in c.at-mark.result) x (omega arith) here there level c.loop-younger.invariant writes
          ∙ ap (λ (b : Bool). if b then None else Some c.at-mark.result.number) (sym c.gives_value.ensures.gives ∙ c.if-gives_value.true));
    }

pub returns-else-gives_value : goal.returns-else-gives_value
returns-else-gives_value c =
    let items = c.args.told.now.marks.items in
    let marks = c.args.last.now.marks.items in
    let w = window_in marks in
    let place = c.len-count.result - 1 - c.loop-younger.younger in
    let x = shown_in c.mark.result.now.shown in
    let here : slice_get (marks_in items) place ≡ Some (mark_in c.at-mark.result) = slice_get-map mark_in items place ∙ ap (option_map mark_in) c.at-mark.ensures.mark in
    let there : slice_get w place ≡ Some x = slice_get-map (λ (m : Mark). shown_in m.shown) marks place ∙ ap (option_map (λ (m : Mark). shown_in m.shown)) c.mark.ensures.mark in
    let level : length (marks_in items) ≡ length w = length-map items mark_in ∙ as_many_marks w items c.requires.marked in
    let writes : writes_shown c.args.register x ≡ true =
    ap (is_register c.args.register) (sym (marked_at w items place c.at-mark.result x c.requires.marked c.at-mark.ensures.mark there)) ∙ sym c.writes_to.ensures.writes ∙ c.if-writes_to.true in
    record {
      producer = sym (searched_found c.args.register place (c.len-count.result - c.loop-younger.younger) (marks_in items) w (mark_in c.at-mark.result) x (omega arith) here there level c.loop-younger.invariant writes
          ∙ ap (λ (b : Bool). if b then None else Some c.at-mark.result.number) (sym c.gives_value.ensures.gives ∙ c.if-gives_value.false));
    }

pub loop-younger-preserved : goal.loop-younger-preserved
loop-younger-preserved c =
    let items = c.args.told.now.marks.items in
    let marks = c.args.last.now.marks.items in
    let w = window_in marks in
    let place = c.len-count.result - 1 - c.loop-younger.younger in
    let x = shown_in c.mark.result.now.shown in
    let here : slice_get (marks_in items) place ≡ Some (mark_in c.at-mark.result) = slice_get-map mark_in items place ∙ ap (option_map mark_in) c.at-mark.ensures.mark in
    let there : slice_get w place ≡ Some x = slice_get-map (λ (m : Mark). shown_in m.shown) marks place ∙ ap (option_map (λ (m : Mark). shown_in m.shown)) c.mark.ensures.mark in
    let level : length (marks_in items) ≡ length w = length-map items mark_in ∙ as_many_marks w items c.requires.marked in
    let other : writes_shown c.args.register x ≡ false =
    ap (is_register c.args.register) (sym (marked_at w items place c.at-mark.result x c.requires.marked c.at-mark.ensures.mark there)) ∙ sym c.writes_to.ensures.writes ∙ c.if-writes_to.false in
    let S : ℕ → Type 0 = λ n. SearchedTo c.args.register n (marks_in items) w in
    let n : place ≡ c.len-count.result - (c.loop-younger.younger + 1) = omega arith in
    subst S n (searched_more c.args.register place (c.len-count.result - c.loop-younger.younger) (marks_in items) w (mark_in c.at-mark.result) x (omega arith) here there level c.loop-younger.invariant other)

pub returns : goal.returns
returns c =
    let items = c.args.told.now.marks.items in
    let w = window_in c.args.last.now.marks.items in
    let S : ℕ → Type 0 = λ n. SearchedTo c.args.register n (marks_in items) w in
    let none : c.len-count.result - c.loop-younger.younger ≡ 0 = omega arith in
    record { producer = sym (searched_none c.args.register (marks_in items) w (subst S none c.loop-younger.invariant)) }

-- The instructions under way are looked at anew, one after another.
use Rattle.std.proofs.Common.{◌≡◌, ◌∙◌, ℕ, suc, ◌+◌, ◌≤◌, ◌<◌, Some, List, [], ◌∷◌, ◌++◌, length, length-take, map, take, refl, sym, ap, arith}
use Rattle.std.specs.Prelude.{slice_get, vec_capacity}
use Rattle.std.proofs.lemmas.List.{length-map, map_push, take_all}
use Rattle.std.proofs.lemmas.Option.{slice_get_within}
use Rattle.circular_buffer.specs.Buffer.{Buffer}
use Rattle.insight_model.specs.Sight.{Shown, Sight}
use Rattle.cycle_watch.specs.declared.last.LastSight.{LastSight}
use Rattle.cycle_watch.specs.declared.mark.Mark.{Mark}
use Rattle.cycle_watch.specs.declared.shown.Shown.{Shown as ShownInCode}
use Rattle.cycle_watch.specs.Shown.{shown_in}
use Rattle.cycle_watch.specs.Facts.{HasRoom, Keeps, Notes, window_in}
use Rattle.cycle_watch.proofs.Windows.{take_push}

-- those so far are remembered
pub record Looked (w : List Shown) (i : ℕ) (was now : LastSight) : Type 0 where
  pub window : window_in now.marks.items ≡ take i w
  pub rest : now ≡ record was { marks = record was.marks { items = now.marks.items } }

pub looked_at_none : (w : List Shown) (was : LastSight) → was.marks.items ≡ [] → Looked w 0 was was
looked_at_none w was none = record { window = ap window_in none; rest = refl }

module _ (w : List Shown) (i : ℕ) (was now : LastSight) (looked : Looked w i was now) where
  pub looked_capacity : now.marks.capacity ≡ was.marks.capacity
  looked_capacity = ap (λ (l : LastSight). l.marks.capacity) looked.rest

  pub looked_few : length now.marks.items ≤ i
  looked_few =
      omega (
        arith,
        length-map now.marks.items (λ (m : Mark). shown_in m.shown),
        ap (length {A = Shown}) looked.window,
        length-take i w,
      )

  pub looked_next : (next : LastSight) (mark : Mark) (shown : ShownInCode) → slice_get w i ≡ Some (shown_in shown) → mark.shown ≡ shown →
      next ≡ record now { marks = record now.marks { items = now.marks.items ++ mark ∷ [] } } → Looked w (i + 1) was next
  looked_next next mark shown here seen pushed =
      let items : next.marks.items ≡ now.marks.items ++ mark ∷ [] = ap (λ (l : LastSight). l.marks.items) pushed in
      let n : suc i ≡ i + 1 = omega arith in
      record {
        window =
            ap window_in items ∙ map_push (λ (m : Mark). shown_in m.shown) now.marks.items mark
            ∙ (λ j. looked.window j ++ shown_in (seen j) ∷ [])
            ∙ sym (take_push w i (shown_in shown) here)
            ∙ ap (λ (k : ℕ). take k w) n;
        rest =
            pushed
            ∙ (λ j. record (looked.rest j) { marks = record (looked.rest j).marks { items = now.marks.items ++ mark ∷ [] } })
            ∙ ap (λ (ms : List Mark). record was { marks = record was.marks { items = ms } }) (sym items);
      }

-- all are remembered, and the rest is noted
pub looked_keeps : (s : Sight) (was now noted : LastSight) (i : ℕ) → Looked s.window i was now → length s.window ≤ i → was.marks.capacity ≡ 256 → 256 ≤ vec_capacity was.loads →
    Notes s noted → noted.marks ≡ now.marks → noted.loads ≡ now.loads → (cycle : ℕ) → cycle ≡ s.cycle → Keeps s (record noted { cycle = cycle })
looked_keeps s was now noted i looked all capacity room notes marks loads cycle is = record {
  cycle = is;
  noted = record { retired = notes.retired; counts = notes.counts; resume = notes.resume; missing = notes.missing; waiting = notes.waiting };
  window = ap (λ (b : Buffer Mark). window_in b.items) marks ∙ looked.window ∙ take_all i s.window all;
  room = record {
    marks = ap (λ (b : Buffer Mark). b.capacity) marks ∙ looked_capacity s.window i was now looked ∙ capacity;
    loads =
        let same : vec_capacity noted.loads ≡ vec_capacity now.loads = λ j. vec_capacity (loads j) in
        let kept : vec_capacity now.loads ≡ vec_capacity was.loads = ap (λ (l : LastSight). vec_capacity l.loads) looked.rest in
        omega (arith, same, kept, room);
  };
}

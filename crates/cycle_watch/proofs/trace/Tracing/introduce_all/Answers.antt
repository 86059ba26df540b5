use Rattle.std.proofs.Common.{◌≡◌, ◌∙◌, ◌+◌, ◌≤◌, ◌++◌, [], ℕ, Some, length, length-drop, drop, ap, refl, sym, arith}
use Rattle.std.specs.Prelude.{option_map, slice_get}
use Rattle.std.proofs.lemmas.List.{drop_all, length-map}
use Rattle.std.proofs.lemmas.Option.{slice_get-map}
use Rattle.insight_model.specs.Cell.{cell}
use Rattle.insight_model.specs.Trace.{Mark as MarkSeen, introduction, opening_lines}
use Rattle.cycle_watch.specs.declared.last.LastSight.{LastSight}
use Rattle.cycle_watch.specs.declared.mark.Mark.{Mark}
use Rattle.cycle_watch.specs.declared.trace.Tracing.{Tracing}
use Rattle.cycle_watch.specs.declared.trace_mark.TraceMark.{TraceMark}
use Rattle.cycle_watch.specs.Cells.{cell_in}
use Rattle.cycle_watch.specs.Shown.{shown_in}
use Rattle.cycle_watch.specs.Facts.{window_in}
use Rattle.cycle_watch.specs.Writing.{stand}
use Rattle.cycle_watch.proofs.Passing.{window_length}
use Rattle.cycle_watch.proofs.TraceMarks.{introduced_one, introducing_all, introducing_count, introducing_none, introducing_step}
use Rattle.cycle_watch.proofs.TraceOpening.{same_departed}
use Rattle.cycle_watch.proofs.TraceSteps.{drop_here, opening_step}
use Rattle.cycle_watch.proofs.Writing.{broken_as, far_broken, far_end, far_start, far_step, tells_err, told_as}
use Rattle.cycle_watch.proofs.trace.Tracing.introduce_all.Goals as goal

pub loop-place-init : goal.loop-place-init
loop-place-init g c =
    let old = c.args.self.now in
    let w = window_in old.last.marks.items in
    let number = c.number-number.result in
    let none : number + 0 ≡ number = omega arith in
    record {
      ready = c.requires.ready;
      last = refl;
      count = c.requires.introduced;
      introduced = introducing_none old c.args.cycle w w refl;
      far = far_start c.args.cycle (opening_lines old.last.pipeline old.last.params c.args.cycle 0 number w) (opening_lines old.last.pipeline old.last.params c.args.cycle 0 (number + 0) w)
          (stand old.text (g.K.Sink.faults c.args.sink.now) (g.K.Sink.written c.args.sink.now))
          (ap (λ (k : ℕ). opening_lines old.last.pipeline old.last.params c.args.cycle 0 k w) none);
    }

pub overflow_add-nth : goal.overflow_add-nth
overflow_add-nth g c =
    let seen = c.requires.seen in
    let departed_is = c.number-number.ensures.number seen.sight seen.keeps (omega (arith, seen.small)) in
    omega (
      arith,
      departed_is,
      seen.small,
      window_length seen.sight c.args.self.now.last seen.keeps,
      seen.within,
      ap (λ (l : LastSight). length l.marks.items) c.loop-place.invariant.last,
    )

pub mark-requires : goal.mark-requires
mark-requires g c = record { within = omega (arith, ap (λ (l : LastSight). length l.marks.items) c.loop-place.invariant.last) }

pub append-requires : goal.append-requires
append-requires g c =
    let old = c.args.self.now in
    let w = window_in old.last.marks.items in
    let inv = c.loop-place.invariant in
    let size = introducing_count old c.loop-place.self c.args.cycle w (drop c.loop-place.place w) c.loop-place.place inv.introduced in
    record { room = omega (arith, size (omega (arith, length-drop c.loop-place.place w, length-map old.last.marks.items (λ (m : Mark). shown_in m.shown), ap (λ (l : LastSight). length l.marks.items) inv.last)) (ap (length {A = TraceMark}) c.requires.none), inv.introduced.room, c.requires.room, window_length c.requires.seen.sight old.last c.requires.seen.keeps, c.requires.seen.within) }

pub returns-in_err-tell_introduction-clause-told : goal.returns-in_err-tell_introduction-clause-told
returns-in_err-tell_introduction-clause-told g c = λ s keeps.
    let old = c.args.self.now in
    let items = old.last.marks.items in
    let w = window_in items in
    let now = c.loop-place.self in
    let place = c.loop-place.place in
    let inv = c.loop-place.invariant in
    let pl = old.last.pipeline in
    let p = old.last.params in
    let x = shown_in c.mark.result.now.shown in
    let nth = c.number-number.result + place in
    let here : slice_get w place ≡ Some x =
    slice_get-map (λ (m : Mark). shown_in m.shown) items place
    ∙ ap (option_map (λ (m : Mark). shown_in m.shown)) (ap (λ (l : LastSight). slice_get l.marks.items place) (sym inv.last) ∙ c.mark.ensures.mark) in
    let mark = c.introduced_now-mark.result in
    let is = c.introduced_now-mark.ensures.mark in
    let number : mark.number ≡ place = ap (λ (m : MarkSeen). m.number) is ∙ inv.count in
    let cells : cell_in mark.cell ≡ cell pl p c.args.cycle 0 x =
    ap (λ (m : MarkSeen). m.shown) is ∙ ap (λ (l : LastSight). cell l.pipeline l.params c.args.cycle 0 x) inv.last in
    let text : introduction mark.number nth (cell_in mark.cell) x ≡ introduction place nth (cell pl p c.args.cycle 0 x) x = (λ i. introduction (number i) nth (cells i) x) in
    let whole = opening_lines pl p c.args.cycle 0 c.number-number.result w in
    let rest = opening_lines pl p c.args.cycle place nth (drop place w) in
    let n : nth + 1 ≡ c.number-number.result + (place + 1) = omega arith in
    let left = opening_lines pl p c.args.cycle (place + 1) (c.number-number.result + (place + 1)) (drop (place + 1) w) in
    let step = opening_step pl p c.args.cycle place nth place w x here
    ∙ ap (λ (k : ℕ). introduction place nth (cell pl p c.args.cycle 0 x) x ++ opening_lines pl p c.args.cycle (place + 1) k (drop (place + 1) w)) n in
    let departed_is = c.number-number.ensures.number s keeps (omega (arith, same_departed c.requires.seen.sight s c.args.self.now.last c.requires.seen.keeps keeps, c.requires.seen.small)) in
    tells_err _ c.args.cycle _ _ _ c.from_residual.result c.from_residual.ensures.1
    (broken_as c.args.cycle whole _ _ _ (λ i. opening_lines pl p c.args.cycle 0 (departed_is i) (keeps.window i))
    (far_broken c.args.cycle whole (introduction place nth (cell pl p c.args.cycle 0 x) x) rest left _ _ _ inv.far step
    (broken_as c.args.cycle _ (introduction place nth (cell pl p c.args.cycle 0 x) x) _ _ text c.in_err-tell_introduction.ensures.told)))

pub loop-place-preserved : goal.loop-place-preserved
loop-place-preserved g c =
    let old = c.args.self.now in
    let items = old.last.marks.items in
    let w = window_in items in
    let now = c.loop-place.self in
    let place = c.loop-place.place in
    let inv = c.loop-place.invariant in
    let pl = old.last.pipeline in
    let p = old.last.params in
    let x = shown_in c.mark.result.now.shown in
    let nth = c.number-number.result + place in
    let here : slice_get w place ≡ Some x =
    slice_get-map (λ (m : Mark). shown_in m.shown) items place
    ∙ ap (option_map (λ (m : Mark). shown_in m.shown)) (ap (λ (l : LastSight). slice_get l.marks.items place) (sym inv.last) ∙ c.mark.ensures.mark) in
    let mark = c.introduced_now-mark.result in
    let is = c.introduced_now-mark.ensures.mark in
    let number : mark.number ≡ place = ap (λ (m : MarkSeen). m.number) is ∙ inv.count in
    let cells : cell_in mark.cell ≡ cell pl p c.args.cycle 0 x =
    ap (λ (m : MarkSeen). m.shown) is ∙ ap (λ (l : LastSight). cell l.pipeline l.params c.args.cycle 0 x) inv.last in
    let text : introduction mark.number nth (cell_in mark.cell) x ≡ introduction place nth (cell pl p c.args.cycle 0 x) x = (λ i. introduction (number i) nth (cells i) x) in
    let whole = opening_lines pl p c.args.cycle 0 c.number-number.result w in
    let rest = opening_lines pl p c.args.cycle place nth (drop place w) in
    let n : nth + 1 ≡ c.number-number.result + (place + 1) = omega arith in
    let left = opening_lines pl p c.args.cycle (place + 1) (c.number-number.result + (place + 1)) (drop (place + 1) w) in
    let step = opening_step pl p c.args.cycle place nth place w x here
    ∙ ap (λ (k : ℕ). introduction place nth (cell pl p c.args.cycle 0 x) x ++ opening_lines pl p c.args.cycle (place + 1) k (drop (place + 1) w)) n in
    let next : Tracing = record now { told = c.append.new.self; text = c.tell_introduction.new.text; introduced = now.introduced + 1 } in
    record {
      ready = c.tell_introduction.ensures.ready;
      last = inv.last;
      count = ap (λ (k : ℕ). k + 1) inv.count;
      introduced = introducing_step old now next c.args.cycle w (drop place w) (drop (place + 1) w) x inv.introduced (drop_here w place x here) (ap (λ (l : LastSight). l.pipeline) inv.last)
          (ap (λ (l : LastSight). l.params) inv.last)
          (introduced_one now next c.args.cycle x mark is c.introduced_now-mark.ensures.writes c.append.ensures.items c.append.ensures.capacity refl);
      far = far_step c.args.cycle whole (introduction place nth (cell pl p c.args.cycle 0 x) x) rest left _ _ _ inv.far step
          (told_as c.args.cycle _ (introduction place nth (cell pl p c.args.cycle 0 x) x) _ _ text c.in_ok-tell_introduction.ensures.told);
    }

pub returns : goal.returns
returns g c =
    let old = c.args.self.now in
    let items = old.last.marks.items in
    let w = window_in items in
    let place = c.loop-place.place in
    let inv = c.loop-place.invariant in
    let pl = old.last.pipeline in
    let p = old.last.params in
    let over : length w ≤ place = omega (arith, length-map items (λ (m : Mark). shown_in m.shown), ap (λ (l : LastSight). length l.marks.items) inv.last) in
    let none : drop place w ≡ [] = drop_all place w over in
    let whole = opening_lines pl p c.args.cycle 0 c.number-number.result w in
    record {
      ready = inv.ready;
      last = inv.last;
      told = λ s keeps.
          let departed_is = c.number-number.ensures.number s keeps (omega (arith, same_departed c.requires.seen.sight s c.args.self.now.last c.requires.seen.keeps keeps, c.requires.seen.small)) in
          told_as c.args.cycle whole _ _ _ (λ i. opening_lines pl p c.args.cycle 0 (departed_is i) (keeps.window i))
          (far_end c.args.cycle whole (opening_lines pl p c.args.cycle place (c.number-number.result + place) (drop place w)) _ _ inv.far
          (ap (opening_lines pl p c.args.cycle place (c.number-number.result + place)) none));
      introduced = introducing_all old c.loop-place.self c.args.cycle w (drop place w) inv.introduced none;
    }

use Rattle.std.proofs.Common.{◌∙◌, ◌+◌, ◌≤◌, ◌&&◌, ◌==◌, Bool, length, length-drop, drop, ap, arith}
use Rattle.std.proofs.lemmas.List.{drop_all}
use Rattle.insight_model.specs.Trace.{appended_lines}
use Rattle.cycle_watch.specs.declared.last.LastSight.{LastSight}
use Rattle.cycle_watch.specs.Shown.{shown_in}
use Rattle.cycle_watch.specs.Facts.{window_in}
use Rattle.cycle_watch.specs.Traced.{appended_text, marks_in, older_in}
use Rattle.cycle_watch.specs.Writing.{stand}
use Rattle.cycle_watch.proofs.TraceMarks.{appended_next, taking_all, taking_none, taking_size, taking_step}
use Rattle.cycle_watch.proofs.TraceSteps.{paid_first}
use Rattle.cycle_watch.proofs.Writing.{far_broken, far_end, far_start, far_step, tells_err}
use Rattle.cycle_watch.proofs.trace.Tracing.tell_appended.Goals as goal

pub loop-place-init : goal.loop-place-init
loop-place-init g c =
    let f = c.args.facts.now in
    let was = c.args.self.now in
    let w = (g.S.Watched.sight c.args.side.now).window in
    let older = older_in (marks_in was.told.marks.items) (window_in was.last.marks.items) in
    let first = f.number + f.left in
    record {
      ready = c.requires.ready;
      taken = taking_none was f.cycle f.kept w c.requires.marked;
      far = far_start f.cycle (appended_lines was.last.pipeline was.last.params f.cycle f.paid was.introduced (first + f.kept) older (drop f.kept w))
          (appended_lines was.last.pipeline was.last.params f.cycle (f.paid && (f.kept == f.kept)) was.introduced (first + f.kept) older (drop f.kept w))
          (stand was.text (g.K.Sink.faults c.args.sink.now) (g.K.Sink.written c.args.sink.now))
          (ap (λ (b : Bool). appended_lines was.last.pipeline was.last.params f.cycle b was.introduced (first + f.kept) older (drop f.kept w)) (paid_first f.paid f.kept));
    }

pub append_one-requires : goal.append_one-requires
append_one-requires g c =
    let f = c.args.facts.now in
    let was = c.args.self.now in
    let now = c.loop-place.self in
    let w = (g.S.Watched.sight c.args.side.now).window in
    let place = c.loop-place.place in
    let t = c.loop-place.invariant.taken in
    let size = taking_size was f.cycle f.kept w place now t c.requires.stayed (omega arith) in
    record {
      ready = c.loop-place.invariant.ready;
      marked = t.marked;
      room = record { last = ap (λ (l : LastSight). l.marks.capacity) t.rest ∙ c.requires.room.last; told = t.introduced.room ∙ c.requires.room.told };
      introduced = omega (arith, t.introduced.introduced, c.requires.introduced, length-drop f.kept w, length-drop place w, c.requires.within);
      few = omega (arith, size, c.requires.within);
    }

pub returns-in_err-append_one-clause-told : goal.returns-in_err-append_one-clause-told
returns-in_err-append_one-clause-told g c =
    let f = c.args.facts.now in
    let was = c.args.self.now in
    let now = c.loop-place.self in
    let w = (g.S.Watched.sight c.args.side.now).window in
    let place = c.loop-place.place in
    let first = f.number + f.left in
    let x = shown_in c.shown-shown.result in
    let b = c.was_paid.result in
    let next = c.append_one.new.self in
    let older = older_in (marks_in now.told.marks.items) (window_in now.last.marks.items) in
    let step = appended_next was now next f.cycle f.kept w place x f.paid b first c.loop-place.invariant.taken c.shown-shown.ensures.shown c.append_one.ensures.taken c.was_paid.ensures.paid in
    let whole =
    appended_lines was.last.pipeline was.last.params f.cycle f.paid was.introduced (first + f.kept) (older_in (marks_in was.told.marks.items) (window_in was.last.marks.items)) (drop f.kept w) in
    tells_err _ f.cycle whole _ _ c.from_residual.result c.from_residual.ensures.1
    (far_broken f.cycle whole (appended_text now.last.pipeline now.last.params f.cycle b now.introduced (first + place) older x)
    (appended_lines was.last.pipeline was.last.params f.cycle (f.paid && (place == f.kept)) now.introduced (first + place) older (drop place w))
    (appended_lines was.last.pipeline was.last.params f.cycle (f.paid && (place + 1 == f.kept)) next.introduced (first + (place + 1))
    (older_in (marks_in next.told.marks.items) (window_in next.last.marks.items)) (drop (place + 1) w))
    _ _ _ c.loop-place.invariant.far step c.in_err-append_one.ensures.told)

pub loop-place-preserved : goal.loop-place-preserved
loop-place-preserved g c =
    let f = c.args.facts.now in
    let was = c.args.self.now in
    let now = c.loop-place.self in
    let w = (g.S.Watched.sight c.args.side.now).window in
    let place = c.loop-place.place in
    let first = f.number + f.left in
    let x = shown_in c.shown-shown.result in
    let b = c.was_paid.result in
    let next = c.append_one.new.self in
    let older = older_in (marks_in now.told.marks.items) (window_in now.last.marks.items) in
    let step = appended_next was now next f.cycle f.kept w place x f.paid b first c.loop-place.invariant.taken c.shown-shown.ensures.shown c.append_one.ensures.taken c.was_paid.ensures.paid in
    let whole =
    appended_lines was.last.pipeline was.last.params f.cycle f.paid was.introduced (first + f.kept) (older_in (marks_in was.told.marks.items) (window_in was.last.marks.items)) (drop f.kept w) in
    record {
      ready = c.append_one.ensures.ready;
      taken = taking_step was f.cycle f.kept w place now c.loop-place.invariant.taken x next c.shown-shown.ensures.shown c.append_one.ensures.taken;
      far = far_step f.cycle whole (appended_text now.last.pipeline now.last.params f.cycle b now.introduced (first + place) older x)
          (appended_lines was.last.pipeline was.last.params f.cycle (f.paid && (place == f.kept)) now.introduced (first + place) older (drop place w))
          (appended_lines was.last.pipeline was.last.params f.cycle (f.paid && (place + 1 == f.kept)) next.introduced (first + (place + 1))
          (older_in (marks_in next.told.marks.items) (window_in next.last.marks.items)) (drop (place + 1) w))
          _ _ _ c.loop-place.invariant.far step c.in_ok-append_one.ensures.told;
    }

pub returns : goal.returns
returns g c =
    let f = c.args.facts.now in
    let was = c.args.self.now in
    let now = c.loop-place.self in
    let w = (g.S.Watched.sight c.args.side.now).window in
    let place = c.loop-place.place in
    let first = f.number + f.left in
    let over : length w ≤ place = omega arith in
    let older = older_in (marks_in now.told.marks.items) (window_in now.last.marks.items) in
    record {
      ready = c.loop-place.invariant.ready;
      told = far_end f.cycle
          (appended_lines was.last.pipeline was.last.params f.cycle f.paid was.introduced (first + f.kept) (older_in (marks_in was.told.marks.items) (window_in was.last.marks.items)) (drop f.kept w))
          (appended_lines was.last.pipeline was.last.params f.cycle (f.paid && (place == f.kept)) now.introduced (first + place) older (drop place w)) _ _ c.loop-place.invariant.far
          (ap (appended_lines was.last.pipeline was.last.params f.cycle (f.paid && (place == f.kept)) now.introduced (first + place) older) (drop_all place w over));
      introduced = taking_all was f.cycle f.kept w place now c.loop-place.invariant.taken over;
    }

use Rattle.std.proofs.Common.{◌∙◌, ap, refl, sym, arith, drop, length, length-drop, length-take, map}
use Rattle.std.proofs.lemmas.Result.{err_from_is_err_and}
use Rattle.cycle_watch.specs.declared.trace.Tracing.{Tracing}
use Rattle.cycle_watch.specs.declared.trace_mark.TraceMark.{TraceMark}
use Rattle.cycle_watch.specs.Traced.{dest_shown}
use Rattle.cycle_watch.specs.Writing.{stand}
use Rattle.cycle_watch.proofs.Passing.{told_cycle, window_length}
use Rattle.cycle_watch.proofs.TraceCycle.{broken_left, broken_squashed, broken_stayed, few_there, marked_there, room_there, stands_next, stayed_there, told_all, told_number}
use Rattle.cycle_watch.proofs.TraceMarks.{as_many_marks}
use Rattle.cycle_watch.proofs.trace.Tracing.tell_cycle.Goals as goal

pub tell_left-requires : goal.tell_left-requires
tell_left-requires g c =
    let may = c.requires.may in
    let after = g.S.Watched.sight c.args.side.now in
    let tr = may.traces in
    let same = told_cycle may.before after c.args.facts.now may.told in
    let size = window_length may.before c.args.self.now.last tr.keeps in
    record {
      ready = record { room = tr.ready.room; few = tr.ready.few; order = omega (arith, tr.ready.order, same) };
      left = omega (arith, size, may.told.left, may.follows.kept);
      marked = tr.writes ∙ ap (map dest_shown) (sym tr.keeps.window);
      small = omega (arith, told_number may.before after c.args.facts.now may.told, may.follows.retired, may.follows.exceptions, may.follows.small, size, may.told.all, c.requires.few);
    }

pub tell_squashed-requires : goal.tell_squashed-requires
tell_squashed-requires g c =
    let may = c.requires.may in
    let after = g.S.Watched.sight c.args.side.now in
    let tr = may.traces in
    let size = window_length may.before c.args.self.now.last tr.keeps in
    record {
      ready = c.tell_left.ensures.ready;
      left = omega (arith, size, may.told.left, may.told.kept, may.follows.kept);
      all = may.told.all ∙ sym size;
      marked = tr.writes ∙ ap (map dest_shown) (sym tr.keeps.window);
      small = omega (arith, told_number may.before after c.args.facts.now may.told, may.follows.retired, may.follows.exceptions, may.follows.small, size, may.told.all, c.requires.few);
    }

pub keep-requires : goal.keep-requires
keep-requires g c =
    let may = c.requires.may in
    let tr = may.traces in
    record { within = omega (arith, as_many_marks may.before.window c.args.self.now.told.marks.items tr.writes, may.told.left, may.follows.kept) }

pub tell_stayed-requires : goal.tell_stayed-requires
tell_stayed-requires g c =
    let may = c.requires.may in
    let f = c.args.facts.now in
    let tr = may.traces in
    let items = c.args.self.now.told.marks.items in
    let size = window_length may.before c.args.self.now.last tr.keeps in
    let marks = as_many_marks may.before.window items tr.writes in
    record {
      ready = c.tell_squashed.ensures.ready;
      kept = omega (arith, size, may.told.left, may.told.kept, may.follows.kept);
      after = omega (arith, may.told.kept);
      few = omega (arith, may.told.kept, may.follows.within);
      left = omega (arith, may.told.left, may.follows.leave);
      marked = ap (length {A = TraceMark}) c.keep.ensures.items
          ∙ omega (arith, marks, length-take f.kept (drop f.left items), length-drop f.left items, may.told.left, may.told.kept, may.follows.kept);
    }

pub pass-requires : goal.pass-requires
pass-requires g c =
    let may = c.requires.may in
    record { follows = record { before = may.before; keeps = may.traces.keeps; follows = may.follows; told = may.told; small = may.small } }

pub tell_appended-requires : goal.tell_appended-requires
tell_appended-requires g c =
    let may = c.requires.may in
    let after = g.S.Watched.sight c.args.side.now in
    let f = c.args.facts.now in
    let old = c.args.self.now in
    let mid : Tracing = record old { last = c.pass.new.self; told = c.tell_stayed.new.told; text = c.tell_stayed.new.text } in
    let has = c.pass.ensures.passed may.before may.traces.keeps may.follows may.told in
    let room = c.tell_stayed.ensures.capacity ∙ c.keep.ensures.capacity in
    record {
      ready = c.tell_stayed.ensures.ready;
      marked = marked_there may.pipeline may.params may.before after may.so_far old f may.traces may.follows may.told c.keep.new.self.marks.items c.keep.ensures.items mid c.in_ok-tell_stayed.ensures.marks
          c.in_ok-tell_stayed.ensures.writes has c.pass.ensures.pipeline c.pass.ensures.params room refl;
      room = room_there may.pipeline may.params may.before after may.so_far old f may.traces may.follows may.told c.keep.new.self.marks.items c.keep.ensures.items mid c.in_ok-tell_stayed.ensures.marks
          c.in_ok-tell_stayed.ensures.writes has c.pass.ensures.pipeline c.pass.ensures.params room refl;
      introduced = few_there may.pipeline may.params may.before after may.so_far old f may.traces may.follows may.told c.keep.new.self.marks.items c.keep.ensures.items mid c.in_ok-tell_stayed.ensures.marks
          c.in_ok-tell_stayed.ensures.writes has c.pass.ensures.pipeline c.pass.ensures.params room refl may.small;
      stayed = stayed_there may.pipeline may.params may.before after may.so_far old f may.traces may.follows may.told c.keep.new.self.marks.items c.keep.ensures.items mid c.in_ok-tell_stayed.ensures.marks
          c.in_ok-tell_stayed.ensures.writes has c.pass.ensures.pipeline c.pass.ensures.params room refl;
      within = may.follows.within;
      small = omega (arith, told_number may.before after f may.told, may.follows.retired, may.follows.exceptions, may.follows.small, may.told.left, may.follows.leave);
    }

pub returns-in_err-tell_left-clause-told : goal.returns-in_err-tell_left-clause-told
returns-in_err-tell_left-clause-told g c =
    let left = err_from_is_err_and c.from_residual.result c.from_residual.ensures.1 in
    let after = g.S.Watched.sight c.args.side.now in
    let f = c.args.facts.now in
    rw (left.1) (λ kind p before t tr follows told.
    broken_left kind p before after t c.args.self.now f tr follows told _ _ c.in_err-tell_left.ensures.told)

pub returns-in_err-tell_squashed-clause-told : goal.returns-in_err-tell_squashed-clause-told
returns-in_err-tell_squashed-clause-told g c =
    let left = err_from_is_err_and c.from_residual-in_err-tell_squashed.result c.from_residual-in_err-tell_squashed.ensures.1 in
    let after = g.S.Watched.sight c.args.side.now in
    let f = c.args.facts.now in
    rw (left.1) (λ kind p before t tr follows told.
    broken_squashed kind p before after t c.args.self.now f tr follows told _ _ _ c.in_ok-tell_left.ensures.told c.in_err-tell_squashed.ensures.told)

pub returns-in_err-tell_stayed-clause-told : goal.returns-in_err-tell_stayed-clause-told
returns-in_err-tell_stayed-clause-told g c =
    let left = err_from_is_err_and c.from_residual-in_err-tell_stayed.result c.from_residual-in_err-tell_stayed.ensures.1 in
    let after = g.S.Watched.sight c.args.side.now in
    let f = c.args.facts.now in
    rw (left.1) (λ kind p before t tr follows told.
    broken_stayed kind p before after t c.args.self.now f tr follows told c.keep.new.self.marks.items c.keep.ensures.items _ _ _ _ c.in_ok-tell_left.ensures.told c.in_ok-tell_squashed.ensures.told
    c.in_err-tell_stayed.ensures.told)

pub returns-clause-told : goal.returns-clause-told
returns-clause-told g c = λ kind p before t tr follows told.
    let after = g.S.Watched.sight c.args.side.now in
    let old = c.args.self.now in
    let mid : Tracing = record old { last = c.pass.new.self; told = c.tell_stayed.new.told; text = c.tell_stayed.new.text } in
    told_all kind p before after t old c.args.facts.now tr follows told c.keep.new.self.marks.items c.keep.ensures.items mid c.in_ok-tell_stayed.ensures.marks c.in_ok-tell_stayed.ensures.writes
    (c.pass.ensures.passed before tr.keeps follows told) c.pass.ensures.pipeline c.pass.ensures.params (c.tell_stayed.ensures.capacity ∙ c.keep.ensures.capacity) refl _ _ _ _ _ c.tell_appended.result
    c.in_ok-tell_left.ensures.told c.in_ok-tell_squashed.ensures.told c.in_ok-tell_stayed.ensures.told c.tell_appended.ensures.told

pub returns-clause-stands : goal.returns-clause-stands
returns-clause-stands g c = λ kind p before t tr follows told.
    let after = g.S.Watched.sight c.args.side.now in
    let old = c.args.self.now in
    let mid : Tracing = record old { last = c.pass.new.self; told = c.tell_stayed.new.told; text = c.tell_stayed.new.text } in
    let has = c.pass.ensures.passed before tr.keeps follows told in
    let room = c.tell_stayed.ensures.capacity ∙ c.keep.ensures.capacity in
    stands_next kind p before after t old c.args.facts.now tr follows told c.keep.new.self.marks.items c.keep.ensures.items mid c.in_ok-tell_stayed.ensures.marks c.in_ok-tell_stayed.ensures.writes
    has c.pass.ensures.pipeline c.pass.ensures.params room refl c.tell_appended.new.self _ _ c.tell_appended.result refl refl
    (told_all kind p before after t old c.args.facts.now tr follows told c.keep.new.self.marks.items c.keep.ensures.items mid c.in_ok-tell_stayed.ensures.marks c.in_ok-tell_stayed.ensures.writes
    has c.pass.ensures.pipeline c.pass.ensures.params room refl
    (stand old.text (g.K.Sink.faults c.args.sink.now) (g.K.Sink.written c.args.sink.now)) _ _ _ _ c.tell_appended.result
    c.in_ok-tell_left.ensures.told c.in_ok-tell_squashed.ensures.told c.in_ok-tell_stayed.ensures.told c.tell_appended.ensures.told)
    c.tell_appended.ensures.introduced c.tell_appended.ensures.ready

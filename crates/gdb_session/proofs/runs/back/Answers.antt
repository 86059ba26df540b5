use Rattle.std.proofs.Common.{◌≡◌, None, refl, ap, sym, ◌∙◌}
use Rattle.gdb_model.specs.Session.{watched}
use Rattle.back_debug.specs.Debugger.{ended_in, has_moved}
use Rattle.gdb_session.specs.Standing.{range_in, session_at}
use Rattle.gdb_session.proofs.Looking.{looked}
use Rattle.gdb_session.proofs.Backwards.{back_begins, back_more, back_start, back_stops, back_watched, one_less}
use Rattle.gdb_session.proofs.runs.back.Goals as goal

pub loop-init : goal.loop-init
loop-init g c = λ s shown quiet h.
    back_start s (session_at c.args.debugger.now c.args.stops.now shown quiet) (range_in c.args.range) c.args.debugger.now refl h

pub returns-in-Some : goal.returns-in-Some
returns-in-Some g c = record {
  back = λ s shown quiet h.
      let o = session_at c.args.debugger.now c.args.stops.now shown quiet in
      let going = c.loop.invariant s shown quiet h in
      let stands = c.back.ensures.stands s going.stands in
      let look = looked s c.back.new.self c.watched.new.debugger (c.in-Some.ensures.stands s stands) c.in-Some.ensures.others in
      let less = one_less s o (range_in c.args.range) c.args.debugger.now c.loop.debugger c.back.new.self c.watched.new.debugger c.loop.counter c.steps_back-steps.result (has_moved c.back.result) going (c.steps_back-steps.ensures.count s h) c.steps_back-steps.ensures.most c.loop-test.true c.back.ensures.moved look in
      back_watched s o (range_in c.args.range) c.args.debugger.now c.loop.debugger c.watched.new.debugger c.step.new.self c.loop.counter c.in-Some.byte (ended_in c.step.result) refl going less
      (ap (watched s o) look.at ∙ sym (c.in-Some.ensures.byte s stands)) (c.step.ensures.told s less.stands);
}

pub returns-then-is_stop : goal.returns-then-is_stop
returns-then-is_stop g c = record {
  back = λ s shown quiet h.
      let o = session_at c.args.debugger.now c.args.stops.now shown quiet in
      let going = c.loop.invariant s shown quiet h in
      let stands = c.back.ensures.stands s going.stands in
      let look = looked s c.back.new.self c.watched.new.debugger (c.in_default.ensures.stands s stands) c.in_default.ensures.others in
      let less = one_less s o (range_in c.args.range) c.args.debugger.now c.loop.debugger c.back.new.self c.watched.new.debugger c.loop.counter c.steps_back-steps.result (has_moved c.back.result) going (c.steps_back-steps.ensures.count s h) c.steps_back-steps.ensures.most c.loop-test.true c.back.ensures.moved look in
      let none : watched s o c.watched.new.debugger.at ≡ None = ap (watched s o) look.at ∙ sym (c.in_default.ensures.byte s stands) in
      back_stops s o (range_in c.args.range) c.args.debugger.now c.loop.debugger c.watched.new.debugger c.loop.counter refl refl going less none
      (sym (c.is_stop.ensures.stop s shown quiet less.stands) ∙ c.if-is_stop.true);
}

pub loop-preserved : goal.loop-preserved
loop-preserved g c = λ s shown quiet h.
    let o = session_at c.args.debugger.now c.args.stops.now shown quiet in
    let going = c.loop.invariant s shown quiet h in
    let stands = c.back.ensures.stands s going.stands in
    let look = looked s c.back.new.self c.watched.new.debugger (c.in_default.ensures.stands s stands) c.in_default.ensures.others in
    let less = one_less s o (range_in c.args.range) c.args.debugger.now c.loop.debugger c.back.new.self c.watched.new.debugger c.loop.counter c.steps_back-steps.result (has_moved c.back.result) going (c.steps_back-steps.ensures.count s h) c.steps_back-steps.ensures.most c.loop-test.true c.back.ensures.moved look in
    let none : watched s o c.watched.new.debugger.at ≡ None = ap (watched s o) look.at ∙ sym (c.in_default.ensures.byte s stands) in
    back_more s o (range_in c.args.range) c.args.debugger.now c.loop.debugger c.watched.new.debugger c.loop.counter refl going less none
    (sym (c.is_stop.ensures.stop s shown quiet less.stands) ∙ c.if-is_stop.false)

pub returns : goal.returns
returns g c = record {
  back = λ s shown quiet h.
      let o = session_at c.args.debugger.now c.args.stops.now shown quiet in
      back_begins s o (range_in c.args.range) c.args.debugger.now c.loop.debugger c.loop.counter c.steps_back-steps.result refl (c.loop.invariant s shown quiet h) (c.steps_back-steps.ensures.count s h) c.loop-test.false;
}

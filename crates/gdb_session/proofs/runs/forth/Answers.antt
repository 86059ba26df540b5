use Rattle.std.proofs.Common.{◌≡◌, None, refl, ap, sym, ◌∙◌}
use Rattle.gdb_model.specs.Session.{watched}
use Rattle.gdb_session.specs.Standing.{range_in, session_at}
use Rattle.gdb_session.proofs.Looking.{looked}
use Rattle.gdb_session.proofs.Forwards.{forth_ended, forth_fewer, forth_looked, forth_more, forth_start, forth_stops, forth_watched}
use Rattle.gdb_session.proofs.runs.forth.Goals as goal

pub loop-byte-init : goal.loop-byte-init
loop-byte-init g c = λ s shown quiet h.
    forth_start s (session_at c.args.debugger.now c.args.stops.now shown quiet) (range_in c.args.range) c.args.debugger.now refl h

pub returns-in-Some : goal.returns-in-Some
returns-in-Some g c = record {
  forth = λ s shown quiet h.
      let o = session_at c.args.debugger.now c.args.stops.now shown quiet in
      let going = c.loop-byte.invariant s shown quiet h in
      let look = looked s c.loop-byte.debugger c.watched.new.debugger (c.in-Some.ensures.stands s going.stands) c.in-Some.ensures.others in
      forth_watched s o (range_in c.args.range) c.args.debugger.now c.loop-byte.debugger c.watched.new.debugger c.in-Some.byte going look (sym (c.in-Some.ensures.byte s going.stands));
}

pub returns-in-Ended : goal.returns-in-Ended
returns-in-Ended g c = record {
  forth = λ s shown quiet h.
      let o = session_at c.args.debugger.now c.args.stops.now shown quiet in
      let before = c.loop-byte.invariant s shown quiet h in
      let look = looked s c.loop-byte.debugger c.watched.new.debugger (c.in_default.ensures.stands s before.stands) c.in_default.ensures.others in
      let going = forth_looked s o (range_in c.args.range) c.args.debugger.now c.loop-byte.debugger c.watched.new.debugger before look in
      forth_ended s o (range_in c.args.range) c.args.debugger.now c.watched.new.debugger c.step.new.self c.in-Ended.end going (c.in-Ended.ensures.told s going.stands);
}

pub returns-then-is_stop : goal.returns-then-is_stop
returns-then-is_stop g c = record {
  forth = λ s shown quiet h.
      let o = session_at c.args.debugger.now c.args.stops.now shown quiet in
      let before = c.loop-byte.invariant s shown quiet h in
      let look = looked s c.loop-byte.debugger c.watched.new.debugger (c.in_default.ensures.stands s before.stands) c.in_default.ensures.others in
      let going = forth_looked s o (range_in c.args.range) c.args.debugger.now c.loop-byte.debugger c.watched.new.debugger before look in
      let told = c.in_default-step.ensures.told s going.stands in
      let none : watched s o c.watched.new.debugger.at ≡ None = ap (watched s o) look.at ∙ sym (c.in_default.ensures.byte s before.stands) in
      forth_stops s o (range_in c.args.range) c.args.debugger.now c.watched.new.debugger c.step.new.self refl going told none
      (sym (c.is_stop.ensures.stop s shown quiet told.stands) ∙ c.if-is_stop.true);
}

pub loop-byte-smaller : goal.loop-byte-smaller
loop-byte-smaller g c = forth_fewer c.loop-byte.debugger c.watched.new.debugger c.step.new.self c.in_default.ensures.others c.in_default-step.ensures.run c.in_default-step.ensures.told

pub loop-byte-preserved : goal.loop-byte-preserved
loop-byte-preserved g c = λ s shown quiet h.
    let o = session_at c.args.debugger.now c.args.stops.now shown quiet in
    let before = c.loop-byte.invariant s shown quiet h in
    let look = looked s c.loop-byte.debugger c.watched.new.debugger (c.in_default.ensures.stands s before.stands) c.in_default.ensures.others in
    let going = forth_looked s o (range_in c.args.range) c.args.debugger.now c.loop-byte.debugger c.watched.new.debugger before look in
    let told = c.in_default-step.ensures.told s going.stands in
    let none : watched s o c.watched.new.debugger.at ≡ None = ap (watched s o) look.at ∙ sym (c.in_default.ensures.byte s before.stands) in
    forth_more s o (range_in c.args.range) c.args.debugger.now c.watched.new.debugger c.step.new.self refl going told none
    (sym (c.is_stop.ensures.stop s shown quiet told.stands) ∙ c.if-is_stop.false)

use Rattle.std.proofs.Common.{◌∙◌, List, get_or, arith, refl, ap, subst}
use Rattle.std.proofs.lemmas.Result.{err_from_is_err_and}
use Rattle.fsim_ports.specs.Sink.{grown, Breaks}
use Rattle.back_debug.specs.declared.script.Command.{Command}
use Rattle.back_debug.specs.declared.script.Command.TheVariants.{Step}
use Rattle.back_debug.specs.Session.{position_of, session_text}
use Rattle.back_debug.proofs.Sessions.{played_start, played_more, played_breaks, played_all}
use Rattle.back_debug.proofs.session.play.Goals as goal

pub loop-command-init : goal.loop-command-init
loop-command-init g c = record {
  count = omega arith;
  played = λ s h. played_start s c.commands-command-items.result.now c.args.debugger.now (g.K.Sink.written c.args.sink.now) h;
}

pub returns-in_err-play_command-clause-stands : goal.returns-in_err-play_command-clause-stands
returns-in_err-play_command-clause-stands g c = λ s h. (c.in_err-play_command.ensures.comes s (c.loop-command.invariant.played s h).stands).stands

pub returns-in_err-play_command-clause-count : goal.returns-in_err-play_command-clause-count
returns-in_err-play_command-clause-count g c = omega (arith, c.loop-command.invariant.count, c.in_err-play_command.ensures.count)

pub returns-in_err-play_command-clause-written : goal.returns-in_err-play_command-clause-written
returns-in_err-play_command-clause-written g c = λ s h.
    let left = err_from_is_err_and c.from_residual.result c.from_residual.ensures.1 in
    let script : List Command = c.commands-command-items.result.now in
    let at = c.loop-command.invariant.played s h in
    let command : Command = get_or script c.loop-command.command-index (Step 0) in
    let broken = played_breaks s script c.args.debugger.now c.loop-command.debugger c.loop-command.command-index command (Step 0) at c.loop-command-test.true refl c.loop-command.invariant.count (c.in_err-play_command.ensures.written s at.stands) in
    let P : List Command → Type 0 = λ cs. Breaks (session_text c.args.debugger.now.steps.capacity s cs (position_of c.args.debugger.now)) (g.K.Sink.faults c.args.sink.now) (g.K.Sink.faults c.play_command.new.sink) (g.K.Sink.written c.args.sink.now) (g.K.Sink.written c.play_command.new.sink) in
    rw (left.1) (subst P c.commands-command-items.ensures.commands broken)

pub loop-command-preserved : goal.loop-command-preserved
loop-command-preserved g c = record {
  count = omega (arith, c.loop-command.invariant.count, c.in_ok-play_command.ensures.count);
  played = λ s h.
      let script : List Command = c.commands-command-items.result.now in
      let at = c.loop-command.invariant.played s h in
      let command : Command = get_or script c.loop-command.command-index (Step 0) in
      played_more s script c.args.debugger.now c.loop-command.debugger c.play_command.new.debugger c.loop-command.command-index command (Step 0)
      (g.K.Sink.written c.args.sink.now) (g.K.Sink.written c.loop-command.sink) (g.K.Sink.written c.play_command.new.sink)
      at c.loop-command-test.true refl (c.in_ok-play_command.ensures.comes s at.stands) (c.in_ok-play_command.ensures.written s at.stands);
}

pub returns-clause-stands : goal.returns-clause-stands
returns-clause-stands g c = λ s h. (c.loop-command.invariant.played s h).stands

pub returns-clause-count : goal.returns-clause-count
returns-clause-count g c = c.loop-command.invariant.count

pub returns-clause-written : goal.returns-clause-written
returns-clause-written g c = λ s h.
    let script : List Command = c.commands-command-items.result.now in
    played_all s script c.args.debugger.now c.loop-command.debugger c.loop-command.command-index (g.K.Sink.written c.args.sink.now) (g.K.Sink.written c.loop-command.sink) (c.loop-command.invariant.played s h) c.loop-command-test.false
    ∙ ap (λ cs. grown (g.K.Sink.written c.args.sink.now) (session_text c.args.debugger.now.steps.capacity s cs (position_of c.args.debugger.now))) c.commands-command-items.ensures.commands

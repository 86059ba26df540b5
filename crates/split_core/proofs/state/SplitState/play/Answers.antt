use Rattle.std.proofs.Common.{sym, subst, get_or, take, List}
use Rattle.std.proofs.lemmas.List.{take_more}
use Rattle.split_core.specs.declared.event.Event.{Event}
use Rattle.split_core.specs.declared.event.Event.TheVariants.{Compute}
use Rattle.split_core.proofs.Playing.{Played, played_more}
use Rattle.split_core.proofs.state.SplitState.play.Goals as goal

pub loop-event-preserved : goal.loop-event-preserved
loop-event-preserved g c =
    let events : List Event = c.args.events.now in
    let P : List Event → Type 0 = λ es. Played g.T.Timing.timed es c.args.self.now c.play_event.new.self in
    subst P (sym (take_more events c.loop-event.event-index Compute c.loop-event-test.true))
    (played_more g.T.Timing.timed g.met.T.Timing.laws (take c.loop-event.event-index events) (get_or events c.loop-event.event-index Compute) c.args.self.now c.loop-event.self c.play_event.new.self
    c.loop-event.invariant c.play_event.ensures.played)

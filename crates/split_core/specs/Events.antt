-- The events.
use Rattle.mono_model.specs.Split as split
use Rattle.split_core.specs.declared.event.Event.{Event}
use Rattle.split_core.specs.declared.event.Event.TheVariants.{Compute, Push, Obey, Tick, Take, Send}

abbrev pub event_in : Event → split.Event
event_in Compute = split.compute
event_in Push = split.push
event_in Obey = split.obey
event_in Tick = split.tick
event_in Take = split.take
event_in Send = split.send

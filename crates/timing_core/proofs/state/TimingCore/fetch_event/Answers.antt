use Rattle.timing_core.proofs.Idling.{waits_at, has_none}
use Rattle.timing_core.proofs.state.TimingCore.fetch_event.Goals as goal

pub returns-then-has_room : goal.returns-then-has_room
returns-then-has_room c = record { fetch = λ s t cycle k before. waits_at s t cycle c.args.self.now.resume k.resume before }

pub returns-else-has_room : goal.returns-else-has_room
returns-else-has_room c = record { fetch = λ s t cycle k before. has_none s t cycle c.has_room.result (c.has_room.ensures.both s t k) c.if-has_room.false }

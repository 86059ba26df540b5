use Rattle.std.proofs.Common.{◌∙◌}
use Rattle.reorder_buffer.proofs.Ring.{room_is}
use Rattle.reorder_buffer.proofs.window.Window.room.Goals as goal

pub returns-clause-room : goal.returns-clause-room
returns-clause-room c = rw (← c.self.view_is) (c.self.invariant.positions.masked ∙ room_is c.self.inside c.self.invariant)

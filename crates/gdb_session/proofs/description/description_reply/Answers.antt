use Rattle.std.specs.Fmt.{digits}
use Rattle.gdb_model.specs.Description.{description}
use Rattle.gdb_session.proofs.description.description_reply.Goals as goal

pub returns : goal.returns
unfolding description digits
returns c = record { text = c.part_reply.ensures.text }

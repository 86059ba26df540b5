use Rattle.gdb_packets.proofs.Received.{received}
use Rattle.gdb_packets.proofs.law.frame_is_received.Goals as goal

pub returns : goal.returns
returns c = record { received = received }

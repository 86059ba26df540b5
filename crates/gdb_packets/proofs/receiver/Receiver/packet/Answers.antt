use Rattle.std.proofs.Common.{ap, ◌∙◌}
use Rattle.gdb_packets.specs.Packet.{packet_of}
use Rattle.gdb_packets.specs.Receiver.{Kept}
use Rattle.gdb_packets.proofs.Kept.{packet_of-take}
use Rattle.gdb_packets.proofs.receiver.Receiver.packet.Goals as goal

pub returns : goal.returns
returns c = record {
  packet = λ s stands.
      c.parse.ensures.packet ∙ ap packet_of (c.as_slice.ensures.value ∙ ap (λ (kept : Kept). kept.content) c.self.view_is ∙ stands.content)
      ∙ packet_of-take s.content;
}

use Rattle.std.proofs.Common.{ap, ◌∙◌}
use Rattle.gdb_packets.specs.Packet.{or_malformed}
use Rattle.gdb_packets.proofs.Named.{fourth, no_row, second, third}
use Rattle.gdb_packets.proofs.parsing.named_packet.Goals as goal

pub returns-in-Some-after_text : goal.returns-in-Some-after_text
returns-in-Some-after_text c = record {
  packet = second c.args.content.now c.in-Some-after_text.rest.now c.or_malformed-in-Some-after_text.result c.in_default.ensures.rest c.in-Some-after_text.ensures.rest (c.or_malformed-in-Some-after_text.ensures.packet ∙ ap or_malformed c.description_in.ensures.packet);
}

pub returns-in-Some-after_text-2 : goal.returns-in-Some-after_text-2
returns-in-Some-after_text-2 c = record {
  packet = third c.args.content.now c.in-Some-after_text-2.rest.now c.or_malformed-in-Some-after_text-2.result c.in_default.ensures.rest c.in_default-after_text.ensures.rest c.in-Some-after_text-2.ensures.rest (c.or_malformed-in-Some-after_text-2.ensures.packet ∙ ap or_malformed c.monitor_in.ensures.packet);
}

pub returns-in-Some-after_text-3 : goal.returns-in-Some-after_text-3
returns-in-Some-after_text-3 c = record {
  packet = fourth c.args.content.now _ c.in_default.ensures.rest c.in_default-after_text.ensures.rest c.in_default-after_text-2.ensures.rest c.in-Some-after_text-3.ensures.rest;
}

pub returns-in_default-after_text-3 : goal.returns-in_default-after_text-3
returns-in_default-after_text-3 c = record {
  packet = no_row c.args.content.now c.in_default.ensures.rest c.in_default-after_text.ensures.rest c.in_default-after_text-2.ensures.rest c.in_default-after_text-3.ensures.rest;
}

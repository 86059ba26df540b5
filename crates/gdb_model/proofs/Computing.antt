-- One name that opens the definitions of a session, and of the run alone under it.
use Rattle.std.proofs.Common.{ℕ}
use Rattle.worked_examples.proofs.Computing.{computing as machine}
use Rattle.hex.specs.Hex.{decode_pairs, encode_with}
use Rattle.std.specs.Fmt.{digits}
use Rattle.back_debug.specs.Debugger.{floors}
use Rattle.gdb_packets.specs.Packet.{after_text}
use Rattle.gdb_model.specs.Stops.{first_stop, last_stop}
use Rattle.gdb_model.specs.Description.{description}
use Rattle.gdb_model.specs.Talk.{talk_text}

unfoldable pub computing : ℕ
unfolding machine decode_pairs encode_with digits floors after_text first_stop last_stop description talk_text
computing = 0

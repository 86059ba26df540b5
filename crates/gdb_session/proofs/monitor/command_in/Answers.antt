use Rattle.std.proofs.Common.{◌<◌, length, arith}
use Rattle.gdb_session.proofs.Words.{command_long}
use Rattle.gdb_session.proofs.monitor.command_in.Goals as goal

pub returns-then-len-gt-ROOM : goal.returns-then-len-gt-ROOM
returns-then-len-gt-ROOM c =
    let long : 25 < length c.args.bytes.now = omega (arith, c.if-len-gt-ROOM.true, c.len.ensures.len) in
    record { command = command_long c.args.bytes.now long }

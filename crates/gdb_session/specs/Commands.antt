-- A command for the monitor, as code has it.
use Rattle.std.specs.Prelude.{ℕ, List, [], codes, if◌then◌else◌, Option, Some, None}
use Rattle.std.specs.Str.{bytes_eq}
use Rattle.gdb_packets.specs.Packet.{after_text}
use Rattle.mono_model.specs.Report.{Text}
use Rattle.mono_model.specs.declared.setup.Setup.{Setup}
use Rattle.func_model.specs.History.{walk}
use Rattle.gdb_model.specs.Session.{Session}
use Rattle.gdb_model.specs.Talk.{position_in, usage_line, where_line}
use Rattle.gdb_session.specs.declared.monitor.Command.{Command}
use Rattle.gdb_session.specs.declared.monitor.Command.TheVariants as command

abbrev pub stop_by : Option ℕ → Command
stop_by None = command.Unknown
stop_by (Some at) = command.Stop (Some at)

abbrev pub stop_at : Option (List ℕ) → Command
stop_at None = command.Unknown
stop_at (Some word) = stop_by (position_in word)

abbrev pub command_of : List ℕ → Command
command_of word =
    if bytes_eq word (codes "where") then command.Where
    else if bytes_eq word (codes "output") then command.Output
    else if bytes_eq word (codes "stop") then command.Stop None
    else stop_at (after_text (codes "stop ") word)

-- a session once it obeyed a command
abbrev pub obeyed : Command → Session → Session
obeyed (command.Stop mark) session = record session { mark = mark }
obeyed command session = session

-- what a command has to tell
abbrev pub told_of : Setup → Command → Session → Text
told_of s command.Where session = where_line s session
told_of s command.Output session = (walk s session.at).output
told_of s (command.Stop mark) session = []
told_of s command.Unknown session = usage_line

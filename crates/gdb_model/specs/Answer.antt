-- What is written of a run, forwards and backwards (GDB manual, "Remote Protocol", "Stop Reply
-- Packets").
use Rattle.std.specs.Prelude.{ℕ, ◌+◌, ◌-◌, ◌/◌, false, if◌then◌else◌, List, [], ◌++◌, codes, drop, length, map}
use Rattle.std.specs.Fmt.{digits}
use Rattle.std.specs.Fork.{slice_chunk}
use Rattle.std.specs.List.{flat_map, range_with_len}
use Rattle.hex.specs.Hex.{encode_lower}
use Rattle.mono_model.specs.declared.final_state.End.{End}
use Rattle.mono_model.specs.declared.setup.Setup.{Setup}
use Rattle.mono_model.specs.Report.{Text, ends_open, line_feed, status_text}
use Rattle.func_model.specs.History.{walk}
use Rattle.gdb_packets.specs.Frame.{frame}
use Rattle.gdb_model.specs.Session.{Session}
use Rattle.gdb_model.specs.Stops.{Reason, Stopped, begin, ended, stop, watch}

-- how many bytes of text a packet has room for, two digits each after an `O`
abbrev pub piece_size : ℕ
piece_size = 2047

-- a text in pieces of this size, and a rest
abbrev pub pieces : Text → List Text
pieces text =
    map (slice_chunk text piece_size) (range_with_len 0 ((length text + (piece_size - 1)) / piece_size))

-- a text that GDB shows
abbrev pub shown_text : Text → Text
shown_text text = flat_map (λ piece. frame (codes "O" ++ encode_lower piece)) (pieces text)

-- output that was not shown
abbrev pub new_output : Setup → Session → ℕ → Text
new_output s session at = drop session.shown (walk s at).output

-- how the run has ended, as a line of its own
abbrev pub end_line : Text → End → Text
end_line output end =
    (if ends_open output then line_feed else []) ++ codes "fast: " ++ status_text end ++ line_feed

-- the same to GDB, if that is why a run stops
abbrev pub end_text : Text → Reason → Text
end_text output (ended end) = shown_text (end_line output end)
end_text output reason = []

-- the reply of a stop
abbrev pub stop_reply : Reason → Text
stop_reply stop = codes "T05"
stop_reply (ended end) = codes "T05replaylog:end;"
stop_reply begin = codes "T05replaylog:begin;"
stop_reply (watch byte) = codes "T05watch:" ++ digits 16 false byte ++ codes ";"

abbrev pub forth_text : Setup → Session → Stopped → Text
forth_text s session stopped =
    shown_text (new_output s session stopped.at)
    ++ end_text (walk s stopped.at).output stopped.reason ++ frame (stop_reply stopped.reason)

abbrev pub back_text : Stopped → Text
back_text stopped = frame (stop_reply stopped.reason)

-- What each packet does to a session, and what is written of the bytes that a debugger sends.
use Rattle.std.specs.Prelude.{ℕ, ◌+◌, ◌^◌, ◌==◌, nat_le, nat_lt, ◌&&◌, Bool, true, false, not}
use Rattle.std.specs.Prelude.{min, List, [], ◌∷◌, ◌++◌, codes, decimal, drop, filter, length, map}
use Rattle.std.specs.Prelude.{take, if◌then◌else◌, Option, Some, None, unwrap_or}
use Rattle.std.specs.Char.{is_digit}
use Rattle.std.specs.Int.{to_le_bytes, w32}
use Rattle.std.specs.List.{flat_map, list_all, list_any, range_with_len}
use Rattle.std.specs.Str.{bytes_eq}
use Rattle.std.specs.Str.Parse.{digits_value}
use Rattle.hex.specs.Hex.{encode_lower}
use Rattle.mono_model.specs.declared.final_state.End.{End}
use Rattle.mono_model.specs.declared.final_state.End.TheVariants.{Running}
use Rattle.mono_model.specs.declared.setup.Setup.{Setup}
use Rattle.mono_model.specs.Report.{Text, line_feed, status_text}
use Rattle.func_model.specs.History.{end_at, walk}
use Rattle.gdb_packets.specs.Frame.{frame}
use Rattle.gdb_packets.specs.Hexadecimal.{little}
use Rattle.gdb_packets.specs.Packet.{after_text, packet_of}
use Rattle.gdb_packets.specs.Stream.{Stream, acknowledgment, arrival, is_answered, next, opening}
use Rattle.gdb_packets.specs.declared.arrival.Arrival.{Arrival}
use Rattle.gdb_packets.specs.declared.packet.Packet.{Packet}
use Rattle.gdb_packets.specs.declared.packet.Packet.TheVariants as packet
use Rattle.gdb_packets.specs.declared.packet.Point.{Point}
use Rattle.gdb_packets.specs.declared.packet.PointKind.{PointKind}
use Rattle.gdb_packets.specs.declared.packet.PointKind.TheVariants as kind
use Rattle.func_model.specs.Position.{byte_at}
use Rattle.gdb_model.specs.Registers.{register_at}
use Rattle.gdb_model.specs.Session.{Session, start_session}
use Rattle.gdb_model.specs.Stops.{Range, Stopped, all, back, forth, moved_to, none, within}
use Rattle.gdb_model.specs.Description.{description}
use Rattle.gdb_model.specs.Answer.{back_text, forth_text, shown_text}

-- a session once a packet was played, and what is written of it
pub record Played : Type 0 where
  pub session : Session
  pub text : Text

-- one reply, and nothing changes
abbrev pub replied : Session → Text → Played
replied session content = record { session = session; text = frame content }

abbrev pub good : Text
good = codes "OK"

abbrev pub bad : Text
bad = codes "E01"

abbrev pub reply_if : Bool → Text
reply_if holds = if holds then good else bad

-- what a packet may hold, and what GDB may ask for
abbrev pub features : Text
features =
    codes "PacketSize=1000;QStartNoAckMode+;qXfer:features:read+;ReverseStep+;ReverseContinue+"

-- registers

abbrev pub little_or_bad : Option ℕ → Text
little_or_bad None = bad
little_or_bad (Some value) = little value

-- the registers that GDB wants at each stop: x0 to x31, and pc
abbrev pub registers_text : Setup → ℕ → Text
registers_text s at =
    flat_map (λ number. little (unwrap_or (register_at s at number) 0)) (range_with_len 0 33)

-- the bytes of a value, the lowest first
abbrev pub are_bytes_of : ℕ → List ℕ → Bool
are_bytes_of value bytes = bytes_eq bytes (to_le_bytes w32 value)

abbrev pub has_bytes : List ℕ → Option ℕ → Bool
has_bytes bytes None = false
has_bytes bytes (Some value) = are_bytes_of value bytes

-- memory

-- how many bytes fill a packet, two digits each
abbrev pub memory_limit : ℕ
memory_limit = 2048

-- the bytes from an address on, so many or up to the first that isn't there
abbrev pub bytes_from : Setup → ℕ → ℕ → ℕ → List ℕ
bytes_from s at addr count = known (map (byte_at s at) (range_with_len addr count))
  where
    known : List (Option ℕ) → List ℕ
    known [] = []
    known (None ∷ rest) = []
    known (Some byte ∷ rest) = byte ∷ known rest

abbrev pub hex_or_bad : List ℕ → Text
hex_or_bad [] = bad
hex_or_bad (byte ∷ bytes) = encode_lower (byte ∷ bytes)

abbrev pub memory_text : Setup → ℕ → ℕ → ℕ → Text
memory_text s at addr count = hex_or_bad (bytes_from s at addr (min count memory_limit))

-- memory has these bytes already; to write others is refused
abbrev pub has_memory : Setup → ℕ → ℕ → ℕ → List ℕ → Bool
has_memory s at addr count bytes =
    length bytes == count && bytes_eq (bytes_from s at addr count) bytes

-- points

abbrev pub kind_number : PointKind → ℕ
kind_number kind.Software = 0
kind_number kind.Hardware = 1
kind_number kind.Written = 2
kind_number kind.Read = 3
kind_number kind.Accessed = 4

abbrev pub is_same : Point → Point → Bool
is_same point other =
    kind_number point.kind == kind_number other.kind && point.address == other.address
    && point.size == other.size

-- how many points a session has room for
abbrev pub points_limit : ℕ
points_limit = 256

abbrev pub with_point : Point → Session → Session
with_point point session = record session { points = session.points ++ point ∷ [] }

abbrev pub set_point : Point → Session → Played
set_point point session =
    if list_any (is_same point) session.points then replied session good
    else if nat_lt (length session.points) points_limit then replied (with_point point session) good
    else replied session bad

abbrev pub without_point : Point → Session → Session
without_point point session =
    record session { points = filter (λ other. not (is_same point other)) session.points }

-- the target description

abbrev pub description_limit : ℕ
description_limit = 4095

-- a part of a text, after `l` if it reaches the end, else after `m`
abbrev pub part_text : Text → ℕ → ℕ → Text
part_text text place count =
    let part = take (min count description_limit) (drop place text) in
    (if nat_le (length text) (place + length part) then codes "l" else codes "m") ++ part

-- commands for the monitor

-- one to twenty decimal digits, below 2^64
abbrev pub position_in : List ℕ → Option ℕ
position_in word =
    if nat_le 1 (length word) && nat_le (length word) 20 && list_all (λ byte. is_digit byte 10) word
    && nat_lt (digits_value 10 word) (2 ^ 64)
    then Some (digits_value 10 word) else None

abbrev pub end_or_running : Option End → End
end_or_running None = Running
end_or_running (Some end) = end

abbrev pub where_line : Setup → Session → Text
where_line s session =
    codes "step " ++ decimal session.at ++ codes ", oldest " ++ decimal session.floor
    ++ codes ", output " ++ decimal (length (walk s session.at).output) ++ codes " bytes, "
    ++ status_text (end_or_running (end_at s session.at)) ++ line_feed

abbrev pub usage_line : Text
usage_line = codes "monitor where, output, stop, stop N" ++ line_feed

-- a text that the monitor answers, and then that it is done
abbrev pub told : Session → Text → Played
told session text = record { session = session; text = shown_text text ++ frame good }

abbrev pub marked_at : Option ℕ → Session → Played
marked_at None session = told session usage_line
marked_at (Some at) session = told (record session { mark = Some at }) []

abbrev pub by_position : Option (List ℕ) → Session → Played
by_position None session = told session usage_line
by_position (Some word) session = marked_at (position_in word) session

abbrev pub commanded : Setup → List ℕ → Session → Played
commanded s command session =
    if bytes_eq command (codes "where") then told session (where_line s session)
    else if bytes_eq command (codes "output") then told session (walk s session.at).output
    else if bytes_eq command (codes "stop") then told (record session { mark = None }) []
    else by_position (after_text (codes "stop ") command) session

-- runs

abbrev pub went_forth : ℕ → Setup → Session → Stopped → Played
went_forth history s session stopped =
    record { session = moved_to history s stopped.at session; text = forth_text s session stopped }

abbrev pub went_back : Session → Stopped → Played
went_back session stopped =
    record { session = record session { at = stopped.at }; text = back_text stopped }

abbrev pub go_forth : ℕ → Setup → Range → Session → Played
go_forth history s range session = went_forth history s session (forth s range session)

abbrev pub go_back : Setup → Range → Session → Played
go_back s range session = went_back session (back s range session)

-- what a packet does
abbrev pub played : ℕ → Setup → Packet → Session → Played
played history s packet.Reason session = replied session (codes "T05")
played history s packet.Registers session = replied session (registers_text s session.at)
played history s (packet.Register number) session =
    replied session (little_or_bad (register_at s session.at number))
played history s (packet.WriteRegister number bytes) session =
    replied session (reply_if (has_bytes bytes (register_at s session.at number)))
played history s (packet.Memory addr count) session =
    replied session (memory_text s session.at addr count)
played history s (packet.WriteMemory addr count bytes) session =
    replied session (reply_if (has_memory s session.at addr count bytes))
played history s packet.Actions session = replied session (codes "vCont;c;C;s;S;r")
played history s packet.Continue session = go_forth history s all session
played history s packet.Step session = go_forth history s none session
played history s (packet.StepRange start end) session = go_forth history s (within start end) session
played history s packet.ContinueBack session = go_back s all session
played history s packet.StepBack session = go_back s none session
played history s (packet.SetPoint point) session = set_point point session
played history s (packet.ClearPoint point) session = replied (without_point point session) good
played history s packet.Detach session = replied session good
played history s packet.Kill session = record { session = session; text = [] }
played history s packet.Supported session = replied session features
played history s packet.NoAcks session = replied (record session { quiet = true }) good
played history s (packet.Description place count) session =
    replied session (part_text description place count)
played history s (packet.Monitor command) session = commanded s command session
played history s packet.Unknown session = replied session []
played history s packet.Malformed session = replied session bad

-- a session, and the bytes that came
pub record Talk : Type 0 where
  pub session : Session
  pub stream : Stream

abbrev pub start_talk : Talk
start_talk = record { session = start_session; stream = opening }

abbrev pub answered : ℕ → Setup → Bool → List ℕ → Session → Played
answered history s true content session = played history s (packet_of content) session
answered history s false content session = record { session = session; text = [] }

-- what a packet that has come leads to
abbrev pub arrived : ℕ → Setup → List ℕ → Option Arrival → Session → Played
arrived history s content None session = record { session = session; text = [] }
arrived history s content (Some arrival) session =
    let played = answered history s (is_answered session.quiet arrival) content session in
    record played { text = acknowledgment session.quiet arrival ++ played.text }

-- what a byte leads to
abbrev pub taken : ℕ → Setup → Talk → ℕ → Played
taken history s talk byte =
    arrived history s talk.stream.content (arrival talk.stream byte) talk.session

abbrev pub went_on : ℕ → Setup → Talk → ℕ → Talk
went_on history s talk byte =
    record { session = (taken history s talk byte).session; stream = next talk.stream byte }

-- what is written of bytes, one after the other
unfoldable pub talk_text : ℕ → Setup → Talk → List ℕ → Text
talk_text history s talk [] = []
talk_text history s talk (byte ∷ bytes) =
    (taken history s talk byte).text ++ talk_text history s (went_on history s talk byte) bytes

-- the talk after bytes
unfoldable pub after_bytes : ℕ → Setup → Talk → List ℕ → Talk
after_bytes history s talk [] = talk
after_bytes history s talk (byte ∷ bytes) =
    after_bytes history s (went_on history s talk byte) bytes

abbrev pub session_text : ℕ → Setup → List ℕ → Text
session_text history s bytes = talk_text history s start_talk bytes

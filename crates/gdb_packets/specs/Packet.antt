-- What a packet asks for (GDB manual, "Remote Protocol", "Packets", "General Query Packets").
use Rattle.std.specs.Prelude.{ℕ, ◌+◌, ◌==◌, nat_le, ◌||◌, Bool, List, [], ◌∷◌, length, take, drop}
use Rattle.std.specs.Prelude.{codes, find, position, if◌then◌else◌, Option, Some, None, option_map}
use Rattle.std.specs.Prelude.{option_and_then, unwrap_or}
use Rattle.std.specs.List.{before_first}
use Rattle.std.specs.Option.{option_or}
use Rattle.std.specs.Str.{bytes_eq}
use Rattle.gdb_packets.specs.Hexadecimal.{bytes_in, number_in}
use Rattle.gdb_packets.specs.declared.packet.TheConstants.{CONTENT_LIMIT}
use Rattle.gdb_packets.specs.declared.packet.Packet.{Packet}
use Rattle.gdb_packets.specs.declared.packet.Packet.TheVariants as packet
use Rattle.gdb_packets.specs.declared.packet.Point.{Point}
use Rattle.gdb_packets.specs.declared.packet.PointKind.{PointKind}
use Rattle.gdb_packets.specs.declared.packet.PointKind.TheVariants as kind

infixl 10 ◌>>=◌
abbrev pub ◌>>=◌ : {A B : Type 0} → Option A → (A → Option B) → Option B
o >>= next = option_and_then next o

-- what stands before and after the first such byte
abbrev pub parted : ℕ → List ℕ → Option (List ℕ × List ℕ)
parted mark word =
    option_map (λ place. (take place word, drop (place + 1) word))
    (position (λ byte. byte == mark) word)

-- what follows a text, if a word begins with it
unfoldable pub after_text : List ℕ → List ℕ → Option (List ℕ)
after_text text word =
    if bytes_eq (take (length text) word) text then Some (drop (length text) word) else None

-- two numbers with a comma between them
abbrev pub numbers_in : List ℕ → Option (ℕ × ℕ)
numbers_in word = do
  parts ← parted 44 word
  first ← number_in parts.0
  second ← number_in parts.1
  Some (first, second)

-- a packet without an argument: the whole of its content, and what it asks for
pub record Plain : Type 0 where
  pub text : List ℕ
  pub asks : Packet

abbrev plain : List ℕ → Packet → Plain
plain text asks = record { text = text; asks = asks }

abbrev pub plain_rows : List Plain
plain_rows =
    plain (codes "?") packet.Reason
    ∷ plain (codes "g") packet.Registers
    ∷ plain (codes "c") packet.Continue
    ∷ plain (codes "s") packet.Step
    ∷ plain (codes "bc") packet.ContinueBack
    ∷ plain (codes "bs") packet.StepBack
    ∷ plain (codes "vCont?") packet.Actions
    ∷ plain (codes "D") packet.Detach
    ∷ plain (codes "k") packet.Kill
    ∷ plain (codes "qSupported") packet.Supported
    ∷ plain (codes "QStartNoAckMode") packet.NoAcks
    ∷ []

abbrev pub plain_packet : List ℕ → Option Packet
plain_packet content =
    option_map (λ row. row.asks) (find (λ row. bytes_eq content row.text) plain_rows)

-- `N`
abbrev pub register_in : List ℕ → Option Packet
register_in rest = option_map packet.Register (number_in rest)

-- `N=H`
abbrev pub register_write_in : List ℕ → Option Packet
register_write_in rest = do
  parts ← parted 61 rest
  number ← number_in parts.0
  bytes ← bytes_in parts.1
  Some (packet.WriteRegister number bytes)

-- `A,L`
abbrev pub memory_in : List ℕ → Option Packet
memory_in rest = option_map (λ numbers. packet.Memory numbers.0 numbers.1) (numbers_in rest)

-- `A,L:H`
abbrev pub memory_write_in : List ℕ → Option Packet
memory_write_in rest = do
  parts ← parted 58 rest
  numbers ← numbers_in parts.0
  bytes ← bytes_in parts.1
  Some (packet.WriteMemory numbers.0 numbers.1 bytes)

-- `c` and `s` alone, `C` and `S` with two bytes, which a signal's number would be, and
-- `rA,B`
abbrev pub action_in : List ℕ → Option Packet
action_in [] = None
action_in (letter ∷ rest) =
    if letter == 99 then (if length rest == 0 then Some packet.Continue else None)
    else if letter == 67 then (if length rest == 2 then Some packet.Continue else None)
    else if letter == 115 then (if length rest == 0 then Some packet.Step else None)
    else if letter == 83 then (if length rest == 2 then Some packet.Step else None)
    else if letter == 114
    then option_map (λ numbers. packet.StepRange numbers.0 numbers.1) (numbers_in rest)
    else None

-- `;` and `:`: what follows is for other threads
abbrev pub ends_action : ℕ → Bool
ends_action byte = (byte == 59) || (byte == 58)

-- the first action
abbrev pub actions_in : List ℕ → Option Packet
actions_in rest = action_in (before_first ends_action rest)

-- `A,L` of a part of the target description
abbrev pub description_in : List ℕ → Option Packet
description_in rest =
    option_map (λ numbers. packet.Description numbers.0 numbers.1) (numbers_in rest)

-- `H`, a command for the target's monitor
abbrev pub monitor_in : List ℕ → Option Packet
monitor_in rest = option_map packet.Monitor (bytes_in rest)

-- a packet with an argument: the text before it, and what reads it
pub record Form : Type 0 where
  pub text : List ℕ
  pub read : List ℕ → Option Packet

abbrev form : List ℕ → (List ℕ → Option Packet) → Form
form text read = record { text = text; read = read }

-- a letter and its argument
abbrev pub letter_rows : List Form
letter_rows =
    form (codes "p") register_in
    ∷ form (codes "P") register_write_in
    ∷ form (codes "m") memory_in
    ∷ form (codes "M") memory_write_in
    ∷ []

-- a name and its argument
abbrev pub named_rows : List Form
named_rows =
    form (codes "vCont;") actions_in
    ∷ form (codes "qXfer:features:read:target.xml:") description_in
    ∷ form (codes "qRcmd,") monitor_in
    ∷ form (codes "qSupported:") (λ rest. Some packet.Supported)
    ∷ []

-- an argument that is not of its form
abbrev pub or_malformed : Option Packet → Packet
or_malformed read = unwrap_or read packet.Malformed

abbrev pub formed_by : List Form → List ℕ → Option Packet
formed_by [] content = None
formed_by (row ∷ rows) content =
    option_or (option_map (λ rest. or_malformed (row.read rest)) (after_text row.text content))
    (formed_by rows content)

abbrev pub letter_packet : List ℕ → Option Packet
letter_packet content = formed_by letter_rows content

abbrev pub named_packet : List ℕ → Option Packet
named_packet content = formed_by named_rows content

-- the digits 0 to 4
abbrev pub point_kind : ℕ → Option PointKind
point_kind digit =
    if digit == 48 then Some kind.Software
    else if digit == 49 then Some kind.Hardware
    else if digit == 50 then Some kind.Written
    else if digit == 51 then Some kind.Read
    else if digit == 52 then Some kind.Accessed
    else None

-- `,A,L` of a point
abbrev pub point_in : PointKind → List ℕ → Option Point
point_in kind rest = do
  word ← after_text (codes ",") rest
  numbers ← numbers_in word
  Some (record { kind = kind; address = numbers.0; size = numbers.1 })

-- `Z` or `z` with the digit of a kind: a point is set or cleared
abbrev pub point_packet : List ℕ → Option Packet
point_packet [] = None
point_packet (letter ∷ []) = None
point_packet (letter ∷ digit ∷ rest) =
    if letter == 90
    then option_map (λ kind. or_malformed (option_map packet.SetPoint (point_in kind rest)))
    (point_kind digit)
    else if letter == 122
    then option_map (λ kind. or_malformed (option_map packet.ClearPoint (point_in kind rest)))
    (point_kind digit)
    else None

-- what a content asks for, if it is known
abbrev pub known_packet : List ℕ → Option Packet
known_packet content =
    option_or (plain_packet content) (option_or (point_packet content)
    (option_or (letter_packet content) (named_packet content)))

-- what a content asks for; one for which there is no room is an unknown packet
abbrev pub packet_of : List ℕ → Packet
packet_of content =
    if nat_le (length content) CONTENT_LIMIT
    then unwrap_or (known_packet content) packet.Unknown else packet.Unknown

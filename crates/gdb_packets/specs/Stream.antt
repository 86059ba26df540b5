-- The bytes that a debugger sends, one after the other (GDB manual, "Remote Protocol", "Overview",
-- "Packet Acknowledgment").
use Rattle.std.specs.Prelude.{◌≡◌, ℕ, ◌==◌, ◌&&◌, not, Bool, true, false, List, [], ◌∷◌, ◌++◌, if◌then◌else◌}
use Rattle.std.specs.Prelude.{Option, Some, None}
use Rattle.std.specs.Option.{option_map_or, option_to_list}
use Rattle.gdb_packets.specs.Frame.{checksum, frame}
use Rattle.gdb_packets.specs.Hexadecimal.{number_in}
use Rattle.gdb_packets.specs.declared.place.Place.{Place}
use Rattle.gdb_packets.specs.declared.place.Place.TheVariants.{Outside, Content, First, Second}
use Rattle.gdb_packets.specs.declared.arrival.Arrival.{Arrival}
use Rattle.gdb_packets.specs.declared.arrival.Arrival.TheVariants.{Whole, Damaged}

-- where in a packet the next byte comes, and the content of this packet so far, or of the last one
pub record Stream : Type 0 where
  pub place : Place
  pub content : List ℕ

abbrev pub opening : Stream
opening = record { place = Outside; content = [] }

abbrev pub started : Stream
started = record { place = Content; content = [] }

-- outside a packet all but `$` is dropped: acknowledgments, a request to interrupt, noise
abbrev pub outside : Stream → ℕ → Stream
outside s byte = if byte == 36 then started else s

abbrev pub added : Stream → ℕ → Stream
added s byte = record s { content = s.content ++ byte ∷ [] }

-- `$` begins a packet anew, `#` ends its content
abbrev pub inside : Stream → ℕ → Stream
inside s byte =
    if byte == 36 then started
    else if byte == 35 then record s { place = First }
    else added s byte

abbrev by_place : Place → Stream → ℕ → Stream
by_place Outside s byte = outside s byte
by_place Content s byte = inside s byte
by_place First s byte = record s { place = Second byte }
by_place (Second high) s byte = record s { place = Outside }

-- the stream after a byte
abbrev pub next : Stream → ℕ → Stream
next s byte = by_place s.place s byte

-- two digits of either case write the sum of a content
abbrev pub is_sum : ℕ → ℕ → List ℕ → Bool
is_sum high low content =
    option_map_or (λ sum. sum == checksum content) (number_in (high ∷ low ∷ [])) false

abbrev pub arrival_of : ℕ → ℕ → List ℕ → Arrival
arrival_of high low content = if is_sum high low content then Whole else Damaged

abbrev arrival_at : Place → List ℕ → ℕ → Option Arrival
arrival_at (Second high) content byte = Some (arrival_of high byte content)
arrival_at _ content byte = None

-- a packet that ends with a byte
abbrev pub arrival : Stream → ℕ → Option Arrival
arrival s byte = arrival_at s.place s.content byte

-- what acknowledges a packet: `+` or `-`, and nothing once none are wanted
abbrev pub acknowledgment : Bool → Arrival → List ℕ
acknowledgment true arrival = []
acknowledgment false Whole = 43 ∷ []
acknowledgment false Damaged = 45 ∷ []

-- a packet is answered; the sender of a damaged one sends it again, unless no acknowledgments are
-- wanted
abbrev pub is_answered : Bool → Arrival → Bool
is_answered quiet Whole = true
is_answered quiet Damaged = quiet

-- the stream after bytes
unfoldable pub after : Stream → List ℕ → Stream
after s [] = s
after s (byte ∷ bytes) = after (next s byte) bytes

-- the packets that end with them
unfoldable pub arrivals : Stream → List ℕ → List Arrival
arrivals s [] = []
arrivals s (byte ∷ bytes) = option_to_list (arrival s byte) ++ arrivals (next s byte) bytes

-- a byte that is neither `$` nor `#`
abbrev pub is_plain : ℕ → Bool
is_plain byte = not (byte == 36) && not (byte == 35)

-- outside a packet, the frame of a content is one whole packet with this content
pub record IsReceived (s : Stream) (content : List ℕ) : Type 0 where
  pub one : arrivals s (frame content) ≡ Whole ∷ []
  pub stream : after s (frame content) ≡ record { place = Outside; content = content }

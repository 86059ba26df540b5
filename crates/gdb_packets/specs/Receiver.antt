-- What a receiver keeps of the bytes that it took.
use Rattle.std.specs.Prelude.{◌≡◌, ℕ, ◌+◌, List, take}
use Rattle.gdb_packets.specs.Frame.{checksum}
use Rattle.gdb_packets.specs.Stream.{Stream}
use Rattle.gdb_packets.specs.declared.packet.TheConstants.{CONTENT_LIMIT}
use Rattle.gdb_packets.specs.declared.place.Place.{Place}

pub record Kept : Type 0 where
  pub place : Place
  pub content : List ℕ
  pub sum : ℕ

-- of the content, one byte more than there may be, and the sum
pub record StandsFor (s : Stream) (kept : Kept) : Type 0 where
  pub place : kept.place ≡ s.place
  pub content : kept.content ≡ take (CONTENT_LIMIT + 1) s.content
  pub sum : kept.sum ≡ checksum s.content
